-- Each kind's formula: its divisors are above 0, and its permitted load never rises when the section falls or the dead load
-- rises. Every quantity is a fraction, so a log's W and a sawn beam's go the same way.
-- Assumes nothing.
use Prim.Native.Nat.{ℕ, ◌-◌, ◌≤◌, ◌<◌}
use mathlib.Core.Path.{◌≡◌, refl}
use native.Mathlib.Nat.{mul-one, le_antisymm}
use native.Mathlib.Omega.{arith}
use Rattle.section.specs.Fraction.{Fraction, Sound, over, whole, tenths, square, ◌·◌, ◌⊖◌, ◌⊑◌, ◌≐◌}
use Rattle.section.proofs.Order.{⊑_refl, ≐_⊑, ≐_⊒, ·_mono, ·_sound, over_sound, whole_sound, tenths_sound}
use Rattle.member.specs.Formula.{Formula, ⟨◌−◌⟩/◌, Positive, Valid, stringer, close_stringer, cross_beam, chord, joint, permitted}
use Rattle.member.proofs.Exact.{·_positive, permitted_mono}

pub whole_positive : (n : ℕ) → 0 < n → Positive (whole n)
unfolding whole
whole_positive n h = record { sound = whole_sound n; above_0 = h }

pub tenths_positive : (n : ℕ) → 0 < n → Positive (tenths n)
unfolding tenths
tenths_positive n h = record { sound = tenths_sound n; above_0 = h }

pub over_positive : (n d : ℕ) → 0 < n → 0 < d → Positive (over n d)
unfolding over
over_positive n d h s = record { sound = over_sound n d s; above_0 = h }

pub square_positive : {a : Fraction} → Positive a → Positive (square a)
unfolding square
square_positive p = ·_positive p p

pub rest_whole : (l x : ℕ) → whole l ⊖ whole x ≡ whole (l - x)
unfolding whole ◌⊖◌
rest_whole l x = rw (mul-one l, mul-one x)

pub rest_positive : (l x : ℕ) → x < l → Positive (whole l ⊖ whole x)
rest_positive l x h = rw (rest_whole l x) (whole_positive (l - x) (omega arith))

-- formulas (13) and (10) differ in the two constants and in what spreads the load, Kₐ or β
abbrev bent : (c g W K n q l v : Fraction) → Formula
bent c g W K n q l v = ⟨ c · W · K − g · q · square l ⟩/ (n · v · square l)

module _ {c g W K n q l v : Fraction} (sc : Sound c) (sg : Sound g) (sW : Sound W) (sK : Sound K) (pn : Positive n) (sq : Sound q) (pl : Positive l) (pv : Positive v) where
  bent_valid : Valid (bent c g W K n q l v)
  bent_valid =
      record {
        front = ·_sound (·_sound sc sW) sK;
        dead = ·_sound (·_sound sg sq) (square_positive pl).sound;
        divisor = ·_positive (·_positive pn pv) (square_positive pl);
      }

module _ {W K n q l v : Fraction} (sW : Sound W) (sK : Sound K) (pn : Positive n) (sq : Sound q) (pl : Positive l) (pv : Positive v) where
  pub stringer_valid : Valid (stringer W K n q l v)
  unfolding stringer
  stringer_valid = bent_valid (whole_sound _) (tenths_sound _) sW sK pn sq pl pv

  pub close_stringer_valid : Valid (close_stringer W K n q l v)
  unfolding close_stringer
  close_stringer_valid = bent_valid (whole_sound _) (tenths_sound _) sW sK pn sq pl pv

module _ {W K n q l x : Fraction} (sW : Sound W) (sK : Sound K) (pn : Positive n) (sq : Sound q) (pl : Positive l) (px : Positive x) where
  pub cross_beam_valid : Valid (cross_beam W K n q l x)
  unfolding cross_beam
  cross_beam_valid =
      record {
        front = ·_sound (·_sound (whole_sound _) sW) sK;
        dead = ·_sound (·_sound (tenths_sound _) sq) (square_positive pl).sound;
        divisor = ·_positive (·_positive pn px) pl;
      }

module _ (l : Fraction) {h F K n q x Kₐ : Fraction} (sh : Sound h) (sF : Sound F) (sK : Sound K) (pn : Positive n) (sq : Sound q) (pr : Positive (l ⊖ x)) (px : Positive x) (pKₐ : Positive Kₐ) where
  pub chord_valid : Valid (chord h F K n q l x Kₐ)
  unfolding chord
  chord_valid =
      record {
        front = ·_sound (·_sound (·_sound (whole_sound _) sh) sF) sK;
        dead = ·_sound (·_sound (·_sound (tenths_sound _) sq) pr.sound) px.sound;
        divisor = ·_positive (·_positive (·_positive pn pKₐ) pr) px;
      }

module _ (l : Fraction) {front n q μ x Kₐ : Fraction} (sf : Sound front) (pn : Positive n) (sq : Sound q) (pμ : Positive μ) (pr : Positive (l ⊖ x)) (px : Positive x) (pKₐ : Positive Kₐ) where
  pub joint_valid : Valid (joint front n q μ l x Kₐ)
  unfolding joint
  joint_valid =
      record {
        front = sf;
        dead = ·_sound (·_sound (·_sound (·_sound (tenths_sound _) sq) pμ.sound) pr.sound) px.sound;
        divisor = ·_positive (·_positive (·_positive (·_positive pμ pn) pKₐ) pr) px;
      }

-- the permitted load never rises when the section falls from the second to the first, or the dead load rises
bent_mono : (c g K n l v : Fraction) {W W' q q' : Fraction} → Valid (bent c g W K n q l v) → Valid (bent c g W' K n q' l v) → W ⊑ W' → q' ⊑ q →
    permitted (bent c g W K n q l v) ≤ permitted (bent c g W' K n q' l v)
bent_mono c g K n l v f f' hW hq =
    permitted_mono _ _ f f' refl (·_mono (·_mono ⊑_refl hW) ⊑_refl) (·_mono (·_mono ⊑_refl hq) ⊑_refl)

pub stringer_mono : (K n l Kₐ : Fraction) {W W' q q' : Fraction} → Valid (stringer W K n q l Kₐ) → Valid (stringer W' K n q' l Kₐ) → W ⊑ W' → q' ⊑ q →
    permitted (stringer W K n q l Kₐ) ≤ permitted (stringer W' K n q' l Kₐ)
unfolding stringer
stringer_mono K n l Kₐ = bent_mono _ _ K n l Kₐ

pub close_stringer_mono : (K n l β : Fraction) {W W' q q' : Fraction} → Valid (close_stringer W K n q l β) → Valid (close_stringer W' K n q' l β) → W ⊑ W' → q' ⊑ q →
    permitted (close_stringer W K n q l β) ≤ permitted (close_stringer W' K n q' l β)
unfolding close_stringer
close_stringer_mono K n l β = bent_mono _ _ K n l β

pub cross_beam_mono : (K n l x : Fraction) {W W' q q' : Fraction} → Valid (cross_beam W K n q l x) → Valid (cross_beam W' K n q' l x) → W ⊑ W' → q' ⊑ q →
    permitted (cross_beam W K n q l x) ≤ permitted (cross_beam W' K n q' l x)
unfolding cross_beam
cross_beam_mono K n l x v v' hW hq =
    permitted_mono _ _ v v' refl (·_mono (·_mono ⊑_refl hW) ⊑_refl) (·_mono (·_mono ⊑_refl hq) ⊑_refl)

pub chord_mono : (h K n l x Kₐ : Fraction) {F F' q q' : Fraction} → Valid (chord h F K n q l x Kₐ) → Valid (chord h F' K n q' l x Kₐ) → F ⊑ F' → q' ⊑ q →
    permitted (chord h F K n q l x Kₐ) ≤ permitted (chord h F' K n q' l x Kₐ)
unfolding chord
chord_mono h K n l x Kₐ v v' hF hq =
    permitted_mono _ _ v v' refl (·_mono (·_mono ⊑_refl hF) ⊑_refl) (·_mono (·_mono (·_mono ⊑_refl hq) ⊑_refl) ⊑_refl)

pub joint_mono : (n μ l x Kₐ : Fraction) {front front' q q' : Fraction} → Valid (joint front n q μ l x Kₐ) → Valid (joint front' n q' μ l x Kₐ) → front ⊑ front' → q' ⊑ q →
    permitted (joint front n q μ l x Kₐ) ≤ permitted (joint front' n q' μ l x Kₐ)
unfolding joint
joint_mono n μ l x Kₐ v v' hf hq =
    permitted_mono _ _ v v' refl hf (·_mono (·_mono (·_mono (·_mono ⊑_refl hq) ⊑_refl) ⊑_refl) ⊑_refl)

-- equal fractions for the section, or in front of a joint, give the same load
pub stringer_same : (K n q l Kₐ : Fraction) {W W' : Fraction} → Valid (stringer W K n q l Kₐ) → Valid (stringer W' K n q l Kₐ) → W ≐ W' →
    permitted (stringer W K n q l Kₐ) ≡ permitted (stringer W' K n q l Kₐ)
stringer_same K n q l Kₐ v v' e =
    le_antisymm (stringer_mono K n l Kₐ v v' (≐_⊑ e) ⊑_refl) (stringer_mono K n l Kₐ v' v (≐_⊒ e) ⊑_refl)

pub close_stringer_same : (K n q l β : Fraction) {W W' : Fraction} → Valid (close_stringer W K n q l β) → Valid (close_stringer W' K n q l β) → W ≐ W' →
    permitted (close_stringer W K n q l β) ≡ permitted (close_stringer W' K n q l β)
close_stringer_same K n q l β v v' e =
    le_antisymm (close_stringer_mono K n l β v v' (≐_⊑ e) ⊑_refl) (close_stringer_mono K n l β v' v (≐_⊒ e) ⊑_refl)

pub cross_beam_same : (K n q l x : Fraction) {W W' : Fraction} → Valid (cross_beam W K n q l x) → Valid (cross_beam W' K n q l x) → W ≐ W' →
    permitted (cross_beam W K n q l x) ≡ permitted (cross_beam W' K n q l x)
cross_beam_same K n q l x v v' e =
    le_antisymm (cross_beam_mono K n l x v v' (≐_⊑ e) ⊑_refl) (cross_beam_mono K n l x v' v (≐_⊒ e) ⊑_refl)

pub joint_same : (n q μ l x Kₐ : Fraction) {front front' : Fraction} → Valid (joint front n q μ l x Kₐ) → Valid (joint front' n q μ l x Kₐ) → front ≐ front' →
    permitted (joint front n q μ l x Kₐ) ≡ permitted (joint front' n q μ l x Kₐ)
joint_same n q μ l x Kₐ v v' e =
    le_antisymm (joint_mono n μ l x Kₐ v v' (≐_⊑ e) ⊑_refl) (joint_mono n μ l x Kₐ v' v (≐_⊒ e) ⊑_refl)
