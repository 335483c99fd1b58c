-- The quantities of an allowed member's formula keep to the ranges that the formulas ask for, and the formula's divisors are
-- above 0.
-- Assumes nothing.
use Prim.Native.Nat.{ℕ, ◌-◌, ◌≤◌}
use mathlib.Core.Path.{◌≡◌, refl}
use mathlib.Core.Bool.{Bool, true, false}
use native.Mathlib.Decide.{dec_le}
use native.Mathlib.Omega.{arith}
use lib.Dec.{eqb}
use Rattle.section.specs.Choose.{choose}
use Rattle.section.specs.Fraction.{Sound, whole}
use Rattle.section.specs.Units.{centimetres}
use Rattle.section.specs.Species.{bending_table, shear_table, bending_tenths, shear_tenths}
use Rattle.section.proofs.Choices.{of_choose}
use Rattle.section.proofs.Order.{·_sound, whole_sound, tenths_sound, hundredths_sound}
use Rattle.section.proofs.Sections.{sawn_modulus_sound}
use Rattle.section.proofs.Terms.{dowel_capacity_sound}
use Rattle.section.proofs.Table.{at_most_lem}
use Rattle.spread.proofs.Carried.{beta_above_0}
use Rattle.spread.proofs.Moments.{tiered_inertia_sound, sawn_inertia_sound, deck_inertia_sound}
use Rattle.member.specs.Fields.{KIND, SPECIES, SPAN, SPACING, DISTANCE, HEIGHT, DEAD_LOAD, CODE, MU_A, MU_B, LAST_KIND, field}
use Rattle.member.specs.Format.{AllowedMember, used, unused_by_kind, unused_by_code, ranges, range_of, suits, bending}
use Rattle.member.specs.Formula.{Positive, Valid, dowelled, keyed, plates}
use Rattle.member.specs.PermittedLoad.{load_factor, load_factor_tenths, distribution, section_modulus, section_inertia, board_inertia, capacity, joint_front, beta_of, stringer_of, close_stringer_of, cross_beam_of, chord_of, joint_of}
use Rattle.member.specs.Sizes.{Sizes, terms_of, Spaced, Inside, Ratio}
use Rattle.member.specs.declared.record.Member.{Member}
use Rattle.member.proofs.Allowed.{every_code, in_range}
use Rattle.member.proofs.EachKind.{stringer_valid, close_stringer_valid, cross_beam_valid, chord_valid, joint_valid, whole_positive, tenths_positive, over_positive, rest_positive}

-- the factors are at most 1.6
pub bending_cap : (species : ℕ) → bending_tenths species ≤ 16
bending_cap species = at_most_lem 16 bending_table refl (species - 1)

pub shear_cap : (species : ℕ) → shear_tenths species ≤ 16
shear_cap species = at_most_lem 16 shear_table refl (species - 1)

pub record LoadFactor (n : ℕ) : Type 0 where
  pub low : 11 ≤ n
  pub high : n ≤ 14

pub load_factor_range : (class : ℕ) → LoadFactor (load_factor_tenths class)
load_factor_range class = go (eqb class 0)
  where
    go : (t : Bool) → LoadFactor (choose t 14 11)
    go true = omega arith
    go false = omega arith

-- a fact of every kind
pub by_kind : {m : Member} → AllowedMember m → (P : ℕ → Type 0) → P 1 → P 2 → P 3 → P 4 → P 5 → P 6 → P 7 → P (field m KIND)
by_kind {m} a P p1 p2 p3 p4 p5 p6 p7 = go (field m KIND) a.kind.0 a.kind.1
  where
    at : (k n : ℕ) → P n → k ≡ n → P k
    at k n p e = rw e p

    go : (k : ℕ) → 1 ≤ k → k ≤ LAST_KIND → P k
    go k low high =
        elim (dec_le k 3) [
          | yes u ↦ elim (dec_le k 1) [ yes v ↦ at k 1 p1 (omega arith) | no v ↦ elim (dec_le k 2) [ yes w ↦ at k 2 p2 (omega arith) | no w ↦ at k 3 p3 (omega arith) ] ]
          | no u ↦
              elim (dec_le k 5) [
                | yes v ↦ elim (dec_le k 4) [ yes w ↦ at k 4 p4 (omega arith) | no w ↦ at k 5 p5 (omega arith) ]
                | no v ↦ elim (dec_le k 6) [ yes w ↦ at k 6 p6 (omega arith) | no w ↦ at k 7 p7 (omega arith) ]
              ]
        ]

-- the sizes of kind 7
pub record Close (m : Member) : Type 0 where
  pub spacing_low : 30 ≤ field m SPACING
  pub spacing_high : field m SPACING ≤ 100
  pub span_low : 100 ≤ field m SPAN
  pub span_high : field m SPAN ≤ 5000
  pub boards : field m DISTANCE ≤ 10
  pub thickness : field m HEIGHT ≤ 20
  pub width : field m MU_A ≤ 60

module _ {m : Member} (a : AllowedMember m) where
  -- every kind has a span and a dead load; at any load factor
  pub sizes_at : (n : ℕ) → LoadFactor n → Sizes (record { n = n; q = record { 0 = field m DEAD_LOAD }; l = centimetres (field m SPAN) })
  unfolding used unused_by_kind unused_by_code bending suits range_of ranges
  sizes_at n factor = by_kind a (λ j. field m KIND ≡ j → Sizes (record { n = n; q = record { 0 = field m DEAD_LOAD }; l = centimetres (field m SPAN) })) (of 1 refl refl) (of 2 refl refl) (of 3 refl refl) (of 4 refl refl) (of 5 refl refl) (of 6 refl refl) (of 7 refl refl) refl
    where
      of : (j : ℕ) → every_code j (λ c. used j c SPAN) ≡ true → every_code j (λ c. used j c DEAD_LOAD) ≡ true → field m KIND ≡ j → Sizes (record { n = n; q = record { 0 = field m DEAD_LOAD }; l = centimetres (field m SPAN) })
      of j l q e =
          let span = in_range a j SPAN e (omega arith) l in
          let dead = in_range a j DEAD_LOAD e (omega arith) q in
          record { load_factor_low = factor.low; load_factor_high = factor.high; dead_load = dead.1; span_low = omega (arith, span.0); span_high = span.1 }

  pub sizes : (class : ℕ) → Sizes (terms_of m class)
  sizes class = sizes_at _ (load_factor_range class)

  -- the rest by kind: each test says that the kind uses the field whatever its code
  pub species : (k : ℕ) → field m KIND ≡ k → every_code k (λ c. used k c SPECIES) ≡ true → (1 ≤ field m SPECIES) × (field m SPECIES ≤ 8)
  unfolding range_of ranges
  species k e t = in_range a k SPECIES e (omega arith) t

  pub spacing : (k : ℕ) → field m KIND ≡ k → eqb k 7 ≡ false → every_code k (λ c. used k c SPACING) ≡ true → Spaced (field m SPACING)
  unfolding range_of ranges
  spacing k e n t = let r = rw n at (in_range a k SPACING e (omega arith) t) in record { low = omega (arith, r.0); high = r.1 }

  pub height : (k : ℕ) → field m KIND ≡ k → eqb k 7 ≡ false → every_code k (λ c. used k c HEIGHT) ≡ true → field m HEIGHT ≤ 500
  unfolding range_of ranges
  height k e n t = let r = rw n at (in_range a k HEIGHT e (omega arith) t) in r.1

  -- of a cross beam the distance x is the panel length
  pub panel : field m KIND ≡ 2 → Spaced (field m DISTANCE)
  unfolding used unused_by_kind unused_by_code bending suits range_of ranges
  panel e = let r = in_range a 2 DISTANCE e (omega arith) refl in record { low = omega (arith, r.0); high = r.1 }

  pub inside : (k : ℕ) → field m KIND ≡ k → eqb k 7 ≡ false → every_code k (λ c. used k c DISTANCE) ≡ true → eqb k 2 ≡ false → Inside (field m DISTANCE) (field m SPAN)
  unfolding range_of ranges
  inside k e c t n = let r = rw (c, n) at (in_range a k DISTANCE e (omega arith) t) in record { low = r.0; high = omega (arith, r.0, r.1) }

  pub ratio : (k : ℕ) → field m KIND ≡ k → eqb k 7 ≡ false → every_code k (λ c. used k c MU_A) ≡ true → every_code k (λ c. used k c MU_B) ≡ true → Ratio (field m MU_A) (field m MU_B)
  unfolding range_of ranges
  ratio k e n t u =
      let r = rw n at (in_range a k MU_A e (omega arith) t) in
      let s = rw n at (in_range a k MU_B e (omega arith) u) in
      record { low_a = r.0; high_a = r.1; low_b = s.0; high_b = s.1 }

  -- closely spaced stringers and their deck
  pub close : field m KIND ≡ 7 → Close m
  unfolding used unused_by_kind unused_by_code bending suits range_of ranges
  close e =
      let d = in_range a 7 SPACING e (omega arith) refl in
      let l = in_range a 7 SPAN e (omega arith) refl in
      record {
        spacing_low = d.0;
        spacing_high = d.1;
        span_low = l.0;
        span_high = l.1;
        boards = (in_range a 7 DISTANCE e (omega arith) refl).1;
        thickness = (in_range a 7 HEIGHT e (omega arith) refl).1;
        width = (in_range a 7 MU_A e (omega arith) refl).1;
      }

-- the quantities that divide are above 0, and the sections' divisors are
pub load_factor_positive : (class : ℕ) → Positive (load_factor class)
load_factor_positive class = tenths_positive _ (omega (arith, (load_factor_range class).low))

pub distribution_positive : (d E : ℕ) → 1 ≤ d → Positive (distribution d E)
unfolding distribution
distribution_positive d E h = over_positive _ _ (omega arith) (omega arith)

pub modulus-sound : (m : Member) → Sound (section_modulus m)
unfolding section_modulus
modulus-sound m =
    of_choose Sound (eqb (field m CODE) 1) (whole_sound _)
    (of_choose Sound (eqb (field m CODE) 5) (tenths_sound _) (sawn_modulus_sound _ _ _ _ _))

pub inertia_sound : (m : Member) → Sound (section_inertia m)
unfolding section_inertia
inertia_sound m = of_choose Sound (eqb (field m CODE) 1) (tiered_inertia_sound _ _ _) (sawn_inertia_sound _ _ _ _ _)

pub board_sound : (m : Member) → Sound (board_inertia m)
unfolding board_inertia
board_sound m = deck_inertia_sound _ _ _ _

pub front_sound : (m : Member) → Sound (joint_front m)
unfolding joint_front dowelled keyed plates capacity
front_sound m =
    of_choose Sound (eqb (field m KIND) 4)
    (·_sound (·_sound (·_sound (·_sound (whole_sound 2) (whole_sound _)) (dowel_capacity_sound _ _ _ _ _)) (tenths_sound _)) (whole_sound _))
    (of_choose Sound (eqb (field m KIND) 5) (·_sound (·_sound (·_sound (tenths_sound 224) (whole_sound _)) (whole_sound _)) (tenths_sound _))
    (·_sound (·_sound (whole_sound 3800) (whole_sound _)) (whole_sound _)))

pub span_positive : {m : Member} → AllowedMember m → Positive (whole (field m SPAN))
span_positive a = whole_positive _ (sizes a 0).span_low

module _ {m : Member} (a : AllowedMember m) (class track : ℕ) where
  pub valid_stringer : field m KIND ≡ 1 → Valid (stringer_of m class track)
  unfolding used unused_by_kind unused_by_code bending suits
  valid_stringer e =
      stringer_valid (modulus-sound m) (tenths_sound _) (load_factor_positive class) (hundredths_sound _) (span_positive a)
      (distribution_positive _ track (spacing a 1 e refl refl).low)

  pub valid_close : field m KIND ≡ 7 → Valid (close_stringer_of m class track)
  unfolding beta_of
  valid_close e =
      close_stringer_valid (modulus-sound m) (tenths_sound _) (load_factor_positive class) (hundredths_sound _) (span_positive a)
      (over_positive _ 10000 (beta_above_0 _ (field m SPACING) track (omega (arith, (close a e).spacing_low))) (omega arith))

  pub valid_cross_beam : field m KIND ≡ 2 → Valid (cross_beam_of m class track)
  valid_cross_beam e =
      cross_beam_valid (modulus-sound m) (tenths_sound _) (load_factor_positive class) (hundredths_sound _) (span_positive a)
      (whole_positive _ (panel a e).low)

  pub valid_chord : field m KIND ≡ 3 → Valid (chord_of m class track)
  unfolding used unused_by_kind unused_by_code bending suits
  valid_chord e =
      let x = inside a 3 e refl refl refl in
      chord_valid (whole (field m SPAN)) (whole_sound _) (whole_sound _) (tenths_sound _) (load_factor_positive class) (hundredths_sound _)
      (rest_positive _ _ x.high)
      (whole_positive _ x.low)
      (distribution_positive _ track (spacing a 3 e refl refl).low)

  -- the joints, of whatever kind has the quantities of a joint
  pub valid_joint : Inside (field m DISTANCE) (field m SPAN) → Spaced (field m SPACING) → Ratio (field m MU_A) (field m MU_B) → Valid (joint_of m class track)
  valid_joint x d r =
      joint_valid (whole (field m SPAN)) (front_sound m) (load_factor_positive class) (hundredths_sound _)
      (over_positive _ _ r.low_a r.low_b)
      (rest_positive _ _ x.high)
      (whole_positive _ x.low)
      (distribution_positive _ track d.low)
