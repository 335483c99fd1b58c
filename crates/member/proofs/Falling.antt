-- The permitted load of a member never rises with rot, lost area or dead load; that of a closely spaced stringer with dead load, where its
-- rot and its deck's stay. It is its formula's exact value rounded down.
-- Assumes nothing.
use Prim.Native.Nat.{ℕ, suc, ◌≤◌, ◌<◌}
use mathlib.Core.Path.{◌≡◌, refl, sym, ◌∙◌}
use mathlib.Core.Bool.{Bool, true, false, not, ◌||◌}
use native.Mathlib.Omega.{arith}
use lib.Dec.{eqb}
use borrow.Author.Tests.{eqb-true, eqb-false, eq-eqb, ne_eqb}
use Rattle.section.specs.Choose.{choose, all}
use Rattle.section.specs.Fraction.{Fraction, Sound, over, whole, hundredths, ◌⊑◌, ◌≐◌}
use Rattle.section.specs.Species.{bending_factor, shear_factor}
use Rattle.section.proofs.Order.{⊑_refl, ⊑_antisymm, ≐_⊑, ≐_⊒, ≐_trans, ·_mono, ·_sound, whole_sound, whole_mono, tenths_mono}
use Rattle.section.proofs.Crescents.{tiered_crescent_falls}
use Rattle.section.proofs.Sections.{tiered_modulus_falls, sawn_modulus_falls, sawn_area_falls, area_left_falls}
use Rattle.section.proofs.Terms.{dowel_capacity_falls}
use Rattle.member.specs.Fields.{KIND, SPECIES, SPAN, SPACING, DISTANCE, HEIGHT, DEAD_LOAD, CODE, S1, S2, S3, S4, S5, S6, MU_A, MU_B, FIELDS, LAST_CODE, field}
use Rattle.member.specs.Format.{AllowedMember, holds, used, unused_by_kind, unused_by_code, suits, bending}
use Rattle.member.specs.Formula.{Formula, Valid, permitted, Permitted, dowelled, keyed, plates}
use Rattle.member.specs.Wear.{rot_fields, lost_fields, rots, wears, Worn, SpreadKept, CountsAsRot, DepthIsRot, DeckRotIsRot}
use Rattle.member.specs.PermittedLoad.{section_modulus, section_inertia, board_inertia, stiffness_of, beta_of, net_area, capacity, joint_front, stringer_of, close_stringer_of, cross_beam_of, chord_of, joint_of, formula_of, permitted_load}
use Rattle.member.specs.Sizes.{Spaced, Inside, Ratio}
use Rattle.member.specs.declared.record.Member.{Member}
use Rattle.member.proofs.Allowed.{of_code, log_sizes, chord_code, dowel_code, area_code, code_of_stringer, code_of_close}
use Rattle.member.proofs.Exact.{permitted_exact}
use Rattle.member.proofs.EachKind.{stringer_mono, close_stringer_mono, cross_beam_mono, chord_mono, joint_mono}
use Rattle.section.proofs.Order.{over_sound}
use Rattle.member.proofs.Quantities.{by_kind, spacing, inside, ratio, valid_stringer, valid_close, valid_cross_beam, valid_chord, valid_joint}

pub hundredths_mono : {m n : ℕ} → m ≤ n → hundredths m ⊑ hundredths n
unfolding hundredths
hundredths_mono h = omega arith

-- a whole number over 100 for T in what stands in front of a dowelled joint
pub dowelled_same : (t : ℕ) (h K cuts : Fraction) {T front : Fraction} → Sound h → Sound K → Sound cuts → over t 100 ≐ T →
    front ≐ dowelled h (over t 100) K cuts →
    front ≐ dowelled h T K cuts
unfolding dowelled
dowelled_same t h K cuts sh sK sc e f =
    ≐_trans (·_sound (·_sound (·_sound (·_sound (whole_sound 2) sh) (over_sound t 100 (omega arith))) sK) sc) f
    (⊑_antisymm (·_mono (·_mono (·_mono ⊑_refl (≐_⊑ e)) ⊑_refl) ⊑_refl) (·_mono (·_mono (·_mono ⊑_refl (≐_⊒ e)) ⊑_refl) ⊑_refl))

-- the permitted load by kind
module _ (m : Member) (class track : ℕ) where
  pub stringer_load : field m KIND ≡ 1 → permitted_load m class track ≡ permitted (stringer_of m class track)
  unfolding permitted_load formula_of
  stringer_load e = rw (eq-eqb (field m KIND) 1 e)

  pub cross_beam_load : field m KIND ≡ 2 → permitted_load m class track ≡ permitted (cross_beam_of m class track)
  unfolding permitted_load formula_of
  cross_beam_load e = rw (ne_eqb (field m KIND) 1 (omega arith), eq-eqb (field m KIND) 2 e)

  pub chord_load : field m KIND ≡ 3 → permitted_load m class track ≡ permitted (chord_of m class track)
  unfolding permitted_load formula_of
  chord_load e = rw (ne_eqb (field m KIND) 1 (omega arith), ne_eqb (field m KIND) 2 (omega arith), eq-eqb (field m KIND) 3 e)

  pub close_load : field m KIND ≡ 7 → permitted_load m class track ≡ permitted (close_stringer_of m class track)
  unfolding permitted_load formula_of
  close_load e = rw e

  pub joint_load : 4 ≤ field m KIND → field m KIND ≤ 6 → permitted_load m class track ≡ permitted (joint_of m class track)
  unfolding permitted_load formula_of
  joint_load h l =
      rw (ne_eqb (field m KIND) 1 (omega arith), ne_eqb (field m KIND) 2 (omega arith), ne_eqb (field m KIND) 3 (omega arith), ne_eqb (field m KIND) 7 (omega arith))

-- the quantities of a joint, whichever of kinds 4, 5 and 6 it is
pub record Joint (m : Member) : Type 0 where
  pub distance : Inside (field m DISTANCE) (field m SPAN)
  pub spaced : Spaced (field m SPACING)
  pub ratio : Ratio (field m MU_A) (field m MU_B)

module _ {m : Member} (a : AllowedMember m) where
  pub joint : 4 ≤ field m KIND → field m KIND ≤ 6 → Joint m
  unfolding used unused_by_kind unused_by_code bending suits
  joint h l =
      by_kind a (λ k. field m KIND ≡ k → 4 ≤ k → k ≤ 6 → Joint m) (λ e h l. absurd (omega arith)) (λ e h l. absurd (omega arith))
      (λ e h l. absurd (omega arith))
      (λ e h l. record { distance = inside a 4 e refl refl refl; spaced = spacing a 4 e refl refl; ratio = ratio a 4 e refl refl refl })
      (λ e h l. record { distance = inside a 5 e refl refl refl; spaced = spacing a 5 e refl refl; ratio = ratio a 5 e refl refl refl })
      (λ e h l. record { distance = inside a 6 e refl refl refl; spaced = spacing a 6 e refl refl; ratio = ratio a 6 e refl refl refl })
      (λ e h l. absurd (omega arith))
      refl
      h
      l

  module _ (class track : ℕ) where
    -- what holds of the formula of each kind holds of the member's
    pub of_formula : (P : Formula → Type 0) → (field m KIND ≡ 1 → P (stringer_of m class track)) →
        (field m KIND ≡ 2 → P (cross_beam_of m class track)) →
        (field m KIND ≡ 3 → P (chord_of m class track)) →
        (4 ≤ field m KIND → field m KIND ≤ 6 → P (joint_of m class track)) →
        (field m KIND ≡ 7 → P (close_stringer_of m class track)) →
        P (formula_of m class track)
    unfolding formula_of
    of_formula P p1 p2 p3 p4 p7 =
        by_kind a
        (λ k. field m KIND ≡ k → P (choose (eqb k 1) (stringer_of m class track) (choose (eqb k 2) (cross_beam_of m class track) (choose (eqb k 3) (chord_of m class track) (choose (eqb k 7) (close_stringer_of m class track) (joint_of m class track))))))
        p1
        p2
        p3
        (λ e. p4 (omega arith) (omega arith))
        (λ e. p4 (omega arith) (omega arith))
        (λ e. p4 (omega arith) (omega arith))
        p7
        refl

    pub valid_formula : Valid (formula_of m class track)
    valid_formula =
        of_formula Valid (valid_stringer a class track) (valid_cross_beam a class track) (valid_chord a class track)
        (λ h l. let j = joint h l in valid_joint a class track j.distance j.spaced j.ratio)
        (valid_close a class track)

    -- 0 where the exact value is negative, else never above it and less than one unit below
    pub permitted_load_exact : Permitted (formula_of m class track) (permitted_load m class track)
    unfolding permitted_load
    permitted_load_exact = permitted_exact (formula_of m class track) valid_formula

-- a field that wears counts as rot
counts : (P : Member → Type 0) (f : ℕ) → ((m : Member) → P m → wears (field m KIND) (field m CODE) f ≡ true) → CountsAsRot P f
counts P f worn m m' p deeper alike = record { greater = λ g h t. worse g h (eqb g f) refl; alike = λ g h t. same g h t (eqb g f) refl }
  where
    worse : (g : ℕ) → g < FIELDS → (b : Bool) → eqb g f ≡ b → field m g ≤ field m' g
    worse g h true e = rw (eqb-true g f e) deeper
    worse g h false e = omega (arith, alike g h (eqb-false g f e))

    same : (g : ℕ) → g < FIELDS → wears (field m KIND) (field m CODE) g ≡ false → (b : Bool) → eqb g f ≡ b → field m g ≡ field m' g
    same g h t true e = absurd (mathlib.Core.Bool.false≢true (sym (rw (eqb-true g f e) at t) ∙ worn m p))
    same g h t false e = alike g h (eqb-false g f e)

pub depth_is_rot : DepthIsRot
unfolding wears rots rot_fields lost_fields
depth_is_rot = counts _ S2 (λ m c. rw c)

pub deck_rot_is_rot : DeckRotIsRot
unfolding wears rots
deck_rot_is_rot = counts _ MU_B (λ m k. rw k (rot_is_enough (holds MU_B (rot_fields (field m CODE))) _ _))
  where
    rot_is_enough : (section lost dead : Bool) → ((section || true) || lost || dead) ≡ true
    rot_is_enough true lost dead = refl
    rot_is_enough false lost dead = refl

module _ {m m' : Member} (a : AllowedMember m) (a' : AllowedMember m') (w : Worn m m') where
  -- a field that never wears, whatever the code
  abbrev never_wears : ℕ → Bool
  never_wears f = all (λ c. not (wears (field m KIND) (suc c) f)) LAST_CODE

  unworn : (f : ℕ) → not (wears (field m KIND) (field m CODE) f) ≡ true → f < FIELDS → field m f ≡ field m' f
  unworn f t h = w.alike f h (go (wears (field m KIND) (field m CODE) f) t)
    where
      go : (b : Bool) → not b ≡ true → b ≡ false
      go true t = absurd (mathlib.Core.Bool.false≢true t)
      go false t = refl

  fixed : (c f : ℕ) → not (wears (field m KIND) c f) ≡ true → field m CODE ≡ c → f < FIELDS → field m f ≡ field m' f
  fixed c f t e h = unworn f (rw e t) h

  worse : (c f : ℕ) → wears (field m KIND) c f ≡ true → field m CODE ≡ c → f < FIELDS → field m f ≤ field m' f
  worse c f t e h = w.greater f h (rw e t)

  pub same : (f : ℕ) → never_wears f ≡ true → f < FIELDS → field m f ≡ field m' f
  same f t h = unworn f (of_code (λ c. not (wears (field m KIND) c f)) t (field m KIND) (field m CODE) a.section) h

  pub same_kind : field m KIND ≡ field m' KIND
  unfolding wears rots rot_fields lost_fields
  same_kind = same KIND refl (omega arith)

  same_code : field m CODE ≡ field m' CODE
  unfolding wears rots rot_fields lost_fields
  same_code = same CODE refl (omega arith)

  dead_rises : field m DEAD_LOAD ≤ field m' DEAD_LOAD
  unfolding wears rots rot_fields lost_fields
  dead_rises = w.greater DEAD_LOAD (omega arith) (of_code (λ c. wears (field m KIND) c DEAD_LOAD) refl (field m KIND) (field m CODE) a.section)

  -- B wears in kind 7 alone
  ratio_kept : field m KIND ≤ 6 → field m MU_B ≡ field m' MU_B
  unfolding wears rots rot_fields lost_fields
  ratio_kept l = same MU_B (rw (ne_eqb (field m KIND) 7 (omega arith))) (omega arith)

  -- the net sections never rise
  modulus_falls : field m KIND ≤ 2 → section_modulus m' ⊑ section_modulus m
  unfolding section_modulus wears rots rot_fields lost_fields
  modulus_falls h = code_of_stringer a h log sawn crescent
    where
      log : field m CODE ≡ 1 → section_modulus m' ⊑ section_modulus m
      log e =
          rw (eq-eqb (field m CODE) 1 e, eq-eqb (field m' CODE) 1 (sym same_code ∙ e), ← (fixed 1 S1 refl e (omega arith)), ← (fixed 1 S3 refl e (omega arith)))
          (whole_mono (tiered_modulus_falls (field m S1) (field m S2) (field m' S2) (field m S3) (worse 1 S2 refl e (omega arith)) (log_sizes a e).diameter_high))

      sawn : field m CODE ≡ 2 → section_modulus m' ⊑ section_modulus m
      sawn e =
          rw (ne_eqb (field m CODE) 1 (omega arith), ne_eqb (field m' CODE) 1 (omega (arith, same_code)), ne_eqb (field m CODE) 5 (omega arith), ne_eqb (field m' CODE) 5 (omega (arith, same_code)), ← (fixed 2 S1 refl e (omega arith)), ← (fixed 2 S2 refl e (omega arith)), ← (fixed 2 S5 refl e (omega arith)))
          (sawn_modulus_falls (field m S1) (field m S2) (field m S3) (field m' S3) (field m S4) (field m' S4) (field m S5) (worse 2 S3 refl e (omega arith)) (worse 2 S4 refl e (omega arith)))

      crescent : field m CODE ≡ 5 → section_modulus m' ⊑ section_modulus m
      crescent e =
          rw (ne_eqb (field m CODE) 1 (omega arith), ne_eqb (field m' CODE) 1 (omega (arith, same_code)), eq-eqb (field m CODE) 5 e, eq-eqb (field m' CODE) 5 (sym same_code ∙ e), ← (fixed 5 S1 refl e (omega arith)), ← (fixed 5 S3 refl e (omega arith)))
          (tenths_mono (tiered_crescent_falls (field m S1) (field m S2) (field m' S2) (field m S3) (worse 5 S2 refl e (omega arith))))

  chord_area_falls : field m KIND ≡ 3 → net_area m' ≤ net_area m
  unfolding net_area wears rots rot_fields lost_fields
  chord_area_falls k =
      let e = chord_code a k in
      rw (eq-eqb (field m CODE) 2 e, eq-eqb (field m' CODE) 2 (sym same_code ∙ e), ← (fixed 2 S1 refl e (omega arith)), ← (fixed 2 S2 refl e (omega arith)), ← (fixed 2 S5 refl e (omega arith)))
      (sawn_area_falls (field m S1) (field m S2) (field m S3) (field m' S3) (field m S4) (field m' S4) (field m S5) (field m S6) (field m' S6) (worse 2 S3 refl e (omega arith)) (worse 2 S4 refl e (omega arith)) (worse 2 S6 refl e (omega arith)))

  joint_area_falls : 5 ≤ field m KIND → field m KIND ≤ 6 → net_area m' ≤ net_area m
  unfolding net_area wears rots rot_fields lost_fields
  joint_area_falls k l =
      let e = area_code a k l in
      rw (ne_eqb (field m CODE) 2 (omega arith), ne_eqb (field m' CODE) 2 (omega (arith, same_code)), ← (fixed 4 S1 refl e (omega arith)))
      (area_left_falls (field m S1) (field m S2) (field m' S2) (worse 4 S2 refl e (omega arith)))

  capacity_falls : field m KIND ≡ 4 → capacity m' ⊑ capacity m
  unfolding capacity wears rots rot_fields lost_fields
  capacity_falls k =
      let e = dowel_code a k in
      rw (← (fixed 3 S1 refl e (omega arith)), ← (fixed 3 S2 refl e (omega arith)), ← (fixed 3 S3 refl e (omega arith)), ← (fixed 3 S4 refl e (omega arith)))
      (dowel_capacity_falls (field m S1) (field m S2) (field m S3) (field m S4) (field m S5) (field m' S5) (worse 3 S5 refl e (omega arith)))

  module _ (class track : ℕ) where
    front_falls : 4 ≤ field m KIND → field m KIND ≤ 6 → joint_front m' ⊑ joint_front m
    unfolding joint_front dowelled keyed plates wears rots rot_fields lost_fields
    front_falls h l =
        rw (← same_kind, ← (same SPECIES refl (omega arith)), ← (same HEIGHT refl (omega arith)))
        (by_kind a
        (λ k. field m KIND ≡ k → 4 ≤ k → k ≤ 6 →
        choose (eqb k 4) (dowelled (whole (field m HEIGHT)) (capacity m') (bending_factor (field m SPECIES)) (whole (field m' S6))) (choose (eqb k 5) (keyed (whole (field m HEIGHT)) (whole (net_area m')) (shear_factor (field m SPECIES))) (plates (whole (field m HEIGHT)) (whole (net_area m')))) ⊑
        choose (eqb k 4) (dowelled (whole (field m HEIGHT)) (capacity m) (bending_factor (field m SPECIES)) (whole (field m S6))) (choose (eqb k 5) (keyed (whole (field m HEIGHT)) (whole (net_area m)) (shear_factor (field m SPECIES))) (plates (whole (field m HEIGHT)) (whole (net_area m)))))
        (λ e h l. absurd (omega arith))
        (λ e h l. absurd (omega arith))
        (λ e h l. absurd (omega arith))
        (λ e h l. rw (← (fixed 3 S6 refl (dowel_code a e) (omega arith))) (·_mono (·_mono (·_mono ⊑_refl (capacity_falls e)) ⊑_refl) ⊑_refl))
        (λ e h l. ·_mono (·_mono ⊑_refl (whole_mono (joint_area_falls (omega arith) (omega arith)))) ⊑_refl)
        (λ e h l. ·_mono ⊑_refl (whole_mono (joint_area_falls (omega arith) (omega arith))))
        (λ e h l. absurd (omega arith))
        refl
        h
        l)

    stringer_falls : field m KIND ≡ 1 → permitted (stringer_of m' class track) ≤ permitted (stringer_of m class track)
    unfolding wears rots rot_fields lost_fields
    stringer_falls e =
        rw (← (same SPECIES refl (omega arith)), ← (same SPAN refl (omega arith)), ← (same SPACING refl (omega arith)))
        (stringer_mono _ _ _ _ (rw (← (same SPECIES refl (omega arith)), ← (same SPAN refl (omega arith)), ← (same SPACING refl (omega arith))) at (valid_stringer a' class track (sym same_kind ∙ e))) (valid_stringer a class track e)
        (modulus_falls (omega arith))
        (hundredths_mono dead_rises))

    cross_beam_falls : field m KIND ≡ 2 → permitted (cross_beam_of m' class track) ≤ permitted (cross_beam_of m class track)
    unfolding wears rots rot_fields lost_fields
    cross_beam_falls e =
        rw (← (same SPECIES refl (omega arith)), ← (same SPAN refl (omega arith)), ← (same DISTANCE refl (omega arith)))
        (cross_beam_mono _ _ _ _ (rw (← (same SPECIES refl (omega arith)), ← (same SPAN refl (omega arith)), ← (same DISTANCE refl (omega arith))) at (valid_cross_beam a' class track (sym same_kind ∙ e))) (valid_cross_beam a class track e)
        (modulus_falls (omega arith))
        (hundredths_mono dead_rises))

    chord_falls : field m KIND ≡ 3 → permitted (chord_of m' class track) ≤ permitted (chord_of m class track)
    unfolding wears rots rot_fields lost_fields
    chord_falls e =
        rw (← (same HEIGHT refl (omega arith)), ← (same SPECIES refl (omega arith)), ← (same SPAN refl (omega arith)), ← (same DISTANCE refl (omega arith)), ← (same SPACING refl (omega arith)))
        (chord_mono _ _ _ _ _ _ (rw (← (same HEIGHT refl (omega arith)), ← (same SPECIES refl (omega arith)), ← (same SPAN refl (omega arith)), ← (same DISTANCE refl (omega arith)), ← (same SPACING refl (omega arith))) at (valid_chord a' class track (sym same_kind ∙ e))) (valid_chord a class track e)
        (whole_mono (chord_area_falls e))
        (hundredths_mono dead_rises))

    joint_falls : 4 ≤ field m KIND → field m KIND ≤ 6 → permitted (joint_of m' class track) ≤ permitted (joint_of m class track)
    unfolding wears rots rot_fields lost_fields
    joint_falls h l =
        let j = joint a h l in
        let j' = joint a' (omega (arith, same_kind)) (omega (arith, same_kind)) in
        rw (← (same SPAN refl (omega arith)), ← (same DISTANCE refl (omega arith)), ← (same SPACING refl (omega arith)), ← (same MU_A refl (omega arith)), ← (ratio_kept l))
        (joint_mono _ _ _ _ _ (rw (← (same SPAN refl (omega arith)), ← (same DISTANCE refl (omega arith)), ← (same SPACING refl (omega arith)), ← (same MU_A refl (omega arith)), ← (ratio_kept l)) at (valid_joint a' class track j'.distance j'.spaced j'.ratio)) (valid_joint a class track j.distance j.spaced j.ratio)
        (front_falls h l)
        (hundredths_mono dead_rises))

    -- where the rot is the same, so are the section and the spread of closely spaced stringers
    module _ (e : field m KIND ≡ 7) (k : SpreadKept m m') where
      kept : (c f : ℕ) → field m CODE ≡ c → f < FIELDS → (holds f (lost_fields c) || eqb f DEAD_LOAD) ≡ false → field m f ≡ field m' f
      unfolding wears
      kept c f ec h t = go (rots 7 c f) refl
        where
          go : (b : Bool) → rots 7 c f ≡ b → field m f ≡ field m' f
          go true r = k e f h (rw ec r)
          go false r = w.alike f h (rw (e, ec, r) t)

      kept_in_both : (f : ℕ) → f < FIELDS → (holds f (lost_fields 1) || eqb f DEAD_LOAD) ≡ false → (holds f (lost_fields 2) || eqb f DEAD_LOAD) ≡ false →
          field m f ≡ field m' f
      kept_in_both f h t u = code_of_close a e (λ c. kept 1 f c h t) (λ c. kept 2 f c h u)

      modulus_kept : section_modulus m' ≡ section_modulus m
      unfolding section_modulus lost_fields
      modulus_kept =
          rw (← same_code, ← (kept_in_both S1 (omega arith) refl refl), ← (kept_in_both S2 (omega arith) refl refl), ← (kept_in_both S3 (omega arith) refl refl), ← (kept_in_both S4 (omega arith) refl refl), ← (kept_in_both S5 (omega arith) refl refl))

      beta_kept : beta_of m' track ≡ beta_of m track
      unfolding beta_of stiffness_of section_inertia board_inertia lost_fields
      beta_kept =
          rw (← same_code, ← (kept_in_both S1 (omega arith) refl refl), ← (kept_in_both S2 (omega arith) refl refl), ← (kept_in_both S3 (omega arith) refl refl), ← (kept_in_both S4 (omega arith) refl refl), ← (kept_in_both S5 (omega arith) refl refl), ← (kept_in_both SPAN (omega arith) refl refl), ← (kept_in_both SPACING (omega arith) refl refl), ← (kept_in_both DISTANCE (omega arith) refl refl), ← (kept_in_both HEIGHT (omega arith) refl refl), ← (kept_in_both MU_A (omega arith) refl refl), ← (kept_in_both MU_B (omega arith) refl refl))

      close_falls : permitted (close_stringer_of m' class track) ≤ permitted (close_stringer_of m class track)
      unfolding lost_fields
      close_falls =
          rw (modulus_kept, beta_kept, ← (kept_in_both SPECIES (omega arith) refl refl), ← (kept_in_both SPAN (omega arith) refl refl))
          (close_stringer_mono _ _ _ _ (rw (modulus_kept, beta_kept, ← (kept_in_both SPECIES (omega arith) refl refl), ← (kept_in_both SPAN (omega arith) refl refl)) at (valid_close a' class track (sym same_kind ∙ e))) (valid_close a class track e)
          ⊑_refl
          (hundredths_mono dead_rises))

    -- the permitted load of a member never rises with rot, lost area or dead load; of closely spaced stringers with the dead load alone
    pub permitted_load_falls : SpreadKept m m' → permitted_load m' class track ≤ permitted_load m class track
    permitted_load_falls spread =
        by_kind a (λ k. field m KIND ≡ k → permitted_load m' class track ≤ permitted_load m class track)
        (λ e. rw (stringer_load m' class track (sym same_kind ∙ e), stringer_load m class track e) (stringer_falls e))
        (λ e. rw (cross_beam_load m' class track (sym same_kind ∙ e), cross_beam_load m class track e) (cross_beam_falls e))
        (λ e. rw (chord_load m' class track (sym same_kind ∙ e), chord_load m class track e) (chord_falls e))
        (λ e. joints (omega arith) (omega arith))
        (λ e. joints (omega arith) (omega arith))
        (λ e. joints (omega arith) (omega arith))
        (λ e. rw (close_load m' class track (sym same_kind ∙ e), close_load m class track e) (close_falls e spread))
        refl
      where
        joints : 4 ≤ field m KIND → field m KIND ≤ 6 → permitted_load m' class track ≤ permitted_load m class track
        joints h l =
            rw (joint_load m' class track (omega (arith, same_kind)) (omega (arith, same_kind)), joint_load m class track h l) (joint_falls h l)
