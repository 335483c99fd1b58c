-- A member's record: the tests of one field in plain words, and which tests give which fault.
use Prim.Native.Nat.{ℕ, ◌+◌, ◌<◌}
use mathlib.Core.Path.{◌≡◌, refl, sym, ◌∙◌}
use mathlib.Core.Bool.{Bool, true, false, not, ◌&&◌, ◌||◌, and_assoc}
use native.Mathlib.Numerals.{add-one}
use lib.Dec.{eqb}
use borrow.Author.Tests.{eqb-true, eq-eqb, ne_eqb, not-false}
use Rattle.member.specs.declared.record.Member.{Member}
use Rattle.member.specs.Fields.{KIND, SPAN, CODE, FIELDS, field}
use Rattle.member.specs.Format.{In, range_of}
use Rattle.section.specs.Choose.{all}
use Rattle.files.specs.Reading.{is_in}
use Rattle.surveys.specs.Refused.{uses}
use Rattle.surveys.specs.SurveyFile.{zeroed, within, ordered, code_fault, field_fault, member_fault}
use Rattle.files.proofs.Tests.{either, neither, in_range, range_in, all_fails}

module _ (m : Member) where
  -- a field in its range
  abbrev pub Ranged : ℕ → Type 0
  Ranged f = In (range_of (field m KIND) (field m CODE) (field m SPAN) f) (field m f)

  pub zeroed_good : (f : ℕ) → zeroed m f ≡ true → uses m f ≡ false → field m f ≡ 0
  unfolding zeroed
  zeroed_good f e u = eqb-true _ _ (either (uses m f) _ e u)

  pub zeroed_bad : (f : ℕ) → zeroed m f ≡ false → (uses m f ≡ false) × (¬ (field m f ≡ 0))
  unfolding zeroed
  zeroed_bad f e =
      let h = neither (uses m f) (eqb (field m f) 0) e in
      (h.0, λ z. mathlib.Core.Bool.false≢true (sym h.1 ∙ eq-eqb _ _ z))

  pub zeroed_holds : (f : ℕ) → (uses m f ≡ false → field m f ≡ 0) → zeroed m f ≡ true
  unfolding zeroed
  zeroed_holds f good = go (uses m f) refl
    where
      go : (b : Bool) → uses m f ≡ b → (b || eqb (field m f) 0) ≡ true
      go true u = refl
      go false u = eq-eqb _ _ (good u)

  pub within_good : (f : ℕ) → within m f ≡ true → uses m f ≡ true → Ranged f
  unfolding within
  within_good f e u = in_range _ _ (either (not (uses m f)) _ e (rw u))

  pub within_bad : (f : ℕ) → within m f ≡ false → (uses m f ≡ true) × (¬ (Ranged f))
  unfolding within
  within_bad f e =
      let h = neither (not (uses m f)) _ e in
      (not-false _ h.0, λ z. mathlib.Core.Bool.false≢true (sym h.1 ∙ range_in _ _ z))

  pub within_holds : (f : ℕ) → (uses m f ≡ true → Ranged f) → within m f ≡ true
  unfolding within
  within_holds f good = go (uses m f) refl
    where
      go : (b : Bool) → uses m f ≡ b → (not b || is_in (range_of (field m KIND) (field m CODE) (field m SPAN) f) (field m f)) ≡ true
      go true u = range_in _ _ (good u)
      go false u = refl

-- A is at most B, and each of the first f fields is in its range where used
abbrev pub ranged : Member → ℕ → Bool
ranged m f = ordered m && all (within m) f

module _ (m : Member) where
  -- one field more
  pub ranged_more : (f : ℕ) (good next : Bool) → good ≡ ranged m f → next ≡ within m f → (good && next) ≡ ranged m (f + 1)
  ranged_more f good next g n = rw (add-one, g, n) (and_assoc (ordered m) (all (within m) f) (within m f))

  -- the first of 4, 5 and 6 is the record's fault
  pub code_first : (n : ℕ) → code_fault m ≡ n → (n ≡ 0 → ⊥) → member_fault m ≡ n
  unfolding member_fault
  code_first n e h = rw (e, ne_eqb n 0 h)

  -- then 8, an unused field that is not 0
  pub unused_next : (f : ℕ) → code_fault m ≡ 0 → f < FIELDS → zeroed m f ≡ false → member_fault m ≡ 8
  unfolding member_fault field_fault
  unused_next f e h z = rw (e, all_fails (zeroed m) FIELDS f h z)

  -- then 7, a used number outside its range, or A above B
  pub range_last : code_fault m ≡ 0 → all (zeroed m) FIELDS ≡ true → ranged m FIELDS ≡ false → member_fault m ≡ 7
  unfolding member_fault field_fault
  range_last e z w = rw (e, z, w)

  pub no_fault : code_fault m ≡ 0 → all (zeroed m) FIELDS ≡ true → ranged m FIELDS ≡ true → member_fault m ≡ 0
  unfolding member_fault field_fault
  no_fault e z w = rw (e, z, w)
