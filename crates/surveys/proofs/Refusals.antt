-- A record has no fault exactly when it is allowed; else its number says in plain words what is wrong with it, and a record with that
-- wrong has that number.
-- Assumes nothing.
use Prim.Native.Nat.{ℕ, ◌<◌, ◌≤◌}
use mathlib.Core.Path.{◌≡◌, refl, sym, ◌∙◌}
use mathlib.Core.List.{[], ◌∷◌}
use mathlib.Core.Bool.{Bool, true, false, ◌&&◌, ◌||◌, and-false}
use mathlib.Core.Logic.{◌⊎◌, inl, inr, ⊎_elim, ◌↔◌}
use native.Mathlib.Omega.{arith}
use lib.Dec.{eqb, leb}
use borrow.Author.Tests.{leb-true, leb-false, le-leb, eqb-false, ne_eqb}
use Rattle.member.specs.declared.record.Member.{Member}
use Rattle.member.specs.Fields.{KIND, SPECIES, SPAN, CODE, MU_A, MU_B, FIELDS, LAST_KIND, field}
use Rattle.member.specs.Format.{◌‥◌, In, ranges, range_of, suits, AllowedMember}
use Rattle.section.specs.Choose.{all}
use Rattle.files.specs.Reading.{◌unless◌, first_of, is_in}
use Rattle.surveys.specs.Refused.{uses, KindGood, SpeciesGood, SectionGood, UnusedGood, MemberFault, wrong_kind, wrong_species, wrong_section, not_0, out_of_range, A_above_B}
use Rattle.surveys.specs.SurveyFile.{zeroed, within, ordered, code_fault, field_fault, member_fault}
use Rattle.surveys.proofs.Members.{zeroed_good, zeroed_bad, zeroed_holds, within_good, within_bad, within_holds, code_first, unused_next, range_last, no_fault}
use Rattle.section.proofs.Table.{all_at}
use Rattle.files.proofs.Tests.{neither, in_range, range_in, refuted, refutes, all_of, all_failing, all_fails}

module _ (m : Member) where
  -- the species' range is the same in every record
  species_range : range_of (field m KIND) (field m CODE) (field m SPAN) SPECIES ≡ 1 ‥ 8
  unfolding range_of ranges
  species_range = refl

  species_good : within m SPECIES ≡ true → SpeciesGood m
  species_good e u = rw species_range at (within_good m SPECIES e u)

  species_bad : within m SPECIES ≡ false → (uses m SPECIES ≡ true) × (¬ (In (1 ‥ 8) (field m SPECIES)))
  species_bad e = rw species_range at (within_bad m SPECIES e)

  species_holds : SpeciesGood m → within m SPECIES ≡ true
  species_holds good = within_holds m SPECIES (λ u. rw species_range (good u))

  -- A at most B, but for kind 7
  ordered_good : ordered m ≡ true → ¬ (field m KIND ≡ 7) → field m MU_A ≤ field m MU_B
  unfolding ordered
  ordered_good e n = leb-true _ _ (rw (ne_eqb (field m KIND) 7 n) at e)

  ordered_bad : ordered m ≡ false → (¬ (field m KIND ≡ 7)) × (field m MU_B < field m MU_A)
  unfolding ordered
  ordered_bad e =
      let h = neither (eqb (field m KIND) 7) (leb (field m MU_A) (field m MU_B)) e in
      (eqb-false _ _ h.0, leb-false _ _ h.1)

  ordered_holds : (¬ (field m KIND ≡ 7) → field m MU_A ≤ field m MU_B) → ordered m ≡ true
  unfolding ordered
  ordered_holds good = go (eqb (field m KIND) 7) refl
    where
      go : (b : Bool) → eqb (field m KIND) 7 ≡ b → (b || leb (field m MU_A) (field m MU_B)) ≡ true
      go true e = refl
      go false e = le-leb _ _ (good (eqb-false _ _ e))

  -- the tests in their order: all hold, or the first that fails gives its number
  member_case : AllowedMember m ⊎ MemberFault m (member_fault m)
  unfolding member_fault code_fault field_fault
  member_case =
      go (is_in (1 ‥ LAST_KIND) (field m KIND)) (within m SPECIES) (suits (field m KIND) (field m CODE)) refl (all (zeroed m) FIELDS) (ordered m) (all (within m) FIELDS)
      (in_range _ _, range_in _ _)
      species_good
      species_bad
      (λ e f h. zeroed_good m f (all_at (zeroed m) FIELDS e f h))
      (all_failing (zeroed m) FIELDS)
      (ordered_good, ordered_holds)
      (ordered_bad)
      (λ e f h. within_good m f (all_at (within m) FIELDS e f h))
      (all_failing (within m) FIELDS)
    where
      -- the number by the answers of the tests: kind, species, section, unused fields, A and B, ranges
      number : (a b c d e f : Bool) → ℕ
      number a b c d e f =
          first_of (first_of (4 unless a ∷ 5 unless b ∷ 6 unless c ∷ []) ∷ first_of (8 unless d ∷ 7 unless (e && f) ∷ []) ∷ [])

      go : (a b c : Bool) → suits (field m KIND) (field m CODE) ≡ c → (d e f : Bool) → (a ≡ true) ↔ KindGood m → (b ≡ true → SpeciesGood m) → (b ≡ false → (uses m SPECIES ≡ true) × (¬ (In (1 ‥ 8) (field m SPECIES)))) → (d ≡ true → UnusedGood m) → (d ≡ false → (i : ℕ) × (i < FIELDS) × (zeroed m i ≡ false)) → (e ≡ true) ↔ (¬ (field m KIND ≡ 7) → field m MU_A ≤ field m MU_B) → (e ≡ false → (¬ (field m KIND ≡ 7)) × (field m MU_B < field m MU_A)) → (f ≡ true → (i : ℕ) → i < FIELDS → uses m i ≡ true → In (range_of (field m KIND) (field m CODE) (field m SPAN) i) (field m i)) → (f ≡ false → (i : ℕ) × (i < FIELDS) × (within m i ≡ false)) → AllowedMember m ⊎ MemberFault m (number a b c d e f)
      go false b c s d e f kind good bad zero some order disorder inside out = inr (wrong_kind (refuted kind))
      go true false c s d e f kind good bad zero some order disorder inside out =
          inr (wrong_species (kind.0 refl) (bad refl).0 (bad refl).1)
      go true true false s d e f kind good bad zero some order disorder inside out = inr (wrong_section (kind.0 refl) (good refl) s)
      go true true true s false e f kind good bad zero some order disorder inside out =
          let (i, h, z) = some refl in
          inr (not_0 (kind.0 refl) (good refl) s i h (zeroed_bad m i z).0 (zeroed_bad m i z).1)
      go true true true s true false f kind good bad zero some order disorder inside out =
          inr (A_above_B (kind.0 refl) (good refl) s (zero refl) (disorder refl).0 (disorder refl).1)
      go true true true s true true false kind good bad zero some order disorder inside out =
          let (i, h, z) = out refl in
          inr (out_of_range (kind.0 refl) (good refl) s (zero refl) i h (within_bad m i z).0 (within_bad m i z).1)
      go true true true s true true true kind good bad zero some order disorder inside out =
          inl (record { kind = kind.0 refl; section = s; unused = zero refl; range = inside refl; ordered = order.0 refl })

-- a record's faults are 4 to 8
pub member_number : {m : Member} {n : ℕ} → MemberFault m n → In (4 ‥ 8) n
member_number (wrong_kind k) = omega arith
member_number (wrong_species k u s) = omega arith
member_number (wrong_section k s c) = omega arith
member_number (not_0 k s c f h u z) = omega arith
member_number (out_of_range k s c z f h u r) = omega arith
member_number (A_above_B k s c z n o) = omega arith

module _ (m : Member) where
  codes_hold : KindGood m → SpeciesGood m → SectionGood m → code_fault m ≡ 0
  unfolding code_fault
  codes_hold k s c = rw (range_in (1 ‥ LAST_KIND) (field m KIND) k, species_holds m s, c)

  unused_hold : UnusedGood m → all (zeroed m) FIELDS ≡ true
  unused_hold z = all_of (zeroed m) FIELDS (λ i l. zeroed_holds m i (z i l))

  -- no fault exactly where it is allowed
  pub clear_allowed : member_fault m ≡ 0 → AllowedMember m
  clear_allowed e = ⊎_elim (λ a. a) (λ f. absurd (omega (arith, member_number f))) (member_case m)

  pub allowed_clear : AllowedMember m → member_fault m ≡ 0
  allowed_clear a =
      no_fault m (codes_hold a.kind (λ u. rw (species_range m) at (a.range SPECIES (omega arith) u)) a.section) (unused_hold a.unused) (rw (ordered_holds m a.ordered) (all_of (within m) FIELDS (λ i l. within_holds m i (a.range i l))))

  -- a record's number says which test fails
  pub member_named : (n : ℕ) → member_fault m ≡ n → ¬ (n ≡ 0) → MemberFault m n
  member_named n e some = ⊎_elim (λ a. absurd (some (sym e ∙ allowed_clear a))) (λ f. rw e at f) (member_case m)

  -- 4, 5 or 6
  wrong_code : {n : ℕ} → MemberFault m n → n < 7 → code_fault m ≡ n
  unfolding code_fault
  wrong_code (wrong_kind k) l = rw (refutes (is_in (1 ‥ LAST_KIND) (field m KIND)) (in_range _ _) k)
  wrong_code (wrong_species k u s) l =
      rw (range_in (1 ‥ LAST_KIND) (field m KIND) k, refutes (within m SPECIES) (λ e. species_good m e u) s)
  wrong_code (wrong_section k s c) l = rw (range_in (1 ‥ LAST_KIND) (field m KIND) k, species_holds m s, c)
  wrong_code (not_0 k s c f h u z) l = absurd (omega arith)
  wrong_code (out_of_range k s c z f h u r) l = absurd (omega arith)
  wrong_code (A_above_B k s c z n o) l = absurd (omega arith)

  -- and a test that fails gives its number
  pub member_is : {n : ℕ} → MemberFault m n → member_fault m ≡ n
  member_is (wrong_kind k) = code_first m 4 (wrong_code (wrong_kind k) (omega arith)) (omega arith)
  member_is (wrong_species k u s) = code_first m 5 (wrong_code (wrong_species k u s) (omega arith)) (omega arith)
  member_is (wrong_section k s c) = code_first m 6 (wrong_code (wrong_section k s c) (omega arith)) (omega arith)
  member_is (not_0 k s c f h u z) =
      unused_next m f (codes_hold k s c) h (refutes (zeroed m f) (λ e. zeroed_good m f e u) z)
  member_is (out_of_range k s c z f h u r) =
      range_last m (codes_hold k s c) (unused_hold z) (rw (all_fails (within m) FIELDS f h (refutes (within m f) (λ e. within_good m f e u) r), and-false))
  member_is (A_above_B k s c z n o) =
      range_last m (codes_hold k s c) (unused_hold z) (rw (refutes (ordered m) (ordered_good m) (λ g. absurd (omega (arith, g n)))))
