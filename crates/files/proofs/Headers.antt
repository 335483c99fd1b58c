-- The head of a file: it has no fault exactly when mark, version, count and length are right, and else the fault of the first test that
-- fails.
use Prim.Native.Nat.{ℕ, ◌+◌, ◌-◌, ◌*◌, ◌≤◌}
use mathlib.Core.Path.{◌≡◌, refl, ap, sym, ◌∙◌}
use mathlib.Core.List.{List, [], ◌∷◌}
use mathlib.Core.Bool.{Bool, true, false, ◌&&◌}
use mathlib.Core.Logic.{◌⊎◌, inl, inr, ⊎_elim, ◌↔◌}
use native.Mathlib.Omega.{arith}
use lib.ListN.{length, get_or, take}
use lib.Dec.{eqb, leb}
use borrow.Author.Tests.{eqb-true, eq-eqb, leb-true, le-leb}
use Rattle.member.specs.Format.{Range, ◌‥◌, In}
use Rattle.files.specs.Words.{byte_at}
use Rattle.files.specs.Reading.{◌unless◌, first_of, is_in}
use Rattle.files.specs.Header.{version_of, marked, header_fault}
use Rattle.files.specs.Refused.{Marked, Headed, HeaderFault, too_short, wrong_mark, wrong_count, wrong_length}
use Rattle.files.proofs.Tests.{both, in_range, range_in, refuted, refutes}

-- the first three bytes
take_three : (bytes : List ℕ) → 3 ≤ length bytes → take 3 bytes ≡ byte_at bytes 0 ∷ byte_at bytes 1 ∷ byte_at bytes 2 ∷ []
take_three [] h = absurd (omega arith)
take_three (a ∷ []) h = absurd (omega arith)
take_three (a ∷ b ∷ []) h = absurd (omega arith)
take_three (a ∷ b ∷ d ∷ l) h = refl

module _ (bytes : List ℕ) (letter : ℕ) (versions : Range) (long : 3 ≤ length bytes) where
  -- mark and version, as the document writes them
  pub marks_read : marked bytes letter versions ≡ true → Marked bytes letter versions
  unfolding marked
  marks_read e =
      let first = eqb (byte_at bytes 0) 84 in
      let second = eqb (byte_at bytes 1) 66 in
      let third = eqb (byte_at bytes 2) letter in
      let last = both (first && second && third) (is_in versions (version_of bytes)) e in
      let three = both (first && second) third last.0 in
      let two = both first second three.0 in
      (take_three bytes long ∙ rw (eqb-true (byte_at bytes 0) 84 two.0, eqb-true (byte_at bytes 1) 66 two.1, eqb-true (byte_at bytes 2) letter three.1), in_range versions (version_of bytes) last.1)

  pub marks_given : Marked bytes letter versions → marked bytes letter versions ≡ true
  unfolding marked
  marks_given h =
      let e = sym (take_three bytes long) ∙ h.0 in
      rw
      (eq-eqb (byte_at bytes 0) 84 (ap (λ (l : List ℕ). get_or l 0 0) e), eq-eqb (byte_at bytes 1) 66 (ap (λ (l : List ℕ). get_or l 1 0) e), eq-eqb (byte_at bytes 2) letter (ap (λ (l : List ℕ). get_or l 2 0) e), range_in versions (version_of bytes) h.1)

module _ (letter : ℕ) (versions : Range) (header most size : ℕ) (bytes : List ℕ) (room : 3 ≤ header) where
  pub header_clear : Headed letter versions header most size bytes → header_fault letter versions header most size bytes ≡ 0
  unfolding header_fault
  header_clear h =
      rw
      (le-leb header (length bytes) h.long, marks_given bytes letter versions (omega (arith, h.long)) h.marked, range_in (1 ‥ most) (byte_at bytes (header - 1)) h.count, eq-eqb _ _ h.sized)

  -- the tests in their order: all hold, or the first that fails gives its number
  header_case : Headed letter versions header most size bytes ⊎ HeaderFault letter versions header most size bytes (header_fault letter versions header most size bytes)
  unfolding header_fault
  header_case =
      go (leb header (length bytes)) (marked bytes letter versions) (is_in (1 ‥ most) (byte_at bytes (header - 1))) (eqb (length bytes) (header + size * byte_at bytes (header - 1)))
      (leb-true _ _, le-leb _ _)
      (λ l. (marks_read bytes letter versions (omega arith), marks_given bytes letter versions (omega arith)))
      (in_range _ _, range_in _ _)
      (eqb-true _ _, eq-eqb _ _)
    where
      go : (a b c d : Bool) → (a ≡ true) ↔ (header ≤ length bytes) → (header ≤ length bytes → (b ≡ true) ↔ Marked bytes letter versions) → (c ≡ true) ↔ In (1 ‥ most) (byte_at bytes (header - 1)) → (d ≡ true) ↔ (length bytes ≡ header + size * byte_at bytes (header - 1)) → Headed letter versions header most size bytes ⊎ HeaderFault letter versions header most size bytes (first_of (1 unless a ∷ 2 unless b ∷ 3 unless c ∷ 1 unless d ∷ []))
      go false b c d l m n s = let h = refuted l in inr (too_short (omega arith))
      go true false c d l m n s = inr (wrong_mark (l.0 refl) (refuted (m (l.0 refl))))
      go true true false d l m n s = inr (wrong_count (l.0 refl) ((m (l.0 refl)).0 refl) (refuted n))
      go true true true false l m n s = inr (wrong_length (l.0 refl) ((m (l.0 refl)).0 refl) (n.0 refl) (refuted s))
      go true true true true l m n s =
          inl (record { long = l.0 refl; marked = (m (l.0 refl)).0 refl; count = n.0 refl; sized = s.0 refl })

-- the header's faults are 1, 2 and 3
pub header_number : {letter : ℕ} {versions : Range} {header most size n : ℕ} {bytes : List ℕ} → HeaderFault letter versions header most size bytes n → In (1 ‥ 3) n
header_number (too_short h) = omega arith
header_number (wrong_mark l h) = omega arith
header_number (wrong_count l m h) = omega arith
header_number (wrong_length l m c h) = omega arith

module _ (letter : ℕ) (versions : Range) (header most size : ℕ) (bytes : List ℕ) (room : 3 ≤ header) where
  pub headed : header_fault letter versions header most size bytes ≡ 0 → Headed letter versions header most size bytes
  headed e =
      ⊎_elim (λ h. h) (λ f. absurd (omega (arith, header_number f))) (header_case letter versions header most size bytes room)

  -- a header's number says which test fails
  pub header_named : (n : ℕ) → header_fault letter versions header most size bytes ≡ n → ¬ (n ≡ 0) → HeaderFault letter versions header most size bytes n
  header_named n e some =
      ⊎_elim (λ h. absurd (some (sym e ∙ header_clear letter versions header most size bytes room h))) (λ f. rw e at f) (header_case letter versions header most size bytes room)

  -- and a test that fails gives its number
  pub header_is : {n : ℕ} → HeaderFault letter versions header most size bytes n → header_fault letter versions header most size bytes ≡ n
  unfolding header_fault
  header_is (too_short h) = rw (refutes (leb header (length bytes)) (leb-true header (length bytes)) (omega arith))
  header_is (wrong_mark l h) =
      rw (le-leb header (length bytes) l, refutes (marked bytes letter versions) (marks_read bytes letter versions (omega arith)) h)
  header_is (wrong_count l m h) =
      rw (le-leb header (length bytes) l, marks_given bytes letter versions (omega arith) m, refutes (is_in (1 ‥ most) (byte_at bytes (header - 1))) (in_range _ _) h)
  header_is (wrong_length l m c h) =
      rw
      (le-leb header (length bytes) l, marks_given bytes letter versions (omega arith) m, range_in (1 ‥ most) (byte_at bytes (header - 1)) c, refutes (eqb (length bytes) (header + size * byte_at bytes (header - 1))) (eqb-true _ _) h)
