-- The document's tables of ranges and of unused fields: no section has a code of another number, the section's ranges stand at 8 to 13 of a
-- record, and the lost area is unused in bending alone.
-- Assumes nothing.
use Prim.Native.Nat.{ℕ, zero, suc, ◌+◌, ◌-◌, ◌≤◌, ◌<◌}
use mathlib.Core.Path.{◌≡◌, refl, sym, ap, ◌∙◌}
use mathlib.Core.List.{[], ◌∷◌}
use mathlib.Core.Bool.{Bool, true, false, ◌&&◌, or-false}
use native.Mathlib.Omega.{arith}
use lib.Dec.{eqb}
use borrow.Author.Tests.{ne_eqb}
use Rattle.section.specs.Choose.{choose}
use Rattle.member.specs.Fields.{S6, LAST_CODE}
use Rattle.member.specs.Format.{◌‥◌, In, holds, range_of, ranges, section_range, section_ranges}

-- any other code has no section fields
pub no_section : (code s : ℕ) → (In (1 ‥ LAST_CODE) code → ⊥) → section_range code s ≡ 0 ‥ 0
unfolding section_range section_ranges
no_section code s h =
    rw
    (ne_eqb code 1 (λ e. h (omega arith)), ne_eqb code 2 (λ e. h (omega arith)), ne_eqb code 3 (λ e. h (omega arith)), ne_eqb code 4 (λ e. h (omega arith)), ne_eqb code 5 (λ e. h (omega arith)))

-- the section fields stand at 8 to 13
pub section_field : (kind code l f : ℕ) → 8 ≤ f → f ≤ 13 → range_of kind code l f ≡ section_range code (f - 8)
unfolding range_of ranges
section_field kind code l f low high = let there : f ≡ 8 + (f - 8) = omega arith in rw there (at (f - 8) (omega arith) ∙ ap (section_range code) (omega arith))
  where
    at : (s : ℕ) → s < 6 → range_of kind code l (8 + s) ≡ section_range code s
    at zero h = refl
    at (suc zero) h = refl
    at (suc (suc zero)) h = refl
    at (suc (suc (suc zero))) h = refl
    at (suc (suc (suc (suc zero)))) h = refl
    at (suc (suc (suc (suc (suc zero))))) h = refl
    at (suc (suc (suc (suc (suc (suc s)))))) h = absurd (omega arith)

-- the lost area is unused in bending alone
pub lost_area : (bends : Bool) (f : ℕ) → (bends && eqb f S6) ≡ holds f (choose bends (S6 ∷ []) [])
lost_area true f = sym (or-false (eqb f S6))
lost_area false f = refl
