-- `sixty_fourths` meets its contract: an f32 that is no NaN is the number of its own pattern, and each way out is a case of the pattern's field.
-- Assumes nothing.
use Prim.Native.Nat.{ℕ, ◌%◌, ◌/◌, ◌≤◌}
use mathlib.Core.Path.{◌≡◌, refl, sym, ◌∙◌, ap, subst}
use mathlib.Core.Bool.{true, false, true≢false}
use native.Mathlib.Omega.{arith}
use lib.Dec.{T}
use lib.Ieee.{Float, nan, inf, fin, binary32, is_nan, to_bits, of_bits}
use lib.Ieee.Bits.{of_bits-to_bits}
use Rattle.std.specs.Prelude.{Some, None}
use borrow.Author.Tests.{eq-eqb, ne_eqb}
use Rattle.section.specs.Fraction.{over, whole, ◌·◌, floor}
use Rattle.gauge.specs.Value.{value_of, is_reading}
use Rattle.gauge.specs.Whole.{counted_of}
use Rattle.gauge.proofs.Patterns.{below_readings, above_readings, parts_of, in_parts, parts_counted}
use Rattle.gauge.proofs.reading.sixty_fourths.Goals as goal
use Rattle.gauge.proofs.reading.sixty_fourths.Goals.{Start, then-exponent-lt-LEAST_EXPONENT-via-then-exponent-lt-LEAST_EXPONENT, then-exponent-lt-LEAST_EXPONENT-via-else-exponent-lt-LEAST_EXPONENT+then-exponent-gt-GREATEST_EXPONENT}

-- what owning an f32 tells: it is the number of its pattern
pattern : (c : Start) → of_bits binary32 (to_bits binary32 c.args.x) ≡ c.args.x
pattern c = of_bits-to_bits binary32 c.args.x (subst T (sym c.well_formed.0.1) tt)

none : (x : Float) → is_reading x ≡ false → None ≡ counted_of x
none x e = rw e

no_number : (x : Float) → true ≡ is_nan x → is_reading x ≡ false
unfolding is_reading is_nan
no_number nan e = refl
no_number (inf s) e = absurd (true≢false e)
no_number (fin s m e') e = absurd (true≢false e)

no-bit : Some 0 ≡ counted_of (of_bits binary32 0)
unfolding is_reading value_of whole over ◌·◌ floor of_bits
no-bit = refl

-- a field from 121 to 135, with parts that make up whole 64ths or not
module _ (x : Float) (b parts : ℕ) (is : of_bits binary32 b ≡ x) (low : 121 ≤ b / 8388608) (high : b / 8388608 ≤ 135) (are : parts ≡ parts_of b) where
  beside : (parts % 8388608 ≡ 0 → ⊥) → is_reading x ≡ false
  beside h = subst (λ (y : Float). is_reading y ≡ false) is (in_parts b low high ∙ ne_eqb _ _ (λ e. h (ap (λ (n : ℕ). n % 8388608) are ∙ e)))

  on : parts % 8388608 ≡ 0 → Some (parts / 8388608) ≡ counted_of x
  on h =
      let good : is_reading (of_bits binary32 b) ≡ true = in_parts b low high ∙ eq-eqb _ _ (ap (λ (n : ℕ). n % 8388608) (sym are) ∙ h) in
      subst (λ (y : Float). Some (parts / 8388608) ≡ counted_of y) is (rw (good, parts_counted b low high) (ap (λ (n : ℕ). Some (n / 8388608)) are))

pub returns-then-is_nan : goal.returns-then-is_nan
returns-then-is_nan c = none _ (no_number _ c.if-is_nan.ensures.value)

pub returns-then-bits-eq0 : goal.returns-then-bits-eq0
returns-then-bits-eq0 c =
    let none-set : to_bits binary32 c.args.x ≡ 0 = omega (arith, c.if-bits-eq0.true) in
    no-bit ∙ ap counted_of (ap (of_bits binary32) (sym none-set) ∙ pattern (goal.at.returns-then-bits-eq0 c).Start)

pub returns-then-exponent-lt-LEAST_EXPONENT : goal.returns-then-exponent-lt-LEAST_EXPONENT
returns-then-exponent-lt-LEAST_EXPONENT c =
    let number : is_reading (of_bits binary32 (to_bits binary32 c.args.x)) ≡ false =
    elim c.then-exponent-lt-LEAST_EXPONENT.branch [
      | then-exponent-lt-LEAST_EXPONENT-via-then-exponent-lt-LEAST_EXPONENT w ↦
          below_readings _ c.if-bits-eq0.false (omega (arith, w.if-exponent-lt-LEAST_EXPONENT.true))
      | then-exponent-lt-LEAST_EXPONENT-via-else-exponent-lt-LEAST_EXPONENT+then-exponent-gt-GREATEST_EXPONENT w ↦
          above_readings _ (omega (arith, w.if-exponent-gt-GREATEST_EXPONENT.true))
    ] in
    none _ (subst (λ (x : Float). is_reading x ≡ false) (pattern (goal.at.returns-then-exponent-lt-LEAST_EXPONENT c).Start) number)

pub returns-then-parts-ne0 : goal.returns-then-parts-ne0
returns-then-parts-ne0 c =
    none _
    (beside _ _ _ (pattern (goal.at.returns-then-parts-ne0 c).Start) c.if-exponent-lt-LEAST_EXPONENT.false c.if-exponent-gt-GREATEST_EXPONENT.false c.scaled-parts.ensures (λ e. c.if-parts-ne0.true (omega arith)))

pub returns : goal.returns
returns c =
    on _ _ _ (pattern (goal.at.returns c).Start) c.if-exponent-lt-LEAST_EXPONENT.false c.if-exponent-gt-GREATEST_EXPONENT.false c.scaled-parts.ensures (omega (arith, c.if-parts-ne0.false))
