-- The greatest of a row, of fractions and of whole numbers.
use Rattle.std.specs.Prelude.{ℕ, zero, suc, max}
use Rattle.section.specs.Fraction.{Fraction, greater}

-- the greatest of f 0, f 1, .., f e
unfoldable pub greatest_up_to : (ℕ → Fraction) → ℕ → Fraction
greatest_up_to f zero = f zero
greatest_up_to f (suc e) = greater (greatest_up_to f e) (f (suc e))

-- the greatest of f 0, .., f (n - 1), 0 where n is 0
unfoldable pub top : (ℕ → ℕ) → ℕ → ℕ
top f zero = 0
top f (suc n) = max (top f n) (f n)
