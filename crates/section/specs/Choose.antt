-- A case by a test: the first where it holds, else the second; and a test of many numbers.
use Rattle.std.specs.Prelude.{ℕ, zero, suc, Bool, true, false, ◌&&◌}

abbrev pub choose {ℓ} : {X : Type ℓ} → Bool → X → X → X
choose true a b = a
choose false a b = b

-- a test holds of every index below n
abbrev pub all : (ℕ → Bool) → ℕ → Bool
all test zero = true
all test (suc n) = all test n && test n
