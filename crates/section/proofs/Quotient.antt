-- The quotient of a product by parts: n · k / d = (n / d) · k + (n % d) · k / d, and that it fits where k is at most d.
-- Assumes nothing.
use Prim.Native.Nat.{ℕ, ◌+◌, ◌*◌, ◌/◌, ◌%◌, ◌≤◌, ◌<◌}
use mathlib.Core.Path.{◌≡◌, ap, sym, ◌∙◌}
use native.Mathlib.Nat.{div-add-mod', mul-add-div_right, mul-le-mul_left, div-le_of_le-mul}
use native.Mathlib.Omega.{arith}

pub by_parts : (n k d : ℕ) → 0 < d → n / d * k + n % d * k / d ≡ n * k / d
by_parts n k d s = sym (mul-add-div_right s (n / d * k) (n % d * k)) ∙ ap (λ (x : ℕ). x / d) (omega (arith, ap (λ (x : ℕ). x * k) (div-add-mod' n d)))

pub first_part : (n k d : ℕ) → k ≤ d → n / d * k ≤ n
first_part n k d h = omega (arith, mul-le-mul_left (n / d) h, div-add-mod' n d)

pub both_parts : (n k d : ℕ) → k ≤ d → n / d * k + n % d * k / d ≤ n
both_parts n k d h =
    omega (arith, mul-le-mul_left (n / d) h, div-add-mod' n d, div-le_of_le-mul d {m = n % d * k} {n = n % d} (omega (arith, mul-le-mul_left (n % d) h)))

-- where k is at most d the quotient is at most n
pub quotient_cap : (n k d : ℕ) → k ≤ d → n * k / d ≤ n
quotient_cap n k d h = div-le_of_le-mul d {m = n * k} {n = n} (omega (arith, mul-le-mul_left n h))
