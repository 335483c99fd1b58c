-- The divisor of the lateral distribution, n (2d − e): above 0, at least 4d, and small enough for the quotient by parts.
-- And what is below 2^64 is below 2^63 once divided by at least 2.
-- Assumes nothing.
use Prim.Native.Nat.{ℕ, ◌-◌, ◌*◌, ◌/◌, ◌^◌, ◌≤◌, ◌<◌}
use native.Mathlib.Nat.{mul-le-mul, mul-le-mul_right, mul-one, div-lt_iff_lt-mul}
use native.Mathlib.Omega.{arith}
use Rattle.section.proofs.Products.{product_fits}
use Rattle.section.specs.Units.{FitsSigned}

pub record Divisor (n d e : ℕ) : Type 0 where
  pub above_0 : 0 < n * (2 * d - e)
  pub at_least : 4 * d ≤ n * (2 * d - e)
  pub cap : n * (2 * d - e) ≤ 28000
  pub fits : n * (2 * d - e) * (2 * d) < 2 ^ 64

pub divisor : (n d e : ℕ) → 11 ≤ n → n ≤ 14 → 1 ≤ d → d ≤ 1000 → e ≤ d → Divisor n d e
divisor n d e pn hn pd hd he =
    let low : 4 * d ≤ n * (2 * d - e) = mul-le-mul {n₁ = 4} {m₁ = d} {n₂ = n} {m₂ = 2 * d - e} (omega arith) (omega arith) in
    let high : n * (2 * d - e) ≤ 28000 = mul-le-mul {n₁ = n} {m₁ = 2 * d - e} {n₂ = 14} {m₂ = 2000} hn (omega arith) in
    record {
      above_0 = omega arith;
      at_least = low;
      cap = high;
      fits = (product_fits 28000 2000 {x = n * (2 * d - e)} {y = 2 * d} tt high (omega arith)).fits;
    }

-- x times k, over at least 2k
pub share_fits : (x k d : ℕ) → x < 2 ^ 64 → 0 < d → 2 * k ≤ d → FitsSigned (x * k / d)
share_fits x k d h s l = (div-lt_iff_lt-mul s).1 (omega (arith, mul-le-mul_right {m = x} {n = 2 ^ 64 - 1} k (omega arith)))

pub half_fits : (x d : ℕ) → x < 2 ^ 64 → 2 ≤ d → FitsSigned (x / d)
half_fits x d h l = rw mul-one at (share_fits x 1 d h (omega arith) l)
