-- A product of two capped numbers fits 64 bits where the caps' product does, and is capped by it.
-- Assumes nothing.
use Prim.Native.Nat.{ℕ, ◌*◌, ◌^◌, ◌≤◌}
use native.Mathlib.Nat.{mul-le-mul, lt_of_le_of_lt}
use lib.Dec.{T, ltb, ltb→lt}
use mir.Val.{Fits}
use mir.Syntax.{w64}

pub product_fits : (m n : ℕ) {x y : ℕ} → T (ltb (m * n) (2 ^ 64)) → x ≤ m → y ≤ n → Fits w64 (x * y)
product_fits m n t p q = record { fits = lt_of_le_of_lt (mul-le-mul p q) (ltb→lt (m * n) (2 ^ 64) t) }

pub product_cap : (m n : ℕ) {x y : ℕ} → x ≤ m → y ≤ n → x * y ≤ m * n
product_cap m n p q = mul-le-mul p q
