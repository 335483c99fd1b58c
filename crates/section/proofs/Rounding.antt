-- Rounding once: down is never above and less than one below, up is never below and less than one above; and both keep the
-- order. The quotient of two whole numbers is all that they rest on.
-- Assumes nothing.
use Prim.Native.Nat.{ℕ, ◌+◌, ◌-◌, ◌*◌, ◌/◌, ◌%◌, ◌≤◌, ◌<◌, min}
use mathlib.Core.Path.{◌≡◌}
use native.Mathlib.Nat.{le_antisymm, le-div_iff_mul-le, div-lt_iff_lt-mul, le_of_suc-le-suc, lt-mul-div-succ, mul-div-le, mul-le-mul_right, le_of_mul-le-mul_right}
use native.Mathlib.Omega.{arith}
use Rattle.std.proofs.lemmas.Grind.{div_ceil_times}
use Rattle.section.specs.Fraction.{Fraction, Sound, whole, floor, ceiling, ◌⊕◌, ◌⊑◌, ◌≐◌, RoundedDown, RoundedUp}
use Rattle.section.proofs.Order.{≐_⊑, ≐_⊒}

-- the quotient by itself: what the rest is read off
quotient_below : (n d : ℕ) → n / d * d ≤ n
quotient_below n d = omega (arith, mul-div-le n d)

quotient_near : (n d : ℕ) → 0 < d → n < n / d * d + d
quotient_near n d s = omega (arith, lt-mul-div-succ n s)

quotient_least : (n d k : ℕ) → 0 < d → n < k * d + d → n / d ≤ k
quotient_least n d k z l = le_of_suc-le-suc ((div-lt_iff_lt-mul z).1 (omega arith))

-- the library's quotient, one more where a rest is left
pub ceiling_div : (n d : ℕ) → 0 < d → n / d + min 1 (n % d) ≡ (n + (d - 1)) / d
ceiling_div n d s =
    let times = div_ceil_times n d s in
    le_antisymm ((le-div_iff_mul-le s).1 (omega (arith, times.1)))
    (quotient_least (n + (d - 1)) d _ s (omega (arith, times.0)))

pub rounded_down : (a : Fraction) → Sound a → RoundedDown a (floor a)
unfolding floor whole
rounded_down a s =
    record {
      never_above = omega (arith, quotient_below a.num a.den);
      near = omega (arith, quotient_near a.num a.den s.above_0);
    }

pub rounded_up : (a : Fraction) → Sound a → RoundedUp a (ceiling a)
unfolding ceiling whole ◌⊕◌
rounded_up a s =
    record {
      never_below = omega (arith, quotient_near (a.num + (a.den - 1)) a.den s.above_0);
      near = omega (arith, quotient_below (a.num + (a.den - 1)) a.den);
    }

pub rounded_up_is : {a : Fraction} {r : ℕ} → Sound a → r ≡ ceiling a → RoundedUp a r
rounded_up_is {a} s e = rw e (rounded_up a s)

-- a whole number that is at most the greater of two is at most what that is rounded down to
pub floor_greatest : (r : ℕ) {a b : Fraction} → Sound a → Sound b → whole r ⊑ a → a ⊑ b → r ≤ floor b
unfolding floor whole
floor_greatest r {a} {b} s t h p =
    (le-div_iff_mul-le t.above_0).1
    (le_of_mul-le-mul_right {k = a.den}
    (omega (arith, mul-le-mul_right b.den h.out, p.out))
    s.above_0)

pub floor_mono : {a b : Fraction} → Sound a → Sound b → a ⊑ b → floor a ≤ floor b
floor_mono {a} {b} s t p = floor_greatest (floor a) s t (rounded_down a s).never_above p

pub floor_same : {a b : Fraction} → Sound a → Sound b → a ≐ b → floor a ≡ floor b
floor_same s t e = le_antisymm (floor_mono s t (≐_⊑ e)) (floor_mono t s (≐_⊒ e))

-- a whole number that is at least the greater of two is at least what the lesser is rounded up to
pub ceiling_least : (r : ℕ) {a b : Fraction} → Sound a → Sound b → a ⊑ b → b ⊑ whole r → ceiling a ≤ r
unfolding ceiling whole
ceiling_least r {a} {b} s t p h =
    quotient_least (a.num + (a.den - 1)) a.den r s.above_0
    (omega (arith, s.above_0, le_of_mul-le-mul_right {m = a.num} {n = r * a.den} {k = b.den} (omega (arith, mul-le-mul_right a.den h.out, p.out)) t.above_0))

pub ceiling_mono : {a b : Fraction} → Sound a → Sound b → a ⊑ b → ceiling a ≤ ceiling b
ceiling_mono {a} {b} s t p = ceiling_least (ceiling b) s t p (rounded_up b t).never_below

pub ceiling_same : {a b : Fraction} → Sound a → Sound b → a ≐ b → ceiling a ≡ ceiling b
ceiling_same s t e = le_antisymm (ceiling_mono s t (≐_⊑ e)) (ceiling_mono t s (≐_⊒ e))
