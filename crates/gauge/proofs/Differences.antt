-- The subtraction of two readings loses nothing. In 64ths it is a difference of whole numbers below 2 ^ 15, and an f32 keeps 24 binary digits, so
-- that rounding leaves it as it is.
-- Assumes nothing.
use Prim.Native.Nat.{ℕ, ◌-◌, ◌*◌, ◌%◌, ◌^◌, ◌≤◌, ◌<◌}
use mathlib.Core.Path.{◌≡◌, sym, ◌∙◌, subst}
use mathlib.Core.Bool.{true, false, false≢true}
use native.Mathlib.Nat.{mul_assoc, lt_trans}
use native.Mathlib.Omega.{arith}
use lib.Dec.{eqb}
use lib.IntN.{ℤ}
use lib.Pow.{pow-lt, shl_lt}
use lib.Ieee.{Float, nan, inf, fin, up, down, binary32, round, sub}
use lib.Ieee.Exact.{HasValue, round_exact}
use lib.Ieee.Scale.{round_same}
use borrow.Author.Tests.{le-ltb, lt-leb, eq-eqb}
use Rattle.section.specs.Fraction.{Fraction, over, ◌⊖◌, ◌⊑◌, ◌≐◌}
use Rattle.section.proofs.Order.{⊖_over, ⊖_sound}
use Rattle.gauge.specs.Value.{value_of, is_clear, is_reading, IsReading}
use Rattle.gauge.proofs.Values.{value_sound, has_value, reading_by, reading_counted, is_reading_lem}
use Rattle.gauge.specs.Whole.{count_of}

-- numbers with a clear sign bit, the first at least the second: their exact difference is rounded once
opened : (m : ℕ) (e : ℤ) (n : ℕ) (d : ℤ) → n * up d * down e ≤ m * up e * down d →
    sub binary32 (fin false m e) (fin false n d) ≡ round binary32 false (m * up e * down d - n * up d * down e) (down e * down d)
unfolding sub
opened m e n d h = rw (le-ltb (m * up e * down d) (n * up d * down e) h)

subtracted : (x y : Float) → is_clear x ≡ true → is_clear y ≡ true → value_of y ⊑ value_of x →
    sub binary32 x y ≡ round binary32 false (value_of x ⊖ value_of y).num (value_of x ⊖ value_of y).den
unfolding value_of over ◌⊖◌
subtracted nan y p q h = absurd (false≢true p)
subtracted (inf s) y p q h = absurd (false≢true p)
subtracted (fin true m e) y p q h = absurd (false≢true p)
subtracted (fin false m e) nan p q h = absurd (false≢true q)
subtracted (fin false m e) (inf t) p q h = absurd (false≢true q)
subtracted (fin false m e) (fin true n d) p q h = absurd (false≢true q)
subtracted (fin false m e) (fin false n d) p q h = opened m e n d h.out

-- a number of 64ths that is below 2 ^ 15 is kept as it is
kept : (n : ℕ) → n < 2 ^ 15 → HasValue (round binary32 false n 64) false n 64
kept n few =
    round_exact binary32 false n 64 n 143 (omega arith) (omega arith) (lt_trans (shl_lt 15 143 few) (pow-lt {i = 158} {j = 277} (omega arith)))
    (sym (mul_assoc n (2 ^ 143) 64))

multiplied : {a : Fraction} (n : ℕ) → a ≐ over n 64 → a.num * 64 ≡ n * a.den
unfolding over
multiplied n e = e.out

-- two readings of p and of q 64ths
difference : (x y : Float) (p q : ℕ) → is_clear x ≡ true → is_clear y ≡ true → value_of x ≐ over p 64 → value_of y ≐ over q 64 →
    value_of y ⊑ value_of x →
    p < 2 ^ 15 →
    HasValue (sub binary32 x y) false (p - q) 64
difference x y p q cx cy vx vy order few =
    let exact : value_of x ⊖ value_of y ≐ over (p - q) 64 = ⊖_over p q 64 vx vy in
    let rounded : sub binary32 x y ≡ round binary32 false (p - q) 64 =
    subtracted x y cx cy order ∙
    round_same binary32 false (value_of x ⊖ value_of y).num (value_of x ⊖ value_of y).den (p - q) 64 (⊖_sound (value_sound x) (value_sound y)).above_0
    (omega arith)
    (multiplied (p - q) exact) in
    subst (λ (z : Float). HasValue z false (p - q) 64) (sym rounded) (kept (p - q) (omega arith))

-- two readings of which the first is no less: the difference has its sign bit clear, and as many 64ths as the numbers of 64ths differ by
pub deflected : (x y : Float) → IsReading x → IsReading y → value_of y ⊑ value_of x →
    (is_clear (sub binary32 x y) ≡ true) × (value_of (sub binary32 x y) ≐ over (count_of x - count_of y) 64)
deflected x y rx ry order =
    let cx = reading_counted x (is_reading_lem x rx) in
    let cy = reading_counted y (is_reading_lem y ry) in
    has_value (sub binary32 x y) (count_of x - count_of y) 64
    (difference x y (count_of x) (count_of y) cx.clear cy.clear cx.value cy.value order cx.few)

-- so the difference is a reading
pub deflection_reading : (x y : Float) → IsReading x → IsReading y → value_of y ⊑ value_of x → is_reading (sub binary32 x y) ≡ true
deflection_reading x y rx ry order =
    let value = deflected x y rx ry order in
    reading_by (sub binary32 x y) (count_of x - count_of y) 64 (omega arith) value.0 value.1 ∙
    rw (whole_count (count_of x - count_of y), lt-leb (512 * 64) (count_of x - count_of y) (omega (arith, (reading_counted x (is_reading_lem x rx)).few)))
  where
    whole_count : (n : ℕ) → eqb (64 * n % 64) 0 ≡ true
    whole_count n = eq-eqb (64 * n % 64) 0 (omega arith)
