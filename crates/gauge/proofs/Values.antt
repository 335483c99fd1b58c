-- Whether a float is a reading goes by any fraction that is its value, and comes to the plain words.
-- Assumes nothing.
use Prim.Native.Nat.{ℕ, ◌*◌, ◌/◌, ◌%◌, ◌^◌, ◌≤◌, ◌<◌}
use mathlib.Core.Path.{◌≡◌, refl, sym, ap, ◌∙◌}
use mathlib.Core.Bool.{true, false, not, ◌&&◌, false≢true, true≢false}
use mathlib.Core.Logic.{◌↔◌}
use native.Mathlib.Nat.{mul-one, mul-mod_left, div-add-mod', lt_of_mul-lt-mul_right}
use native.Mathlib.Omega.{arith}
use lib.Dec.{T, eqb, leb}
use lib.IntN.{ℤ}
use lib.Ieee.{Float, nan, inf, fin, ne, is_nan}
use lib.Ieee.Compare.{nan_differs}
use lib.Ieee.Fits.{down_pos}
use lib.Ieee.Exact.{HasValue}
use borrow.Author.Tests.{le-leb, leb-true, eq-eqb, eqb-true, not-true}
use Rattle.section.specs.Fraction.{Fraction, Sound, over, whole, ◌·◌, ◌⊏◌, ◌≐◌, at_most, floor}
use Rattle.section.proofs.Choices.{same_test}
use Rattle.section.proofs.Order.{≐_refl, ≐_sym, ≐_trans, over_sound, whole_sound, ·_sound, times_over, above, is_above, at_most_same}
use Rattle.section.proofs.Rounding.{floor_same}
use Rattle.files.proofs.Tests.{both}
use Rattle.gauge.specs.Whole.{count_of}
use Rattle.gauge.specs.Value.{value_of, is_clear, is_whole, is_reading, IsReading}

-- what equals itself is no NaN
pub a_number : (x : Float) → ne x x ≡ false → T (not (is_nan x))
unfolding is_nan
a_number nan e = absurd (true≢false (sym nan_differs ∙ e))
a_number (inf s) e = tt
a_number (fin s m e') e = tt

pub value_sound : (x : Float) → Sound (value_of x)
unfolding value_of over whole
value_sound nan = record { above_0 = omega arith }
value_sound (inf s) = record { above_0 = omega arith }
value_sound (fin s m e) = record { above_0 = down_pos e }

-- the test of a whole number, in words
whole_of : (a : Fraction) → is_whole a ≡ true → a ≐ whole (floor a)
unfolding whole floor
whole_of a e = record { out = omega (arith, div-add-mod' a.num a.den, eqb-true (a.num % a.den) 0 e) }

of_whole : (a : Fraction) (n : ℕ) → a ≐ whole n → is_whole a ≡ true
unfolding whole
of_whole a n e =
    let product : a.num ≡ n * a.den = sym (mul-one a.num) ∙ e.out in
    eq-eqb (a.num % a.den) 0 (ap (λ (k : ℕ). k % a.den) product ∙ mul-mod_left n a.den)

-- it goes by the value alone
whole_same : {a b : Fraction} → Sound a → Sound b → a ≐ b → is_whole a ≡ is_whole b
whole_same {a} {b} sa sb p =
    same_test (is_whole a) (is_whole b) (λ e. of_whole b (floor a) (≐_trans sa (≐_sym p) (whole_of a e)))
    (λ e. of_whole a (floor b) (≐_trans sb p (whole_of b e)))

-- a float that has a value in the sense of the logic, with its sign bit clear
pub has_value : (x : Float) (a c : ℕ) → HasValue x false a c → (is_clear x ≡ true) × (value_of x ≐ over a c)
unfolding value_of over
has_value nan a c h = absurd h
has_value (inf s) a c h = absurd h
has_value (fin true m e) a c h = absurd (true≢false h.0)
has_value (fin false m e) a c h = (refl, record { out = h.1 })

-- the tests of a float whose value is a / c
module _ (x : Float) (a c : ℕ) (above_0 : 0 < c) (clear : is_clear x ≡ true) (value : value_of x ≐ over a c) where
  sixty_fourths : whole 64 · value_of x ≐ over (64 * a) c
  sixty_fourths = times_over 64 a c value

  sound : Sound (whole 64 · value_of x)
  sound = ·_sound (whole_sound 64) (value_sound x)

  pub reading_by : is_reading x ≡ (eqb (64 * a % c) 0 && not (leb (512 * c) a))
  unfolding is_reading over whole
  reading_by =
      let first : is_whole (whole 64 · value_of x) ≡ eqb (64 * a % c) 0 = whole_same sound (over_sound (64 * a) c above_0) sixty_fourths in
      let second : at_most (whole 512) (value_of x) ≡ leb (512 * c) (a * 1) =
      at_most_same (whole_sound 512) (whole_sound 512) (value_sound x) (over_sound a c above_0) ≐_refl value in
      rw (clear, first, second, mul-one a)

  pub counted_by : count_of x ≡ 64 * a / c
  unfolding floor over
  counted_by = floor_same sound (over_sound (64 * a) c above_0) sixty_fourths

-- the tests of a reading, one by one
record Passed (x : Float) : Type 0 where
  clear : is_clear x ≡ true
  multiple : is_whole (whole 64 · value_of x) ≡ true
  below : at_most (whole 512) (value_of x) ≡ false

passed : (x : Float) → is_reading x ≡ true → Passed x
unfolding is_reading
passed x e =
    let first = both (is_clear x && is_whole (whole 64 · value_of x)) (not (at_most (whole 512) (value_of x))) e in
    let start = both (is_clear x) (is_whole (whole 64 · value_of x)) first.0 in
    record { clear = start.0; multiple = start.1; below = not-true _ first.1 }

all_passed : (x : Float) → Passed x → is_reading x ≡ true
unfolding is_reading
all_passed x p = rw (p.clear, p.multiple, p.below)

-- 64 times a fraction is n exactly where it is n 64ths
times_64 : (a : Fraction) (n : ℕ) → (whole 64 · a ≐ whole n) ↔ (a ≐ over n 64)
unfolding whole over ◌·◌
times_64 a n = (λ e. record { out = omega (arith, e.out) }, λ e. record { out = omega (arith, e.out) })

below_512 : (a : Fraction) (n : ℕ) → a ≐ over n 64 → a ⊏ whole 512 → n < 2 ^ 15
unfolding whole over
below_512 a n e h = lt_of_mul-lt-mul_right a.den {m = n} {n = 32768} (omega (arith, e.out, h.out))

pub record Counted (x : Float) : Type 0 where
  pub clear : is_clear x ≡ true
  pub value : value_of x ≐ over (count_of x) 64
  pub few : count_of x < 2 ^ 15

pub reading_counted : (x : Float) → is_reading x ≡ true → Counted x
reading_counted x e =
    let p = passed x e in
    let value : value_of x ≐ over (count_of x) 64 = (times_64 (value_of x) (count_of x)).0 (whole_of (whole 64 · value_of x) p.multiple) in
    record { clear = p.clear; value = value; few = below_512 (value_of x) (count_of x) value (above (whole 512) (value_of x) p.below) }

-- In plain words.
clear_is : (x : Float) → is_clear x ≡ true → (m : ℕ) × (e : ℤ) × (x ≡ fin false m e)
clear_is nan p = absurd (false≢true p)
clear_is (inf s) p = absurd (false≢true p)
clear_is (fin true m e) p = absurd (false≢true p)
clear_is (fin false m e) p = (m, e, refl)

pub reading_is : (x : Float) → is_reading x ≡ true → IsReading x
reading_is x e =
    let c = reading_counted x e in
    record { clear = clear_is x c.clear; multiple = (count_of x, c.value); below = above (whole 512) (value_of x) (passed x e).below }

pub is_reading_lem : (x : Float) → IsReading x → is_reading x ≡ true
is_reading_lem x h =
    all_passed x
    record {
      clear = ap is_clear h.clear.2;
      multiple = of_whole (whole 64 · value_of x) h.multiple.0 ((times_64 (value_of x) h.multiple.0).1 h.multiple.1);
      below = is_above h.below;
    }

-- The order of two readings is that of their numbers of 64ths.
same_parts : (p q : ℕ) → leb p q ≡ at_most (over p 64) (over q 64)
unfolding over
same_parts p q = same_test _ _ (λ e. le-leb (p * 64) (q * 64) (times (leb-true p q e))) (λ e. le-leb p q (less (leb-true (p * 64) (q * 64) e)))
  where
    times : p ≤ q → p * 64 ≤ q * 64
    times h = omega arith

    less : p * 64 ≤ q * 64 → p ≤ q
    less h = omega arith

pub counts_in_order : (x y : Float) → Counted x → Counted y → leb (count_of x) (count_of y) ≡ at_most (value_of x) (value_of y)
counts_in_order x y a b =
    same_parts (count_of x) (count_of y) ∙
    at_most_same (over_sound (count_of x) 64 (omega arith)) (value_sound x) (over_sound (count_of y) 64 (omega arith)) (value_sound y) (≐_sym a.value) (≐_sym b.value)

pub count_against : (x : Float) (b : Fraction) → Counted x → Sound b → at_most (over (count_of x) 64) b ≡ at_most (value_of x) b
count_against x b a s = at_most_same (over_sound (count_of x) 64 (omega arith)) (value_sound x) s s (≐_sym a.value) ≐_refl
