-- Whether a pattern of 32 bits is a reading's, by its exponent's field: below 121 its number is above 0 and below 1/64, above 135 it is 512 or
-- more, no number, or its sign bit is set; from 121 to 135 it is a whole number of parts, 2 ^ 23 to the 64th.
-- Assumes nothing.
use Prim.Native.Nat.{ℕ, zero, suc, ◌+◌, ◌-◌, ◌*◌, ◌/◌, ◌%◌, ◌^◌, ◌≤◌, ◌<◌}
use mathlib.Core.Path.{◌≡◌, refl, sym, ap, ◌∙◌, subst}
use mathlib.Core.Bool.{Bool, true, false, not, ◌&&◌, cond, and-true, and-false}
use mathlib.Core.Logic.{inl, inr}
use native.Mathlib.Nat.{mod-eq_of_lt, mul_assoc, mul-pos, mul-le-mul, lt_of_lt_of_le, div-add-mod', mul-mod_left}
use native.Mathlib.Omega.{arith}
use lib.Dec.{eqb, leb}
use lib.Pow.{pow-add, pow_pos, pow_mono, shl_lt}
use lib.Ieee.{nan, inf, binary32, odd, of_fields, of_bits}
use lib.Ieee.Exact.{odd_sign}
use borrow.Author.Tests.{le-leb, lt-leb, eq-eqb, ne_eqb, eqb-true, eqb-false, leb-true, leb-false}
use Rattle.section.specs.Fraction.{over, ◌≐◌}
use Rattle.section.proofs.Choices.{decided, same_test}
use Rattle.section.proofs.Order.{≐_refl, ≐_sym, ≐_trans, over_sound, over_times}
use Rattle.gauge.specs.Whole.{count_of}
use Rattle.gauge.specs.Value.{value_of, is_clear, is_reading}
use Rattle.gauge.proofs.Values.{has_value, reading_by, counted_by}

-- `odd 24 s q k 149` is q times 2 ^ k, in units of the least f32, 2 ^ -149. With a set sign bit it is no reading.
signed_odd : (q k : ℕ) → is_reading (odd 24 true q k 149) ≡ false
unfolding is_reading odd
signed_odd zero k = refl
signed_odd (suc q) k = refl

clear_odd : (q k : ℕ) → (is_clear (odd 24 false q k 149) ≡ true) × (value_of (odd 24 false q k 149) ≐ over (q * 2 ^ k) (2 ^ 149))
clear_odd q k = has_value (odd 24 false q k 149) (q * 2 ^ k) (2 ^ 149) (odd_sign 24 false q k 149)

odd_reading : (q k : ℕ) → is_reading (odd 24 false q k 149) ≡ (eqb (64 * (q * 2 ^ k) % 2 ^ 149) 0 && not (leb (512 * 2 ^ 149) (q * 2 ^ k)))
odd_reading q k = reading_by (odd 24 false q k 149) (q * 2 ^ k) (2 ^ 149) (pow_pos 149) (clear_odd q k).0 (clear_odd q k).1

-- above 0 and below 1/64
too_small : (q k : ℕ) → 0 < q → q < 2 ^ 24 → k ≤ 119 → is_reading (odd 24 false q k 149) ≡ false
too_small q k some few low =
    let units = q * 2 ^ k in
    let below : units < 2 ^ 143 = lt_of_lt_of_le (shl_lt 24 k few) (pow_mono {j = 143} (omega arith)) in
    let least : 0 < units = mul-pos some (pow_pos k) in
    odd_reading q k ∙ rw (mod-eq_of_lt (times units (2 ^ 143) below), ne_eqb (64 * units) 0 (above units least))
  where
    times : (u n : ℕ) → u < n → 64 * u < 64 * n
    times u n h = omega arith

    above : (u : ℕ) → 0 < u → 64 * u ≡ 0 → ⊥
    above u h e = omega arith

-- 512 or more
too_large : (q k : ℕ) → 2 ^ 23 ≤ q → 135 ≤ k → is_reading (odd 24 false q k 149) ≡ false
too_large q k great high =
    let reached : 512 * 2 ^ 149 ≤ q * 2 ^ k = mul-le-mul great (pow_mono high) in
    odd_reading q k ∙ rw (le-leb _ _ reached) (and-false (eqb (64 * (q * 2 ^ k) % 2 ^ 149) 0))

-- between, in parts of a 64th
parts_value : (q j : ℕ) → value_of (odd 24 false q (j + 120) 149) ≐ over (q * 2 ^ j) (2 ^ 29)
parts_value q j =
    ≐_trans (over_sound (q * 2 ^ (j + 120)) (2 ^ 149) (pow_pos 149)) (clear_odd q (j + 120)).1
    (subst (λ (n : ℕ). over n (2 ^ 149) ≐ over (q * 2 ^ j) (2 ^ 29)) (mul_assoc q (2 ^ j) (2 ^ 120) ∙ ap (λ (n : ℕ). q * n) (sym (pow-add 2 j 120)))
    (≐_sym (over_times (2 ^ 120) (q * 2 ^ j) (2 ^ 29) ≐_refl)))

-- The fields of a pattern whose sign bit is clear.
no_exponent : (t : ℕ) → of_fields binary32 false 0 t ≡ odd 24 false t 0 149
unfolding of_fields
no_exponent t = refl

with_exponent : (s : Bool) (x t : ℕ) → (suc x ≡ 255 → ⊥) → of_fields binary32 s (suc x) t ≡ odd 24 s (8388608 + t) x 149
unfolding of_fields
with_exponent s x t h = rw (ne_eqb (suc x) 255 h)

no_number : (s : Bool) (x t : ℕ) → suc x ≡ 255 → is_reading (of_fields binary32 s (suc x) t) ≡ false
unfolding of_fields is_reading
no_number s x t h = rw (eq-eqb (suc x) 255 h) (go (eqb t 0))
  where
    go : (b : Bool) → is_reading (cond b (inf s) nan) ≡ false
    go true = refl
    go false = refl

signed : (x t : ℕ) → is_reading (of_fields binary32 true x t) ≡ false
unfolding of_fields
signed zero t = signed_odd t 0
signed (suc x) t =
    elim (decided (eqb (suc x) 255)) [ inl e ↦ no_number true x t (eqb-true _ _ e) | inr e ↦ rw (with_exponent true x t (eqb-false _ _ e)) (signed_odd (8388608 + t) x) ]

small_field : (x t : ℕ) → x < 121 → t < 8388608 → 0 < x + t → is_reading (of_fields binary32 false x t) ≡ false
small_field zero t low few some = rw (no_exponent t) (too_small t 0 (omega arith) (omega arith) (omega arith))
small_field (suc x) t low few some = rw (with_exponent false x t (λ e. omega arith)) (too_small (8388608 + t) x (omega arith) (omega arith) (omega arith))

large_field : (x t : ℕ) → 135 < x → is_reading (of_fields binary32 false x t) ≡ false
large_field zero t high = absurd (omega arith)
large_field (suc x) t high =
    elim (decided (eqb (suc x) 255)) [
      | inl e ↦ no_number false x t (eqb-true _ _ e)
      | inr e ↦ rw (with_exponent false x t (eqb-false _ _ e)) (too_large (8388608 + t) x (omega arith) (omega arith))
    ]

-- A pattern b by its exponent's field, b / 2 ^ 23.
clear_pattern : (b : ℕ) → b < 2147483648 → of_bits binary32 b ≡ of_fields binary32 false (b / 8388608) (b % 8388608)
unfolding of_bits
clear_pattern b h = rw (lt-leb 2147483648 b h, mod-eq_of_lt h)

signed_pattern : (b : ℕ) → 2147483648 ≤ b → is_reading (of_bits binary32 b) ≡ false
unfolding of_bits
signed_pattern b h = rw (le-leb 2147483648 b h) (signed (b % 2147483648 / 8388608) (b % 8388608))

pub below_readings : (b : ℕ) → (b ≡ 0 → ⊥) → b / 8388608 < 121 → is_reading (of_bits binary32 b) ≡ false
below_readings b some low = rw (clear_pattern b (omega arith)) (small_field (b / 8388608) (b % 8388608) low (omega arith) (parts b some))
  where
    parts : (n : ℕ) → (n ≡ 0 → ⊥) → 0 < n / 8388608 + n % 8388608
    parts n h = omega arith

pub above_readings : (b : ℕ) → 135 < b / 8388608 → is_reading (of_bits binary32 b) ≡ false
above_readings b high =
    elim (decided (leb 2147483648 b)) [
      | inl e ↦ signed_pattern b (leb-true _ _ e)
      | inr e ↦ rw (clear_pattern b (leb-false _ _ e)) (large_field (b / 8388608) (b % 8388608) high)
    ]

-- A pattern with a field from 121 to 135: its leading 1 with the mantissa, shifted by what the field is above 121, is its number of parts.
abbrev pub parts_of : (b : ℕ) → ℕ
parts_of b = (8388608 + b % 8388608) * 2 ^ (b / 8388608 - 121)

-- 2 ^ 29 parts are 64 64ths
whole_parts : (p : ℕ) → eqb (64 * p % 536870912) 0 ≡ eqb (p % 8388608) 0
whole_parts p =
    same_test _ _ (λ e. eq-eqb (p % 8388608) 0 (divides (64 * p / 536870912) (multiple (eqb-true _ _ e))))
    (λ e. let h : p % 8388608 ≡ 0 = eqb-true _ _ e in eq-eqb (64 * p % 536870912) 0 (omega arith))
  where
    multiple : 64 * p % 536870912 ≡ 0 → p ≡ 64 * p / 536870912 * 8388608
    multiple e = omega (arith, div-add-mod' (64 * p) 536870912)

    divides : (k : ℕ) → p ≡ k * 8388608 → p % 8388608 ≡ 0
    divides k e = ap (λ (n : ℕ). n % 8388608) e ∙ mul-mod_left k 8388608

module _ (b : ℕ) (low : 121 ≤ b / 8388608) (high : b / 8388608 ≤ 135) where
  number : of_bits binary32 b ≡ odd 24 false (8388608 + b % 8388608) (b / 8388608 - 121 + 120) 149
  number =
      let field : b / 8388608 ≡ suc (b / 8388608 - 121 + 120) = omega arith in
      clear_pattern b (omega arith) ∙
      ap (λ (x : ℕ). of_fields binary32 false x (b % 8388608)) field ∙
      with_exponent false (b / 8388608 - 121 + 120) (b % 8388608) (λ e. omega arith)

  value : value_of (of_bits binary32 b) ≐ over (parts_of b) (2 ^ 29)
  value = rw number (parts_value (8388608 + b % 8388608) (b / 8388608 - 121))

  clear : is_clear (of_bits binary32 b) ≡ true
  clear = rw number (clear_odd (8388608 + b % 8388608) (b / 8388608 - 121 + 120)).0

  few : parts_of b < 2 ^ 38
  few = lt_of_lt_of_le (shl_lt 24 (b / 8388608 - 121) (omega arith)) (pow_mono {j = 38} (omega arith))

  pub in_parts : is_reading (of_bits binary32 b) ≡ eqb (parts_of b % 8388608) 0
  in_parts =
      reading_by (of_bits binary32 b) (parts_of b) (2 ^ 29) (pow_pos 29) clear value ∙
      rw (lt-leb (512 * 2 ^ 29) (parts_of b) few) (and-true (eqb (64 * parts_of b % 536870912) 0) ∙ whole_parts (parts_of b))

  pub parts_counted : count_of (of_bits binary32 b) ≡ parts_of b / 8388608
  parts_counted = counted_by (of_bits binary32 b) (parts_of b) (2 ^ 29) (pow_pos 29) clear value ∙ same (parts_of b)
    where
      same : (p : ℕ) → 64 * p / 536870912 ≡ p / 8388608
      same p = omega arith
