-- The stiffness number: rounding half up is rounding down one half more, equal moments of inertia give the same number, and twice the quotient,
-- one more and halved, is the quotient rounded half up.
-- Assumes nothing.
use Prim.Native.Nat.{ℕ, ◌+◌, ◌*◌, ◌/◌, ◌≤◌, ◌<◌, min}
use mathlib.Core.Path.{◌≡◌, refl, sym, ap, ◌∙◌}
use mathlib.Core.Bool.{Bool, true, false}
use native.Mathlib.Nat.{div-div-eq-div-mul, add-div_right, mul-pos, mul-le-mul, le-mul_of_pos_right}
use native.Mathlib.Omega.{arith}
use lib.Dec.{eqb}
use borrow.Author.Tests.{eqb-true, eqb-false, eq-eqb, ne_eqb}
use Rattle.section.specs.Choose.{choose}
use Rattle.section.specs.Fraction.{Fraction, Sound, over, whole, cube, floor, ◌·◌, ◌÷◌, ◌⊕◌, ◌≐◌}
use Rattle.section.proofs.Order.{⊑_refl, ⊑_antisymm, ≐_⊑, ≐_⊒, ≐_refl, ≐_sym, ·_same, ÷_same, ⊕_mono, ⊕_sound, ·_sound, ÷_sound, over_sound, whole_sound}
use Rattle.section.proofs.Products.{product_cap}
use Rattle.section.proofs.Rounding.{rounded_down, floor_same}
use Rattle.spread.specs.Stiffness.{stiffness, half_up, RoundedHalfUp, GREATEST_STIFFNESS, stiffness_number}

-- equal fractions are 0 together
same_zero : {a b : Fraction} → Sound a → a ≐ b → a.num ≡ 0 → b.num ≡ 0
same_zero {a} {b} s e z = omega (arith, le-mul_of_pos_right b.num s.above_0, rw z at e.out)

pos_of : (n : ℕ) → ¬ (n ≡ 0) → 0 < n
pos_of n h = omega arith

half_sound : Sound (over 1 2)
half_sound = over_sound 1 2 (omega arith)

-- rounded half up once
pub rounded_half_up : (a : Fraction) → Sound a → RoundedHalfUp a (half_up a)
unfolding half_up over whole ◌⊕◌
rounded_half_up a s =
    let r = rounded_down (a ⊕ over 1 2) (⊕_sound s half_sound) in
    record { not_above = r.never_above; not_below = record { out = omega (arith, r.near.out) } }

half_up_same : {a b : Fraction} → Sound a → Sound b → a ≐ b → half_up a ≡ half_up b
unfolding half_up
half_up_same s t e =
    floor_same (⊕_sound s half_sound) (⊕_sound t half_sound)
    (⊑_antisymm (⊕_mono (≐_⊑ e) ⊑_refl) (⊕_mono (≐_⊒ e) ⊑_refl))

-- twice the quotient, one more and halved
half_up_whole : (n d : ℕ) → 0 < d → (n * 2 / d + 1) / 2 ≡ half_up (over n d)
unfolding half_up floor over ◌⊕◌
half_up_whole n d p =
    ap (λ (x : ℕ). x / 2) (sym (add-div_right (n * 2) p)) ∙ div-div-eq-div-mul (n * 2 + d) d 2 ∙ ap (λ (x : ℕ). x / (d * 2)) (omega arith)

-- equal moments of inertia give the same number
module _ {d : Fraction} (l : Fraction) (sd : Sound d) (pl : 0 < l.num) where
  cube_sound : {a : Fraction} → Sound a → Sound (cube a)
  unfolding cube
  cube_sound s = ·_sound (·_sound s s) s

  stiffness_sound : (I J : Fraction) → Sound I → 0 < J.num → Sound (stiffness d I l J)
  unfolding stiffness cube ◌·◌
  stiffness_sound I J sI pJ =
      ÷_sound (cube l · J) (·_sound (·_sound (whole_sound 8) (cube_sound sd)) sI) (mul-pos (mul-pos (mul-pos pl pl) pl) pJ)

  number_sound : (I J : Fraction) → Sound I → 0 < J.num → Sound (stiffness d I l J · whole 10000)
  number_sound I J sI pJ = ·_sound (stiffness_sound I J sI pJ) (whole_sound 10000)

  number_same : {I I' J J' : Fraction} → I ≐ I' → J ≐ J' → stiffness d I l J · whole 10000 ≐ stiffness d I' l J' · whole 10000
  unfolding stiffness
  number_same e f = ·_same (÷_same (·_same ≐_refl e) (·_same ≐_refl f)) ≐_refl

  pub stiffness_number_same : {I I' J J' : Fraction} → Sound I → Sound I' → Sound J → Sound J' → I ≐ I' → J ≐ J' →
      stiffness_number d I l J ≡ stiffness_number d I' l J'
  unfolding stiffness_number
  stiffness_number_same {I} {I'} {J} {J'} sI sI' sJ sJ' e f = go (eqb J.num 0) refl
    where
      go : (t : Bool) → eqb J.num 0 ≡ t →
          choose t GREATEST_STIFFNESS (min (half_up (stiffness d I l J · whole 10000)) GREATEST_STIFFNESS) ≡
          choose (eqb J'.num 0) GREATEST_STIFFNESS (min (half_up (stiffness d I' l J' · whole 10000)) GREATEST_STIFFNESS)
      go true z = rw (eq-eqb J'.num 0 (same_zero sJ f (eqb-true _ _ z)))
      go false z =
          rw (ne_eqb J'.num 0 (λ n. eqb-false _ _ z (same_zero sJ' (≐_sym f) n)))
          (ap (λ (x : ℕ). min x GREATEST_STIFFNESS)
          (half_up_same (number_sound I J sI (pos_of _ (eqb-false _ _ z))) (number_sound I' J' sI' (pos_of _ (λ n. eqb-false _ _ z (same_zero sJ' (≐_sym f) n)))) (number_same e f)))

-- by whole numbers: the front and the divisor, with the moments of inertia in twelfths
pub stiffness_whole : (d i l j : ℕ) → 0 < l → 0 < j →
    stiffness_number (whole d) (over i 12) (whole l) (over j 12) ≡
    min ((1000 * (8 * (d * d * d) * i) * 20 / (l * l * l * j) + 1) / 2) GREATEST_STIFFNESS
unfolding stiffness_number stiffness cube over whole ◌·◌ ◌÷◌
stiffness_whole d i l j pl pj =
    rw (ne_eqb j 0 (omega arith))
    (ap (λ (x : ℕ). min x GREATEST_STIFFNESS)
    (half_up_same (number_sound (whole l) (whole_sound d) pl (over i 12) (over j 12) (over_sound i 12 (omega arith)) pj) (over_sound _ _ (mul-pos (mul-pos (mul-pos pl pl) pl) pj))
    (record { out = omega arith }) ∙
    sym (half_up_whole (10000 * (8 * (d * d * d) * i)) (l * l * l * j) (mul-pos (mul-pos (mul-pos pl pl) pl) pj)) ∙
    ap (λ (x : ℕ). (x / (l * l * l * j) + 1) / 2) (omega arith)))

-- 64 bits hold the front, the divisor and what the quotient by parts takes of them
pub record Caps (d i l j : ℕ) : Type 0 where
  pub square : d * d ≤ 10000
  pub cube : d * d * d ≤ 1000000
  pub front : 8 * (d * d * d) * i ≤ 4147200000000000
  pub span_square : l * l ≤ 25000000
  pub span_cube : l * l * l ≤ 125000000000
  pub divisor_low : 20 ≤ l * l * l * j
  pub divisor_high : l * l * l * j ≤ 600000000000000000

pub caps : (d i l j : ℕ) → d ≤ 100 → i ≤ 518400000 → 100 ≤ l → l ≤ 5000 → 0 < j → j ≤ 4800000 → Caps d i l j
caps d i l j hd hi ll hl pj hj =
    let square : d * d ≤ 10000 = product_cap 100 100 hd hd in
    let cube : d * d * d ≤ 1000000 = product_cap 10000 100 square hd in
    let span_square : l * l ≤ 25000000 = product_cap 5000 5000 hl hl in
    let span_cube : l * l * l ≤ 125000000000 = product_cap 25000000 5000 span_square hl in
    let low : 10000 * 100 ≤ l * l * l = mul-le-mul (mul-le-mul {n₁ = 100} {m₁ = 100} ll ll) ll in
    record {
      square = square;
      cube = cube;
      front = product_cap 8000000 518400000 (omega arith) hi;
      span_square = span_square;
      span_cube = span_cube;
      divisor_low = omega (arith, low, le-mul_of_pos_right (l * l * l) pj);
      divisor_high = product_cap 125000000000 4800000 span_cube hj;
    }
