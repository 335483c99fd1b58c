-- What a stringer carries, over one divisor; that no stringer carries more than the greatest from −3 to m + 4, since any other stands more than
-- three spacings from both wheels; and that β is above 0 and at most 2.
-- Assumes nothing.
use Prim.Native.Nat.{ℕ, zero, suc, ◌+◌, ◌-◌, ◌*◌, ◌≤◌, ◌<◌}
use mathlib.Core.Path.{◌≡◌, refl, ap, sym}
use native.Mathlib.Nat.{div-add-mod', mod-lt, mul-pos, mul-le-mul_left, mul-le-mul_right}
use native.Mathlib.Decide.{dec_le}
use native.Mathlib.Omega.{arith}
use lib.IntN.{ℤ, pos, negsuc, sub_ℕ}
use borrow.Author.Tests.{le-ltb, lt-ltb}
use Rattle.section.specs.Fraction.{Sound, over, whole, ceiling, ◌·◌, ◌÷◌, ◌⊕◌, ◌⊑◌, ◌≐◌}
use Rattle.section.specs.Greatest.{top}
use Rattle.section.proofs.Greatest.{of_top, of_greatest, greatest_at, greatest_over}
use Rattle.section.proofs.Order.{⊑_refl, ≐_refl, ≐_sym, ≐_trans, ·_same, ·_sound, ÷_sound, ⊕_sound, over_sound, whole_sound, ⊕_over, times_over, ÷_over, over_times}
use Rattle.section.proofs.Products.{product_cap}
use Rattle.section.proofs.Rounding.{rounded_up, ceiling_least, ceiling_same}
use Rattle.spread.specs.Beta.{away, spacings, rest, Parted, carried, greatest_carried, GreatestOverAll, beta}
use Rattle.spread.specs.Scaled.{part, SharesOf, Bounded, apart, scaled_carried}
use Rattle.spread.specs.Spread.{Spread, spread_of, share}
use Rattle.spread.specs.Stiffness.{ten_thousandths}
use Rattle.spread.specs.declared.shares.Shares.{Shares}
use Rattle.spread.proofs.Scaled.{factor_above_0, far_share}
use Rattle.spread.proofs.Spreads.{Sensible, sensible}

-- "With E = md + r (m whole, r below d)"
pub parted : (d E : ℕ) → 0 < d → Parted d E
parted d E p = record { track = sym (div-add-mod' E d); below = mod-lt E p }

-- counted from −3, so that the first wheel stands over the one of index 3
away_shifted : (i c : ℕ) → away (sub_ℕ i 3) c ≡ apart i (c + 3)
away_shifted i c =
    elim (dec_le 3 i) [
      | yes h ↦ rw (le-ltb i 3 h) (omega arith)
      | no h ↦ rw (lt-ltb i 3 (omega arith)) (omega arith)
    ]

-- over the divisor times the spacing
module _ (spread : Spread) (s : Shares) (h : SharesOf spread s) (d E : ℕ) where
  carried_over : (i : ℕ) → carried spread d E (sub_ℕ i 3) ≐ over (scaled_carried s d (spacings d E) (rest d E) i) (s.divisor * d)
  unfolding carried scaled_carried
  carried_over i =
      let m = spacings d E in
      let r = rest d E in
      let last : m + 1 + 3 ≡ m + 4 = omega arith in
      rw (away_shifted i 0, away_shifted i m, away_shifted i (m + 1), last)
      (⊕_over _ _ (s.divisor * d) (over_times d _ s.divisor (h (apart i 3)))
      (÷_over d _ s.divisor
      (⊕_over _ _ s.divisor (times_over (d - r) _ s.divisor (h (apart i (m + 3)))) (times_over r _ s.divisor (h (apart i (m + 4)))))))

module _ {s : Spread} (ok : Sensible s) (d E : ℕ) (pd : 0 < d) where
  second_wheel : (u r a b : ℕ) → Sound ((whole u · share s a ⊕ whole r · share s b) ÷ whole d)
  unfolding whole
  second_wheel u r a b = ÷_sound (whole d) (⊕_sound (·_sound (whole_sound u) (ok.shares a)) (·_sound (whole_sound r) (ok.shares b))) pd

  carried_sound : (j : ℤ) → Sound (carried s d E j)
  unfolding carried
  carried_sound j = ⊕_sound (ok.shares _) (second_wheel _ _ _ _)

  greatest_sound : Sound (greatest_carried s d E)
  unfolding greatest_carried
  greatest_sound = of_greatest Sound _ _ (λ i. carried_sound (sub_ℕ i 3))

  -- the stringers from −3 to m + 4
  at_index : (i : ℕ) → i < suc (spacings d E + 7) → carried s d E (sub_ℕ i 3) ⊑ greatest_carried s d E
  unfolding greatest_carried
  at_index i l = greatest_at (λ i. carried s d E (sub_ℕ i 3)) (λ i. carried_sound (sub_ℕ i 3)) _ i l

  -- a stringer that is more than three spacings from each carries nothing
  far : (j : ℤ) → 4 ≤ away j 0 → 4 ≤ away j (spacings d E) → 4 ≤ away j (spacings d E + 1) → carried s d E j ⊑ greatest_carried s d E
  unfolding carried whole ◌·◌ ◌÷◌ ◌⊕◌
  far j h0 h1 h2 = record { out = rw (far_share s _ h0, far_share s _ h1, far_share s _ h2) (omega arith) }

  no_more : (j : ℤ) → carried s d E j ⊑ greatest_carried s d E
  no_more (pos n) =
      elim (dec_le n (spacings d E + 4)) [
        | yes h ↦ rw (back n) at (at_index (n + 3) (omega arith))
        | no h ↦ far (pos n) (omega arith) (omega arith) (omega arith)
      ]
    where
      back : (n : ℕ) → sub_ℕ (n + 3) 3 ≡ pos n
      back n = let e : n + 3 - 3 ≡ n = omega arith in rw (le-ltb (n + 3) 3 (omega arith), e)
  no_more (negsuc zero) = at_index 2 (omega arith)
  no_more (negsuc (suc zero)) = at_index 1 (omega arith)
  no_more (negsuc (suc (suc zero))) = at_index 0 (omega arith)
  no_more (negsuc (suc (suc (suc n)))) = far (negsuc (suc (suc (suc n)))) (omega arith) (omega arith) (omega arith)

  given : (j : ℤ) × (greatest_carried s d E ≡ carried s d E j)
  unfolding greatest_carried
  given = of_greatest (λ c. (j : ℤ) × (c ≡ carried s d E j)) _ _ (λ i. (sub_ℕ i 3, refl))

  -- the loaded stringer carries something
  greatest_above_0 : 0 < (greatest_carried s d E).num
  unfolding carried ◌⊕◌
  greatest_above_0 = factor_above_0 _ _ _ (no_more (pos 0)).out (mul-pos loaded greatest_sound.above_0)
    where
      loaded : 0 < (carried s d E (pos 0)).num
      loaded = omega (arith, mul-pos ok.loaded (second_wheel (d - rest d E) (rest d E) (away (pos 0) (spacings d E)) (away (pos 0) (spacings d E + 1))).above_0)

pub greatest_over_all : (k d E : ℕ) → 0 < d → GreatestOverAll (spread_of (ten_thousandths k)) d E
greatest_over_all k d E p = record { no_more = no_more (sensible k) d E p; given = given (sensible k) d E p }

pub beta_above_0 : (k d E : ℕ) → 0 < d → 0 < beta k d E
unfolding beta whole ◌·◌
beta_above_0 k d E p =
    let most = greatest_above_0 (sensible k) d E p in
    factor_above_0 _ _ _ (rounded_up _ (·_sound (greatest_sound (sensible k) d E p) (whole_sound 10000))).never_below.out (omega arith)

-- the code's whole numbers
module _ (k d E : ℕ) (s : Shares) (h : SharesOf (spread_of (ten_thousandths k)) s) (b : Bounded s) (pd : 0 < d) where
  abbrev most : ℕ
  most = top (scaled_carried s d (spacings d E) (rest d E)) (spacings d E + 8)

  divisor_above_0 : 0 < s.divisor * d
  divisor_above_0 = mul-pos b.above_0 pd

  most_is : over most (s.divisor * d) ≐ greatest_carried (spread_of (ten_thousandths k)) d E
  unfolding greatest_carried
  most_is =
      let last : spacings d E + 8 ≡ suc (spacings d E + 7) = omega arith in
      rw last
      (greatest_over _ (scaled_carried s d (spacings d E) (rest d E)) (s.divisor * d) divisor_above_0
      (λ i. carried_sound (sensible k) d E pd (sub_ℕ i 3))
      (λ i. ≐_sym (carried_over (spread_of (ten_thousandths k)) s h d E i))
      (spacings d E + 7))

  multiplied : over (10000 * most) (s.divisor * d) ≐ over most (s.divisor * d) · whole 10000
  unfolding over whole ◌·◌
  multiplied = record { out = omega arith }

  pub beta_whole : ceiling (over (10000 * most) (s.divisor * d)) ≡ beta k d E
  unfolding beta
  beta_whole =
      ceiling_same (over_sound _ _ divisor_above_0) (·_sound (greatest_sound (sensible k) d E pd) (whole_sound 10000))
      (≐_trans (·_sound (over_sound most _ divisor_above_0) (whole_sound 10000)) multiplied (·_same most_is ≐_refl))

-- a part times a number that is at most the greatest spacing
pub share_high : {s : Shares} {x p : ℕ} (k : ℕ) → Bounded s → p ≡ part s k → x ≤ 100 → x * p ≤ 900000000000000
share_high k b e h = product_cap 100 9000000000000 h (omega (arith, e, b.parts k, b.room))

-- no stringer carries more than twice the loaded stringer's share
pub most_cap : {s : Shares} (d m r n : ℕ) → Bounded s → r ≤ d → top (scaled_carried s d m r) n ≤ 2 * (s.own * d)
unfolding scaled_carried
most_cap {s} d m r n b h = of_top (λ t. t ≤ 2 * (s.own * d)) _ n (omega arith) (λ i l. each (apart i 3) (apart i (m + 3)) (apart i (m + 4)))
  where
    each : (x y z : ℕ) → part s x * d + ((d - r) * part s y + r * part s z) ≤ 2 * (s.own * d)
    each x y z =
        let both : d - r + r ≡ d = omega arith in
        omega (
          arith,
          mul-le-mul_right d (b.parts x),
          mul-le-mul_left (d - r) (b.parts y),
          mul-le-mul_left r (b.parts z),
          ap (λ (t : ℕ). t * s.own) both,
        )

-- 64 bits hold what is rounded up
pub most_fits : {s : Shares} (d n : ℕ) → Bounded s → d ≤ 100 → n ≤ 2 * (s.own * d) → 10000 * n + s.divisor * d ≤ 18000000000000000000
most_fits {s} d n b hd h = omega (arith, product_cap 180000000000000000 100 b.room hd)

pub rounded_cap : {s : Shares} (d n : ℕ) → Bounded s → 0 < s.divisor * d → n ≤ 2 * (s.own * d) → ceiling (over (10000 * n) (s.divisor * d)) ≤ 20000
unfolding over whole
rounded_cap {s} d n b p h =
    let sound = over_sound (10000 * n) (s.divisor * d) p in
    ceiling_least 20000 sound sound ⊑_refl (record { out = omega (arith, mul-le-mul_right d b.own_high) })
