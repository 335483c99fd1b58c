-- What one turn of the code's loops adds, and that it all fits 64 bits: an axle's place is the one in front's less a distance,
-- a height is at most 10^8 and a sum at most 16 axles of 200,000 kgf at that height.
-- Assumes nothing.
use Prim.Native.Nat.{ℕ, suc, ◌+◌, ◌-◌, ◌*◌, ◌≤◌, max}
use mathlib.Core.Path.{◌≡◌, refl}
use mathlib.Core.List.{List}
use mathlib.Core.Bool.{Bool, true, false, cond}
use lib.Dec.{leb, eqb}
use borrow.Author.Tests.{leb-true, leb-false}
use Rattle.std.proofs.Common.{is_lt, Less, Equal, Greater}
use Rattle.influence.specs.declared.ScaledSum.{ScaledSum}
use native.Mathlib.Nat.{mul-le-mul}
use native.Mathlib.Numerals.{add-one}
use native.Mathlib.Decide.{dec_le}
use native.Mathlib.Omega.{arith}
use Rattle.section.specs.declared.Cm.{Cm}
use Rattle.section.specs.declared.Kgf.{Kgf}
use Rattle.section.specs.Fraction.{over, whole, ◌·◌, ◌÷◌}
use Rattle.section.specs.Units.{weight, distance}
use Rattle.influence.specs.Influence.{total, per_metre, behind}
use Rattle.section.specs.Greatest.{top}
use Rattle.influence.specs.Scaled.{scaled_height, scaled_sum, apex_top, scaled_greatest}
use Rattle.influence.specs.Bounds.{Bounded}
use Rattle.influence.proofs.Folds.{total_cap, total_more, total_rest}
use Rattle.section.proofs.Greatest.{of_top, top_next}
use Rattle.influence.proofs.Apex.{rising_side, falling_side}
use Rattle.influence.proofs.Scaled.{mirrored}

-- the distances of the first i axles, in half centimetres
abbrev pub passed : List Cm → ℕ → ℕ
passed ds i = total (λ j. 2 * distance ds j) i

pub passed_next : (ds : List Cm) (i : ℕ) → passed ds (i + 1) ≡ passed ds i + 2 * distance ds i
unfolding total
passed_next ds i = rw (add-one i) refl

pub behind_passed : (ds : List Cm) (i : ℕ) → behind ds i ≡ passed ds i + 2 * distance ds i
unfolding behind total
behind_passed ds i = refl

pub behind_further : (ds : List Cm) {i k : ℕ} → i ≤ k → behind ds i ≤ behind ds k
unfolding behind
behind_further ds l = total_more (λ j. 2 * distance ds j) (omega arith)

-- one axle more
pub sum_next :
    (U P : ℕ) (w b : ℕ → ℕ) (i u : ℕ) {s k h p : ℕ} →
    s ≡ scaled_sum U P w b i u → k ≡ w i → h ≡ scaled_height U P p → p ≡ u - b i →
    s + k * h ≡ scaled_sum U P w b (i + 1) u
unfolding scaled_sum total
sum_next U P w b i u e k h p = rw (add-one i, e, k, h, p) refl

-- an axle that is not on the base yet stands at 0, and so do all behind it
pub sum_rest :
    (U P : ℕ) (w : ℕ → ℕ) (ds : List Cm) (i n u : ℕ) → i ≤ n → u ≤ behind ds i →
    scaled_sum U P w (behind ds) n u ≡ scaled_sum U P w (behind ds) i u
unfolding scaled_sum
sum_rest U P w ds i n u l off = total_rest _ i n l λ k p q. nothing k (omega (arith, behind_further ds p))
  where
    nothing : (k : ℕ) → u ≤ behind ds k → w k * scaled_height U P (u - behind ds k) ≡ 0
    nothing k h =
        let e : u - behind ds k ≡ 0 = omega arith in
        rw (e, rising_side U P 0 (omega arith)) (omega arith)

-- the top over the positions that put one of the first j axles over the apex, and one position more
abbrev pub top_of : (U P : ℕ) (w b : ℕ → ℕ) (n j : ℕ) → ℕ
top_of U P w b n j = top (λ i. scaled_sum U P w b n (P + b i)) j

pub apex_next :
    (U P : ℕ) (w b : ℕ → ℕ) (n j : ℕ) {r t s u : ℕ} →
    r ≡ max t s → t ≡ top_of U P w b n j → s ≡ scaled_sum U P w b n u → u ≡ P + b j → r ≡ top_of U P w b n (j + 1)
apex_next U P w b n j e t s u = top_next (λ i. scaled_sum U P w b n (P + b i)) j t (rw (← u) s) e

-- the load's numerator and divisor, multiplied out
over_same : {n n' d d' : ℕ} → n ≡ n' → d ≡ d' → over n d ≡ over n' d'
over_same p q = rw (p, q) refl

pub load_over : (U G D : ℕ) {k d : ℕ} → k ≡ 400 * G → d ≡ D * U → over k d ≡ per_metre U (over G D)
unfolding per_metre over whole ◌·◌ ◌÷◌
load_over U G D p q = over_same (omega arith) (omega arith)

pub divisor_cap : (U P : ℕ) → P ≤ U → U ≤ 10000 → P * (U - P) * U ≤ 1000000000000
divisor_cap U P p h = mul-le-mul {n₂ = 100000000} {m₂ = 10000} (mul-le-mul {n₂ = 10000} {m₂ = 10000} (omega arith) (omega arith)) h

pub height_cap : {U P : ℕ} (s : ℕ) → P ≤ U → U ≤ 10000 → scaled_height U P s ≤ 100000000
height_cap {U} {P} s p h = go (dec_le s P)
  where
    go : Dec (s ≤ P) → scaled_height U P s ≤ 100000000
    go (yes l) = rw (rising_side U P s l) (mul-le-mul {n₂ = 10000} {m₂ = 10000} (omega arith) (omega arith))
    go (no l) = rw (falling_side U P s (omega arith)) (mul-le-mul {n₂ = 10000} {m₂ = 10000} (omega arith) (omega arith))

module _ {U P n : ℕ} {ws : List Kgf} {ds : List Cm} (h : Bounded U P n ws ds) where
  -- of the first m axles
  pub sum_cap : (m u : ℕ) → m ≤ n → scaled_sum U P (weight ws) (behind ds) m u ≤ 20000000000000 * m
  unfolding scaled_sum
  sum_cap m u l =
      total_cap _ 20000000000000 m λ i k.
      mul-le-mul {n₂ = 200000} {m₂ = 100000000} (h.weights i (omega arith)) (height_cap (u - behind ds i) (omega arith) h.base)

  pub passed_cap : (m : ℕ) → m ≤ n → passed ds m ≤ 4000 * m
  passed_cap m l = total_cap _ 4000 m (λ i k. omega (arith, h.distances i (omega arith)))

  pub apex_top_cap : apex_top U P (weight ws) (behind ds) n ≤ 20000000000000 * n
  unfolding apex_top
  apex_top_cap =
      of_top (λ m. m ≤ 20000000000000 * n) _ n (omega arith) (λ j l. sum_cap n (P + behind ds j) (omega arith))

  -- the same axles from the other end
  pub mirrored_bounded : Bounded U (U - P) n ws ds
  mirrored_bounded =
      record {
        triangle = mirrored h.triangle;
        base = h.base;
        axles = h.axles;
        weights = h.weights;
        distances = h.distances;
      }

-- in either direction of travel
pub greatest_cap : {U P n : ℕ} {ws : List Kgf} {ds : List Cm} → Bounded U P n ws ds → scaled_greatest U P (weight ws) (behind ds) n ≤ 320000000000000
unfolding scaled_greatest
greatest_cap h = omega (arith, apex_top_cap h, apex_top_cap (mirrored_bounded h), h.axles)

-- the greater of two sums by their order
pub higher : (a b : ScaledSum) → (cond (is_lt (cond (leb (suc b.0) a.0) Less (cond (eqb b.0 a.0) Equal Greater))) a b).0 ≡ max a.0 b.0
higher a b = go (leb (suc b.0) a.0) refl (eqb b.0 a.0)
  where
    go : (t : Bool) → leb (suc b.0) a.0 ≡ t → (e : Bool) → (cond (is_lt (cond t Less (cond e Equal Greater))) a b).0 ≡ max a.0 b.0
    go true p e = omega (arith, leb-true (suc b.0) a.0 p)
    go false p true = omega (arith, leb-false (suc b.0) a.0 p)
    go false p false = omega (arith, leb-false (suc b.0) a.0 p)
