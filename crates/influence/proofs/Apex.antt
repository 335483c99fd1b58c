-- The positions that put an axle over the apex are enough. The height is convex everywhere but at the apex, so a sum above all
-- that these positions give has no axle there and is convex; it would rise for ever, and past the base it is 0.
-- Assumes nothing.
use Prim.Native.Nat.{ℕ, zero, suc, ◌+◌, ◌-◌, ◌*◌, ◌≤◌, ◌<◌}
use mathlib.Core.Path.{◌≡◌, ap}
use mathlib.Core.Logic.{⊎_elim}
use native.Mathlib.Nat.{eq-or-lt_of_le, mul_comm, zero-mul, zero-sub, sub-eq-zero_of_le, mul-le-mul_left, mul-le-mul_right, lt_of_not-le}
use native.Mathlib.Decide.{dec_le}
use native.Mathlib.Omega.{arith}
use borrow.Author.Tests.{le-leb, lt-leb}
use Rattle.section.specs.Greatest.{top}
use Rattle.influence.specs.Scaled.{scaled_height, scaled_sum, apex_top}
use Rattle.influence.proofs.Folds.{total_le, total_plus, total_times}
use Rattle.section.proofs.Greatest.{top_at}

-- A function that is at most m at 0 and from some place on, and convex wherever it is above m, is at most m everywhere.
module _ (g : ℕ → ℕ) (m : ℕ) (convex : (v : ℕ) → m < g (suc v) → 2 * g (suc v) ≤ g v + g (suc (suc v))) where
  -- once it has risen above m it rises for ever
  rises : (k u : ℕ) → g u < g (suc u) → m < g (suc u) → ((v : ℕ) → suc u + k ≤ v → g v ≤ m) → ⊥
  rises zero u up above end = omega (arith, end (suc u) (omega arith))
  rises (suc k) u up above end =
      rises k (suc u) (omega (arith, convex u above)) (omega (arith, convex u above)) (λ v h. end v (omega arith))

  pub stays_below : (e : ℕ) → g 0 ≤ m → ((v : ℕ) → e ≤ v → g v ≤ m) → (u : ℕ) → g u ≤ m
  stays_below e start end zero = start
  stays_below e start end (suc u) = go (dec_le (g (suc u)) m) (stays_below e start end u)
    where
      go : Dec (g (suc u) ≤ m) → g u ≤ m → g (suc u) ≤ m
      go (yes h) low = h
      go (no h) low = absurd (rises e u (omega arith) (lt_of_not-le h) (λ v l. end v (omega arith)))

-- the two sides of the triangle; at the apex they agree
pub rising_side : (U P s : ℕ) → s ≤ P → scaled_height U P s ≡ s * (U - P)
unfolding scaled_height
rising_side U P s h = rw (le-leb s P h)

pub falling_side : (U P s : ℕ) → P ≤ s → scaled_height U P s ≡ (U - s) * P
unfolding scaled_height
falling_side U P s h =
    ⊎_elim (λ e. rw (rising_side U P s (omega arith), e) (mul_comm s (U - s))) (λ l. rw (lt-leb s P l)) (eq-or-lt_of_le h)

-- three neighbours, the middle one not at the apex
convex_height : (U P s : ℕ) → (suc s ≡ P → ⊥) → 2 * scaled_height U P (suc s) ≤ scaled_height U P s + scaled_height U P (suc (suc s))
convex_height U P s off = go (dec_le (suc s) P)
  where
    line : (a b c k : ℕ) → 2 * a ≤ b + c → 2 * (a * k) ≤ b * k + c * k
    line a b c k h = omega (arith, mul-le-mul_right k h)

    go : Dec (suc s ≤ P) → 2 * scaled_height U P (suc s) ≤ scaled_height U P s + scaled_height U P (suc (suc s))
    go (yes h) =
        rw (rising_side U P (suc s) (omega arith), rising_side U P s (omega arith), rising_side U P (suc (suc s)) (omega arith))
        (line (suc s) s (suc (suc s)) (U - P) (omega arith))
    go (no h) =
        rw (falling_side U P (suc s) (omega arith), falling_side U P s (omega arith), falling_side U P (suc (suc s)) (omega arith))
        (line (U - suc s) (U - s) (U - suc (suc s)) P (omega arith))

-- nothing at the end at which the vehicle comes on, nothing past the other
pub height_start : (U P : ℕ) → scaled_height U P 0 ≡ 0
height_start U P = rw (rising_side U P 0 (omega arith)) (omega arith)

pub height_past : (U P s : ℕ) → P ≤ U → U ≤ s → scaled_height U P s ≡ 0
height_past U P s p h = rw (falling_side U P s (omega arith), sub-eq-zero_of_le h) (zero-mul P)

-- the same of an axle that stands c behind the front axle
convex_place :
    (U P v c : ℕ) → (suc v ≡ P + c → ⊥) →
    2 * scaled_height U P (suc v - c) ≤ scaled_height U P (v - c) + scaled_height U P (suc (suc v) - c)
convex_place U P v c off = go (dec_le c v)
  where
    go : Dec (c ≤ v) → 2 * scaled_height U P (suc v - c) ≤ scaled_height U P (v - c) + scaled_height U P (suc (suc v) - c)
    go (yes h) =
        let near : suc v - c ≡ suc (v - c) = omega arith in
        let far : suc (suc v) - c ≡ suc (suc (v - c)) = omega arith in
        rw (near, far) (convex_height U P (v - c) (λ e. off (omega arith)))
    go (no h) =
        let near : suc v - c ≡ 0 = omega arith in
        rw (near, height_start U P) (omega arith)

module _ (U P : ℕ) (w b : ℕ → ℕ) (n : ℕ) where
  -- where every height is 0 the sum is
  empty : (u : ℕ) → ((i : ℕ) → i < n → scaled_height U P (u - b i) ≡ 0) → scaled_sum U P w b n u ≤ 0
  unfolding scaled_sum
  empty u h =
      omega (arith, total_le (λ i. w i * scaled_height U P (u - b i)) (λ i. 0 * w i) n (λ i l. rw (h i l) (omega arith)), total_times 0 w n)

  pub sum_start : scaled_sum U P w b n 0 ≤ 0
  sum_start = empty 0 (λ i l. rw (zero-sub (b i)) (height_start U P))

  pub sum_past : P ≤ U → (u : ℕ) → ((i : ℕ) → i < n → U + b i ≤ u) → scaled_sum U P w b n u ≤ 0
  sum_past p u off = empty u (λ i l. height_past U P (u - b i) p (omega (arith, off i l)))

  -- a sum with no axle over the apex is convex there
  convex_sum :
      (v : ℕ) → ((i : ℕ) → i < n → suc v ≡ P + b i → ⊥) →
      2 * scaled_sum U P w b n (suc v) ≤ scaled_sum U P w b n v + scaled_sum U P w b n (suc (suc v))
  unfolding scaled_sum
  convex_sum v off =
      omega (arith, total_times 2 (at (suc v)) n, total_plus (at v) (at (suc (suc v))) n, total_le _ _ n (λ i l. one i (convex_place U P v (b i) (off i l))))
    where
      at : ℕ → ℕ → ℕ
      at u i = w i * scaled_height U P (u - b i)

      one :
          (i : ℕ) → 2 * scaled_height U P (suc v - b i) ≤ scaled_height U P (v - b i) + scaled_height U P (suc (suc v) - b i) →
          2 * at (suc v) i ≤ at v i + at (suc (suc v)) i
      one i h = omega (arith, mul-le-mul_left (w i) h)

  pub apex_enough : P ≤ U → (m : ℕ) → ((j : ℕ) → j < n → scaled_sum U P w b n (P + b j) ≤ m) → (u : ℕ) → scaled_sum U P w b n u ≤ m
  apex_enough p m high =
      stays_below (scaled_sum U P w b n) m
      (λ v above. convex_sum v (λ i l q. omega (arith, high i l, ap (scaled_sum U P w b n) q)))
      (U + top b n)
      (omega (arith, sum_start))
      (λ v h. omega (arith, sum_past p v (λ i l. omega (arith, top_at b n i l))))

  pub apex_top_lem : P ≤ U → (u : ℕ) → scaled_sum U P w b n u ≤ apex_top U P w b n
  unfolding apex_top
  apex_top_lem p u = apex_enough p _ (top_at (λ j. scaled_sum U P w b n (P + b j)) n) u
