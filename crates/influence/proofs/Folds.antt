-- Sums over an index: each law goes by the clauses of its fold, one axle after the other.
-- Assumes nothing.
use Prim.Native.Nat.{ℕ, zero, suc, ◌+◌, ◌*◌, ◌≤◌, ◌<◌}
use mathlib.Core.Path.{◌≡◌, refl, sym}
use native.Mathlib.Nat.{add-zero, add-suc, le_dest, le_refl, le_of_eq, le_antisymm}
use native.Mathlib.Decide.{dec_le}
use native.Mathlib.Omega.{arith}
use Rattle.section.specs.Fraction.{Fraction, Sound, over, whole, ◌⊕◌, ◌≐◌}
use Rattle.section.proofs.Order.{⊕_sound, ⊕_over}
use Rattle.influence.specs.Influence.{total, sum}

pub total_le : (f g : ℕ → ℕ) (n : ℕ) → ((i : ℕ) → i < n → f i ≤ g i) → total f n ≤ total g n
unfolding total
total_le f g zero h = le_refl 0
total_le f g (suc n) h = omega (arith, total_le f g n (λ i l. h i (omega arith)), h n (omega arith))

pub total_cap : (f : ℕ → ℕ) (k n : ℕ) → ((i : ℕ) → i < n → f i ≤ k) → total f n ≤ k * n
unfolding total
total_cap f k zero h = omega arith
total_cap f k (suc n) h = omega (arith, total_cap f k n (λ i l. h i (omega arith)), h n (omega arith))

pub total_same : (f g : ℕ → ℕ) (n : ℕ) → ((i : ℕ) → i < n → f i ≡ g i) → total f n ≡ total g n
total_same f g n h =
    le_antisymm (total_le f g n (λ i l. le_of_eq (h i l))) (total_le g f n (λ i l. le_of_eq (sym (h i l))))

-- terms of 0 at the end add nothing
pub total_rest : (f : ℕ → ℕ) (i n : ℕ) → i ≤ n → ((k : ℕ) → i ≤ k → k < n → f k ≡ 0) → total f n ≡ total f i
unfolding total
total_rest f i zero l h = let e : i ≡ 0 = omega arith in rw e refl
total_rest f i (suc n) l h = go (dec_le i n) (λ k. total_rest f i n k (λ j p q. h j p (omega arith)))
  where
    go : Dec (i ≤ n) → (i ≤ n → total f n ≡ total f i) → total f n + f n ≡ total f i
    go (yes k) more = omega (arith, more k, h n k (omega arith))
    go (no k) more = let e : i ≡ suc n = omega arith in rw e refl

pub total_plus : (f g : ℕ → ℕ) (n : ℕ) → total (λ i. f i + g i) n ≡ total f n + total g n
unfolding total
total_plus f g zero = refl
total_plus f g (suc n) = omega (arith, total_plus f g n)

pub total_times : (k : ℕ) (f : ℕ → ℕ) (n : ℕ) → total (λ i. k * f i) n ≡ k * total f n
unfolding total
total_times k f zero = omega arith
total_times k f (suc n) = omega (arith, total_times k f n)

-- the first m and the n after them
pub total_split : (f : ℕ → ℕ) (m n : ℕ) → total f (m + n) ≡ total f m + total (λ i. f (m + i)) n
unfolding total
total_split f m zero = rw (add-zero m) (omega arith)
total_split f m (suc n) = rw add-suc (omega (arith, total_split f m n))

pub total_more : (f : ℕ → ℕ) {m n : ℕ} → m ≤ n → total f m ≤ total f n
unfolding total
total_more f {m} {n} h = go (le_dest h)
  where
    go : (k : ℕ) × (m + k ≡ n) → total f m ≤ total f n
    go p = rw (← p.1) (omega (arith, total_split f m p.0))

-- fractions over one divisor are summed like whole numbers
pub sum_over : (f : ℕ → Fraction) (g : ℕ → ℕ) (D n : ℕ) → ((i : ℕ) → f i ≐ over (g i) D) → sum f n ≐ over (total g n) D
unfolding sum total over whole ◌⊕◌
sum_over f g D zero h = record { out = omega arith }
sum_over f g D (suc n) h = ⊕_over (total g n) (g n) D (sum_over f g D n h) (h n)

pub sum_sound : (f : ℕ → Fraction) (n : ℕ) → ((i : ℕ) → Sound (f i)) → Sound (sum f n)
unfolding sum whole
sum_sound f zero h = record { above_0 = omega arith }
sum_sound f (suc n) h = ⊕_sound (sum_sound f n h) (h n)
