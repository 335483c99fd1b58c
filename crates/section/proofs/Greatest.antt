-- The greatest of a row is at least each of it, and is one of it. Fractions over one divisor are compared like whole numbers.
-- Assumes nothing.
use Prim.Native.Nat.{ℕ, zero, suc, ◌+◌, ◌≤◌, ◌<◌, max}
use mathlib.Core.Logic.{◌⊎◌, ⊎_elim}
use mathlib.Core.Path.{◌≡◌, ◌∙◌}
use native.Mathlib.Nat.{le_of_suc-le-suc, not-suc-le-zero, eq-or-lt_of_le, le_trans, le-max_left, le-max_right, max-eq_left, max-eq_right, le_of_lt, lt_of_not-le}
use native.Mathlib.Decide.{dec_le}
use native.Mathlib.Numerals.{add-one}
use native.Mathlib.Omega.{arith}
use Rattle.section.specs.Fraction.{Fraction, Sound, over, ◌⊑◌, ◌≐◌}
use Rattle.section.specs.Greatest.{greatest_up_to, top}
use Rattle.section.proofs.Order.{⊑_refl, ⊑_trans, ⊑_antisymm, ≐_⊑, ≐_⊒, over_sound, over_mono, of_greater, greater_left, greater_right}

-- an index up to the last is the last or comes before it
last_or_before : {i n : ℕ} → i < suc n → (i ≡ n) ⊎ (i < n)
last_or_before h = eq-or-lt_of_le (le_of_suc-le-suc h)

-- a top is at least each, and what holds of 0 and of each holds of the top
pub top_at : (f : ℕ → ℕ) (n i : ℕ) → i < n → f i ≤ top f n
unfolding top
top_at f zero i h = absurd (not-suc-le-zero h)
top_at f (suc n) i h =
    ⊎_elim (λ e. rw e (le-max_right (top f n) (f n))) (λ l. le_trans (top_at f n i l) (le-max_left (top f n) (f n)))
    (last_or_before h)

top_more : (f : ℕ → ℕ) (n : ℕ) → top f n ≤ top f (suc n)
unfolding top
top_more f n = le-max_left (top f n) (f n)

-- one more of the row, as a loop takes it in
pub top_next : (f : ℕ → ℕ) (n : ℕ) {t x r : ℕ} → t ≡ top f n → x ≡ f n → r ≡ max t x → r ≡ top f (n + 1)
unfolding top
top_next f n ht hx hr = rw add-one (hr ∙ rw (ht, hx))

pub of_max : (P : ℕ → Type 0) (a b : ℕ) → P a → P b → P (max a b)
of_max P a b p q = go (dec_le a b)
  where
    go : Dec (a ≤ b) → P (max a b)
    go (yes h) = rw (max-eq_right h) q
    go (no h) = rw (max-eq_left (le_of_lt (lt_of_not-le h))) p

pub of_top : (P : ℕ → Type 0) (f : ℕ → ℕ) (n : ℕ) → P 0 → ((i : ℕ) → i < n → P (f i)) → P (top f n)
unfolding top
of_top P f zero z h = z
of_top P f (suc n) z h = of_max P _ _ (of_top P f n z (λ i l. h i (omega arith))) (h n (omega arith))

-- a greatest is at least each, and what holds of each holds of the greatest
pub of_greatest : (P : Fraction → Type 0) (f : ℕ → Fraction) (e : ℕ) → ((u : ℕ) → P (f u)) → P (greatest_up_to f e)
unfolding greatest_up_to
of_greatest P f zero h = h zero
of_greatest P f (suc e) h = of_greater P (of_greatest P f e h) (h (suc e))

pub greatest_at : (f : ℕ → Fraction) → ((u : ℕ) → Sound (f u)) → (e u : ℕ) → u < suc e → f u ⊑ greatest_up_to f e
unfolding greatest_up_to
greatest_at f s zero u h = rw (u_is_zero h) ⊑_refl
  where
    u_is_zero : u < suc zero → u ≡ zero
    u_is_zero h = omega arith
greatest_at f s (suc e) u h =
    ⊎_elim (λ q. rw q (greater_right _ _))
    (λ l. ⊑_trans (of_greatest Sound f e s) (greatest_at f s e u l) (greater_left _ _))
    (last_or_before h)

-- fractions over one divisor: the greatest is the whole numbers' over it
module _ (f : ℕ → Fraction) (g : ℕ → ℕ) (D : ℕ) (d : 0 < D) (s : (u : ℕ) → Sound (f u)) (h : (u : ℕ) → over (g u) D ≐ f u) where
  each : (u n : ℕ) → u < n → f u ⊑ over (top g n) D
  each u n l = ⊑_trans (over_sound _ D d) (≐_⊒ (h u)) (over_mono D (top_at g n u l))

  at_least_top : (e : ℕ) → over (top g (suc e)) D ⊑ greatest_up_to f e
  unfolding over
  at_least_top e =
      of_top (λ n. over n D ⊑ greatest_up_to f e) g (suc e) (record { out = omega arith })
      (λ u l. ⊑_trans (s u) (≐_⊑ (h u)) (greatest_at f s e u l))

  at_most_top : (e : ℕ) → greatest_up_to f e ⊑ over (top g (suc e)) D
  unfolding greatest_up_to
  at_most_top zero = each 0 1 (omega arith)
  at_most_top (suc e) =
      of_greater (λ c. c ⊑ over (top g (suc (suc e))) D)
      (⊑_trans (over_sound _ D d) (at_most_top e) (over_mono D (top_more g (suc e))))
      (each (suc e) (suc (suc e)) (omega arith))

  pub greatest_over : (e : ℕ) → over (top g (suc e)) D ≐ greatest_up_to f e
  greatest_over e = ⊑_antisymm (at_least_top e) (at_most_top e)
