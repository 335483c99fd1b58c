-- The half centimetres lose nothing: with the front axle u / k half centimetres from the end, for any u and k, no position gives
-- more than the greatest. On the grid of 1 / k half centimetres every length is k times as many, the positions over the apex are
-- the old ones, and there the scaled sum is k × k times the old one, as is its divisor.
-- Assumes nothing.
use Prim.Native.Nat.{ℕ, ◌+◌, ◌-◌, ◌*◌, ◌≤◌, ◌<◌}
use mathlib.Core.Path.{◌≡◌, refl, ◌∙◌}
use native.Mathlib.Nat.{le_trans, mul-add, mul-sub, mul-pos, mul-lt-mul_of_pos_left, mul-le-mul_left, mul-le-mul_right, le-max_left, le-max_right}
use native.Mathlib.Decide.{dec_le}
use native.Mathlib.Omega.{arith}
use mathlib.Core.List.{List}
use Rattle.section.specs.declared.Cm.{Cm}
use Rattle.section.specs.declared.Kgf.{Kgf}
use Rattle.section.specs.Fraction.{over, whole, ◌⊑◌}
use Rattle.section.proofs.Order.{⊑_trans, ≐_⊑}
use Rattle.section.specs.Units.{weight}
use Rattle.influence.specs.Influence.{Triangle, axle_sum, per_metre, greatest, behind, vehicle_load}
use Rattle.influence.specs.Scaled.{scaled_height, scaled_sum, apex_top, scaled_greatest}
use Rattle.influence.proofs.Folds.{total_same, total_times}
use Rattle.section.proofs.Greatest.{top_at}
use Rattle.influence.proofs.Apex.{rising_side, falling_side, apex_enough}
use Rattle.influence.proofs.Scaled.{mirrored, same_divisor, axle_sum_over, per_metre_mono, divisor_above_0}
use Rattle.section.proofs.Order.{over_sound}
use Rattle.influence.proofs.Greatest.{LastBehind, behind_last, at_most_greatest}
use Rattle.influence.proofs.Load.{at_most_load}

-- at the old places every height is k × k times the old one
height_fine : (k U P s : ℕ) → scaled_height (k * U) (k * P) (k * s) ≡ k * k * scaled_height U P s
height_fine k U P s = go (dec_le s P)
  where
    square : (x y : ℕ) → k * x * (k * y) ≡ k * k * (x * y)
    square x y = omega arith

    go : Dec (s ≤ P) → scaled_height (k * U) (k * P) (k * s) ≡ k * k * scaled_height U P s
    go (yes h) =
        rw (rising_side (k * U) (k * P) (k * s) (mul-le-mul_left k h), rising_side U P s h, ← mul-sub k U P) (square s (U - P))
    go (no h) =
        let beyond : P ≤ s = omega arith in
        rw (falling_side (k * U) (k * P) (k * s) (mul-le-mul_left k beyond), falling_side U P s beyond, ← mul-sub k U s)
        (square (U - s) P)

module _ (k U P : ℕ) (w b : ℕ → ℕ) (n : ℕ) where
  sum_fine : (u : ℕ) → scaled_sum (k * U) (k * P) w (λ i. k * b i) n (k * u) ≡ k * k * scaled_sum U P w b n u
  unfolding scaled_sum
  sum_fine u =
      total_same _ (λ i. k * k * (w i * scaled_height U P (u - b i))) n
      (λ i l. rw (← mul-sub k u (b i), height_fine k U P (u - b i)) (omega arith)) ∙
      total_times (k * k) _ n

  -- so no place of the fine grid exceeds k × k times the top
  fine_top : P ≤ U → (u : ℕ) → scaled_sum (k * U) (k * P) w (λ i. k * b i) n u ≤ k * k * apex_top U P w b n
  unfolding apex_top
  fine_top p u =
      apex_enough (k * U) (k * P) w (λ i. k * b i) n (mul-le-mul_left k p) _
      (λ j l. rw (← mul-add k P (b j), sum_fine (P + b j)) (mul-le-mul_left (k * k) (top_at (λ i. scaled_sum U P w b n (P + b i)) n j l)))
      u

  fine_at_most :
      (D G : ℕ) → D ≡ P * (U - P) → Triangle U P → 0 < k → apex_top U P w b n ≤ G → (u : ℕ) →
      per_metre U (axle_sum (k * U) (k * P) w (λ i. k * b i) n u) ⊑ per_metre U (over G D)
  unfolding over
  fine_at_most D G d t z h u =
      per_metre_mono U
      (⊑_trans (over_sound _ _ (divisor_above_0 fine)) (≐_⊑ (axle_sum_over (k * U) (k * P) w (λ i. k * b i) n u))
      (record { out = rw (d, ← mul-sub k U P) (omega (arith, mul-le-mul_right (P * (U - P)) below)) }))
    where
      fine : Triangle (k * U) (k * P)
      fine = record { after_start = mul-pos z t.after_start; before_end = mul-lt-mul_of_pos_left t.before_end z }

      below : scaled_sum (k * U) (k * P) w (λ i. k * b i) n u ≤ k * k * G
      below = le_trans (fine_top (omega arith) u) (mul-le-mul_left (k * k) h)

-- in either direction of travel
pub greatest_bounds_fine :
    {U P : ℕ} (w b : ℕ → ℕ) (n : ℕ) → Triangle U P → LastBehind b n → (k : ℕ) → 0 < k → (u : ℕ) →
    (per_metre U (axle_sum (k * U) (k * P) w (λ i. k * b i) n u) ⊑ greatest U P w b n) ×
    (per_metre U (axle_sum (k * U) (k * (U - P)) w (λ i. k * b i) n u) ⊑ greatest U P w b n)
unfolding scaled_greatest
greatest_bounds_fine {U} {P} w b n t last k z u = (
  at_most_greatest w b n t last (fine_at_most k U P w b n _ _ refl t z (le-max_left _ _) u),
  at_most_greatest w b n t last
      (fine_at_most k U (U - P) w b n _ _ (same_divisor t) (mirrored t) z (le-max_right _ _) u),
)

-- nor does any exceed the vehicle load
pub load_covers_fine :
    {U P : ℕ} (ws : List Kgf) (ds : List Cm) (n : ℕ) → Triangle U P → (k : ℕ) → 0 < k → (u : ℕ) →
    (per_metre U (axle_sum (k * U) (k * P) (weight ws) (λ i. k * behind ds i) n u) ⊑ whole (vehicle_load U P ws ds n)) ×
    (per_metre U (axle_sum (k * U) (k * (U - P)) (weight ws) (λ i. k * behind ds i) n u) ⊑ whole (vehicle_load U P ws ds n))
load_covers_fine ws ds n t k z u =
    let bounds = greatest_bounds_fine (weight ws) (behind ds) n t (behind_last ds n) k z u in
    (at_most_load ws ds n t bounds.0, at_most_load ws ds n t bounds.1)
