-- The code's whole numbers over P × (U - P) are the fractions of the definitions: heights by their two sides, sums axle by
-- axle.
-- Assumes nothing.
use Prim.Native.Nat.{ℕ, ◌-◌, ◌*◌, ◌<◌}
use mathlib.Core.Path.{◌≡◌}
use mathlib.Core.Bool.{Bool, true, false}
use native.Mathlib.Nat.{mul_comm, mul-pos}
use native.Mathlib.Omega.{arith}
use lib.Dec.{leb}
use Rattle.section.specs.Choose.{choose}
use Rattle.section.specs.Fraction.{Fraction, Sound, over, whole, ◌·◌, ◌⊑◌, ◌≐◌}
use Rattle.section.proofs.Order.{⊑_refl, ·_mono, ÷_mono, ·_sound, ÷_sound, times_over}
use Rattle.influence.specs.Influence.{Triangle, height, axle_sum, per_metre, gives}
use Rattle.influence.specs.Scaled.{scaled_height, scaled_sum}
use Rattle.influence.proofs.Folds.{sum_over, sum_sound}

-- the triangle as it is met from the other end
pub mirrored : {U P : ℕ} → Triangle U P → Triangle U (U - P)
mirrored t = omega arith

pub divisor_above_0 : {U P : ℕ} → Triangle U P → 0 < P * (U - P)
divisor_above_0 t = mul-pos t.after_start (omega arith)

-- both directions have the same divisor
pub same_divisor : {U P : ℕ} → Triangle U P → P * (U - P) ≡ (U - P) * (U - (U - P))
same_divisor {U} {P} t =
    let back : U - (U - P) ≡ P = omega arith in
    rw back (mul_comm P (U - P))

pub height_over : (U P s : ℕ) → height U P s ≐ over (scaled_height U P s) (P * (U - P))
unfolding height scaled_height over
height_over U P s = go (leb s P)
  where
    go : (t : Bool) → choose t (over s P) (over (U - s) (U - P)) ≐ over (choose t (s * (U - P)) ((U - s) * P)) (P * (U - P))
    go true = record { out = omega arith }
    go false = record { out = omega arith }

pub axle_sum_over : (U P : ℕ) (w b : ℕ → ℕ) (n u : ℕ) → axle_sum U P w b n u ≐ over (scaled_sum U P w b n u) (P * (U - P))
unfolding axle_sum scaled_sum
axle_sum_over U P w b n u =
    sum_over (λ i. whole (w i) · height U P (u - b i)) (λ i. w i * scaled_height U P (u - b i)) (P * (U - P)) n
    (λ i. times_over (w i) (scaled_height U P (u - b i)) (P * (U - P)) (height_over U P (u - b i)))

height_sound : {U P : ℕ} (s : ℕ) → Triangle U P → Sound (height U P s)
unfolding height over
height_sound {U} {P} s t = go (leb s P)
  where
    go : (c : Bool) → Sound (choose c (over s P) (over (U - s) (U - P)))
    go true = record { above_0 = t.after_start }
    go false = record { above_0 = omega arith }

pub per_metre_mono : (U : ℕ) {a b : Fraction} → a ⊑ b → per_metre U a ⊑ per_metre U b
unfolding per_metre
per_metre_mono U p = ÷_mono _ (·_mono ⊑_refl p)

pub per_metre_sound : {U : ℕ} {a : Fraction} → 0 < U → Sound a → Sound (per_metre U a)
unfolding per_metre over whole
per_metre_sound h s = ÷_sound _ (·_sound (record { above_0 = omega arith }) s) h

module _ {U P : ℕ} (w b : ℕ → ℕ) (n u : ℕ) (t : Triangle U P) where
  pub axle_sum_sound : Sound (axle_sum U P w b n u)
  unfolding axle_sum whole
  axle_sum_sound = sum_sound _ n (λ i. ·_sound (record { above_0 = omega arith }) (height_sound (u - b i) t))

  pub gives_sound : Sound (gives U P w b n u)
  unfolding gives
  gives_sound = per_metre_sound (omega arith) axle_sum_sound
