-- The triangle is the document's: height 1 over its apex, 0 at both ends and off the base; and seen from the other end, with its
-- apex at U - P, every place has the height that it had.
-- Assumes nothing.
use Prim.Native.Nat.{ℕ, ◌-◌, ◌*◌, ◌≤◌, ◌<◌}
use mathlib.Core.Path.{◌≡◌, refl, ap}
use native.Mathlib.Nat.{eq_of_mul-eq-mul_right}
use native.Mathlib.Decide.{dec_le}
use native.Mathlib.Omega.{arith}
use Rattle.section.specs.Fraction.{Fraction, over, whole, ◌≐◌}
use Rattle.influence.specs.Influence.{Triangle, height}
use Rattle.influence.specs.Scaled.{scaled_height}
use Rattle.influence.proofs.Apex.{rising_side, falling_side, height_start, height_past}
use Rattle.influence.proofs.Scaled.{mirrored, divisor_above_0, height_over, same_divisor}

-- two fractions with the same numerator over one divisor are equal
same_over : (x D : ℕ) {a b : Fraction} → 0 < D → a ≐ over x D → b ≐ over x D → a ≐ b
unfolding over
same_over x D {a} {b} z p q =
    record {
      out =
          eq_of_mul-eq-mul_right D z (a.num * b.den) (b.num * a.den)
          (omega (arith, ap (λ t. t * b.den) p.out, ap (λ t. t * a.den) q.out));
    }

-- the height from what it is scaled
height_of : {U P : ℕ} (s : ℕ) {x : ℕ} (a : Fraction) → Triangle U P → scaled_height U P s ≡ x → a ≐ over x (P * (U - P)) → height U P s ≐ a
height_of {U} {P} s {x} a t e p = same_over x (P * (U - P)) (divisor_above_0 t) (rw e at (height_over U P s)) p

module _ {U P : ℕ} (t : Triangle U P) where
  pub height_over_apex : height U P P ≐ whole 1
  unfolding over whole
  height_over_apex = height_of P (whole 1) t (rising_side U P P (omega arith)) (record { out = omega arith })

  pub height_at_start : height U P 0 ≐ whole 0
  unfolding over whole
  height_at_start = height_of 0 (whole 0) t (height_start U P) (record { out = omega arith })

  pub height_from_end : (s : ℕ) → U ≤ s → height U P s ≐ whole 0
  unfolding over whole
  height_from_end s h = height_of s (whole 0) t (height_past U P s (omega arith) h) (record { out = omega arith })

  pub height_mirrored : (s : ℕ) → s ≤ U → height U (U - P) (U - s) ≐ height U P s
  height_mirrored s h =
      height_of (U - s) (height U P s) (mirrored t) (seen (dec_le s P))
      (rw (← same_divisor t) (height_over U P s))
    where
      back : (x : ℕ) → x ≤ U → U - (U - x) ≡ x
      back x l = omega arith

      seen : Dec (s ≤ P) → scaled_height U (U - P) (U - s) ≡ scaled_height U P s
      seen (yes l) =
          rw (falling_side U (U - P) (U - s) (omega arith), rising_side U P s l, back s h) refl
      seen (no l) =
          rw (rising_side U (U - P) (U - s) (omega arith), falling_side U P s (omega arith), back P (omega arith)) refl
