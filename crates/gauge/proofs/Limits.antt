-- The limit as one fraction of whole numbers: so many fifths of the span, over five times the divisor.
-- Assumes nothing.
use Prim.Native.Nat.{ℕ, ◌+◌, ◌*◌, ◌≤◌, ◌<◌}
use mathlib.Core.Path.{◌≡◌}
use mathlib.Core.Bool.{Bool, true, false, ◌||◌}
use native.Mathlib.Omega.{arith}
use lib.Dec.{eqb, leb}
use Rattle.section.specs.Choose.{choose}
use Rattle.section.specs.Fraction.{Sound, over, whole, ◌÷◌, ◌⊕◌, ◌≐◌, at_most}
use Rattle.section.proofs.Choices.{of_choose}
use Rattle.section.proofs.Order.{≐_refl, ≐_sym, over_sound, whole_sound, ÷_sound, ⊕_sound, over_times, ÷_over, ⊕_over, at_most_same}
use Rattle.member.specs.Fields.{KIND, field}
use Rattle.member.specs.declared.record.Member.{Member}
use Rattle.gauge.specs.Limit.{span_mm, span_divisor, of_span, limit}
use Rattle.gauge.specs.Whole.{fifths_of}

module _ (m : Member) where
  abbrev S : ℕ
  S = span_mm m

  abbrev D : ℕ
  D = span_divisor (field m KIND)

  some_divisor : 0 < D
  some_divisor = of_choose (λ (n : ℕ). 0 < n) (eqb (field m KIND) 1 || eqb (field m KIND) 2 || eqb (field m KIND) 7) (omega arith) (omega arith)

  of_span_lem : of_span m ≐ over S D
  unfolding ◌÷◌ whole over
  of_span_lem = record { out = omega arith }

  fifths : of_span m ≐ over (S * 5) (D * 5)
  fifths = over_times 5 S D of_span_lem

  one_more : S * 5 + S ≡ S * 6
  one_more = omega arith

  limit_over : (class : ℕ) → limit m class ≐ over (S * fifths_of class) (D * 5)
  unfolding limit
  limit_over class = go (eqb class 1)
    where
      go : (t : Bool) → choose t (of_span m ⊕ of_span m ÷ whole 5) (of_span m) ≐ over (S * choose t 6 5) (D * 5)
      go true = rw (← one_more) (⊕_over (S * 5) S (D * 5) fifths (÷_over 5 S D of_span_lem))
      go false = fifths

  span_sound : Sound (of_span m)
  unfolding whole
  span_sound = ÷_sound (whole D) (whole_sound S) some_divisor

  pub limit_sound : (class : ℕ) → Sound (limit m class)
  unfolding limit whole
  limit_sound class = of_choose Sound (eqb class 1) (⊕_sound span_sound (÷_sound (whole 5) span_sound (omega arith))) span_sound

  -- a number of 64ths against it, multiplied out
  pub within_over : (count class : ℕ) → leb (count * (D * 5)) (S * fifths_of class * 64) ≡ at_most (over count 64) (limit m class)
  unfolding over
  within_over count class =
      at_most_same (over_sound count 64 (omega arith)) (over_sound count 64 (omega arith)) (over_sound (S * fifths_of class) (D * 5) (omega (arith, some_divisor))) (limit_sound class) ≐_refl
      (≐_sym (limit_over class))

pub divisor_cap : (kind : ℕ) → span_divisor kind ≤ 300
divisor_cap kind = of_choose (λ (n : ℕ). n ≤ 300) (eqb kind 1 || eqb kind 2 || eqb kind 7) (omega arith) (omega arith)

pub fifths_cap : (class : ℕ) → fifths_of class ≤ 6
fifths_cap class = of_choose (λ (n : ℕ). n ≤ 6) (eqb class 1) (omega arith) (omega arith)
