-- The permitted load of a formula against its exact value: 0 where that is negative, else never above it and less than one unit
-- below; it never rises when the front falls or the dead load rises; and whole numbers that are multiplied out beforehand give the
-- same. All of it once, for every kind.
-- Assumes nothing.
use Prim.Native.Nat.{ℕ, ◌+◌, ◌-◌, ◌*◌, ◌/◌, ◌≤◌, ◌<◌}
use mathlib.Core.Path.{◌≡◌, ap, ap₂, sym, ◌∙◌}
use native.Mathlib.Nat.{sub-eq-zero_of_le, sub-add_cancel, le_of_lt, zero-div, zero-mul, mul-pos}
use native.Mathlib.Omega.{arith}
use Rattle.section.specs.Fraction.{Fraction, Sound, over, whole, floor, ◌·◌, ◌÷◌, ◌⊕◌, ◌⊖◌, ◌⊑◌, ◌≐◌, RoundedDown}
use Rattle.section.proofs.Order.{·_mono, ÷_mono, ⊖_mono, ⊑_refl, ·_sound, ÷_sound, ⊖_sound, sub_mul, whole_sound}
use Rattle.section.proofs.Rounding.{rounded_down, floor_mono, floor_same}
use Rattle.member.specs.Formula.{Formula, Positive, Valid, permitted, Permitted}

pub ·_positive : {a b : Fraction} → Positive a → Positive b → Positive (a · b)
unfolding ◌·◌
·_positive {a} {b} p q = record { sound = ·_sound p.sound q.sound; above_0 = mul-pos p.above_0 q.above_0 }

module _ (f : Formula) (v : Valid f) where
  difference_sound : Sound (f.front ⊖ f.dead)
  difference_sound = ⊖_sound v.front v.dead

  value_sound : Sound ((f.front ⊖ f.dead) ÷ f.divisor · whole 100)
  value_sound = ·_sound (÷_sound f.divisor difference_sound v.divisor.above_0) (whole_sound 100)

-- the two sides of the rounding, with t for the truncated difference
below : (p t fn fd dn dd vn vd : ℕ) → t + dn * fd ≡ fn * dd → p * (fd * dd * vn * 1) ≤ t * vd * 100 * 1 →
    (p * vn * (1 * dd) + 100 * dn * (1 * vd)) * (1 * fd) ≤ 100 * fn * (1 * vd * (1 * dd))
below p t fn fd dn dd vn vd e h = omega (arith, ap (λ (z : ℕ). z * (vd * 100)) e)

above : (p t fn fd dn dd vn vd : ℕ) → t + dn * fd ≡ fn * dd → t * vd * 100 * 1 < (p + 1) * (fd * dd * vn * 1) →
    100 * fn * (1 * vd * (1 * dd)) < ((p + 1) * vn * (1 * dd) + 100 * dn * (1 * vd)) * (1 * fd)
above p t fn fd dn dd vn vd e h = omega (arith, ap (λ (z : ℕ). z * (vd * 100)) e)

pub permitted_exact : (f : Formula) → Valid f → Permitted f (permitted f)
unfolding permitted floor whole ◌·◌ ◌÷◌ ◌⊕◌ ◌⊖◌
permitted_exact f v =
    record {
      valid = v;
      negative = λ h. nothing _ _ (sub-eq-zero_of_le (le_of_lt h.out));
      never_above = λ h. record { out = below _ _ _ _ _ _ _ _ (sub-add_cancel h.out) rounded.never_above.out };
      near = λ h. record { out = above _ _ _ _ _ _ _ _ (sub-add_cancel h.out) rounded.near.out };
    }
  where
    rounded : RoundedDown ((f.front ⊖ f.dead) ÷ f.divisor · whole 100) (permitted f)
    rounded = rounded_down ((f.front ⊖ f.dead) ÷ f.divisor · whole 100) (value_sound f v)

    nothing : (t d : ℕ) → t ≡ 0 → t * f.divisor.den * 100 / d ≡ 0
    nothing t d e = rw (e, zero-mul, zero-mul, zero-div)

-- the permitted load never rises when the front falls or the dead load rises
pub permitted_mono : (f g : Formula) → Valid f → Valid g → f.divisor ≡ g.divisor → f.front ⊑ g.front → g.dead ⊑ f.dead →
    permitted f ≤ permitted g
unfolding permitted
permitted_mono f g v w e p q =
    floor_mono (value_sound f v) (value_sound g w)
    (rw e (·_mono (÷_mono g.divisor (⊖_mono p q)) ⊑_refl))

-- the same of whole numbers that are multiplied out beforehand
scaled : (a b p q s t : ℕ) → a * s ≡ p * t → b * s ≡ q * t → (a - b) * s ≡ (p - q) * t
scaled a b p q s t e h = sub_mul a b s ∙ ap₂ (λ (x y : ℕ). x - y) e h ∙ sym (sub_mul p q t)

pub permitted_whole : (f : Formula) (p q k d : ℕ) → Valid f → 0 < d →
    f.front ÷ f.divisor · whole 100 ≐ over (p * k) d →
    f.dead ÷ f.divisor · whole 100 ≐ over (q * k) d →
    permitted f ≡ (p - q) * k / d
unfolding permitted floor over whole ◌·◌ ◌÷◌ ◌⊖◌
permitted_whole f p q k d v s e h =
    floor_same {b = over ((p - q) * k) d} (value_sound f v) (record { above_0 = s })
    (record {
      out =
          regroup_left _ f.divisor.den d ∙
          scaled (f.front.num * f.dead.den) (f.dead.num * f.front.den) p q (f.divisor.den * 100 * d)
          (k * (f.front.den * f.dead.den * f.divisor.num))
          (omega (arith, ap (λ (z : ℕ). z * f.dead.den) e.out))
          (omega (arith, ap (λ (z : ℕ). z * f.front.den) h.out)) ∙
          regroup_right _ k (f.front.den * f.dead.den * f.divisor.num);
    })
  where
    regroup_left : (t v d : ℕ) → t * v * 100 * d ≡ t * (v * 100 * d)
    regroup_left t v d = omega arith

    regroup_right : (t k w : ℕ) → t * (k * w) ≡ t * k * (w * 1)
    regroup_right t k w = omega arith
