-- The least term of a dowel: it never rises with the rot, and hundredths of it are the least of the terms' hundredths.
-- Assumes nothing.
use Prim.Native.Nat.{ℕ, ◌+◌, ◌-◌, ◌*◌, ◌≤◌, min}
use mathlib.Core.Path.{◌≡◌, refl}
use mathlib.Core.Bool.{Bool, true, false}
use native.Mathlib.Omega.{arith}
use lib.Dec.{eqb}
use Rattle.section.specs.Choose.{choose}
use Rattle.section.specs.Fraction.{Fraction, Sound, over, whole, tenths, square, ◌·◌, ◌⊕◌, ◌⊑◌, ◌≐◌}
use Rattle.section.specs.declared.dowel.Material.TheVariants.{Steel, Nail, Oak}
use Rattle.section.specs.Material.{material_term, material_of}
use Rattle.section.specs.Dowel.{least_term, term_of, dowel_capacity, steel, nail, oak}
use Rattle.section.proofs.Order.{⊑_refl, ·_mono, ⊕_mono, ·_sound, ⊕_sound, of_lesser, lesser_mono, lesser_scaled, whole_sound, tenths_sound, square_sound, whole_mono, square_mono}

module _ (p q r s t : ℕ) (c a δ : Fraction) (sc : Sound c) (sa : Sound a) (sδ : Sound δ) where
  middle : Sound (whole p · c · δ)
  middle = ·_sound (·_sound (whole_sound p) sc) sδ

  outer : Sound (whole q · a · δ)
  outer = ·_sound (·_sound (whole_sound q) sa) sδ

  bent : Sound (whole r · square δ ⊕ whole s · square a)
  bent = ⊕_sound (·_sound (whole_sound r) (square_sound sδ)) (·_sound (whole_sound s) (square_sound sa))

  stiff : Sound (whole t · square δ)
  stiff = ·_sound (whole_sound t) (square_sound sδ)

  least_term_sound : Sound (least_term p q r s t c a δ)
  unfolding least_term
  least_term_sound = of_lesser Sound middle (of_lesser Sound outer (of_lesser Sound bent stiff))

  least_term_mono : {c' a' : Fraction} → c ⊑ c' → a ⊑ a' → least_term p q r s t c a δ ⊑ least_term p q r s t c' a' δ
  unfolding least_term
  least_term_mono hc ha =
      lesser_mono middle (of_lesser Sound outer (of_lesser Sound bent stiff)) (·_mono (·_mono ⊑_refl hc) ⊑_refl)
      (lesser_mono outer (of_lesser Sound bent stiff) (·_mono (·_mono ⊑_refl ha) ⊑_refl)
      (lesser_mono bent stiff (⊕_mono ⊑_refl (·_mono ⊑_refl (square_mono ha))) ⊑_refl))

-- the least of the terms in hundredths, with the diameter d in mm
pub least_term_hundredths : (p q r s t c a d : ℕ) →
    over (min (10 * p * (c * d)) (min (10 * q * (a * d)) (min (r * (d * d) + 100 * s * (a * a)) (t * (d * d))))) 100 ≐
    least_term p q r s t (whole c) (whole a) (tenths d)
unfolding least_term over whole tenths square ◌·◌ ◌⊕◌
least_term_hundredths p q r s t c a d =
    lesser_scaled 100 _ _ sm (of_lesser Sound so (of_lesser Sound sb ss)) (omega arith)
    (lesser_scaled 100 _ _ so (of_lesser Sound sb ss) (omega arith) (lesser_scaled 100 _ _ sb ss (omega arith) (omega arith)))
  where
    sm : Sound (whole p · whole c · tenths d)
    sm = middle p q r s t _ _ _ (whole_sound c) (whole_sound a) (tenths_sound d)

    so : Sound (whole q · whole a · tenths d)
    so = outer p q r s t _ _ _ (whole_sound c) (whole_sound a) (tenths_sound d)

    sb : Sound (whole r · square (tenths d) ⊕ whole s · square (whole a))
    sb = bent p q r s t _ _ _ (whole_sound c) (whole_sound a) (tenths_sound d)

    ss : Sound (whole t · square (tenths d))
    ss = stiff p q r s t _ _ _ (whole_sound c) (whole_sound a) (tenths_sound d)

-- what holds of the least term whatever its coefficients holds of each type's
of_each : (P : ((c a δ : Fraction) → Fraction) → Type 0) → ((p q r s t : ℕ) → P (least_term p q r s t)) → (type : ℕ) → P (term_of type)
unfolding term_of
of_each P each type = go (eqb type 1) (eqb type 2)
  where
    go : (u v : Bool) → P (λ c a δ. choose u (steel c a δ) (choose v (nail c a δ) (oak c a δ)))
    go true v = each _ _ _ _ _
    go false true = each _ _ _ _ _
    go false false = each _ _ _ _ _

pub dowel_capacity_sound : (type d c a rot : ℕ) → Sound (dowel_capacity type d c a rot)
unfolding dowel_capacity
dowel_capacity_sound type d c a rot =
    of_each (λ T. Sound (T (whole (c - rot)) (whole (a - rot)) (tenths d)))
    (λ p q r s t. least_term_sound p q r s t _ _ _ (whole_sound _) (whole_sound _) (tenths_sound d))
    type

-- T never rises with the rot
pub dowel_capacity_falls : (type d c a rot rot' : ℕ) → rot ≤ rot' → dowel_capacity type d c a rot' ⊑ dowel_capacity type d c a rot
unfolding dowel_capacity
dowel_capacity_falls type d c a rot rot' h =
    of_each (λ T. T (whole (c - rot')) (whole (a - rot')) (tenths d) ⊑ T (whole (c - rot)) (whole (a - rot)) (tenths d))
    (λ p q r s t. least_term_mono p q r s t _ _ _ (whole_sound _) (whole_sound _) (tenths_sound d) (whole_mono (omega arith)) (whole_mono (omega arith)))
    type

-- the material of a type has its term
pub type_term : (type : ℕ) (c a δ : Fraction) → material_term (material_of type) c a δ ≡ term_of type c a δ
unfolding term_of
type_term type c a δ = go (eqb type 1) (eqb type 2)
  where
    go : (u v : Bool) →
        material_term (choose u Steel (choose v Nail Oak)) c a δ ≡ choose u (steel c a δ) (choose v (nail c a δ) (oak c a δ))
    go true v = refl
    go false true = refl
    go false false = refl
