-- The greatest that any position gives: it is what the code computes from the apex positions of both directions, since no
-- position gives more (Apex) and each of those is among the positions. So it bounds every position, however far off, and
-- every place between the half centimetres too.
-- Assumes nothing.
use Prim.Native.Nat.{ℕ, ◌+◌, ◌-◌, ◌*◌, ◌≤◌, ◌<◌}
use mathlib.Core.Path.{◌≡◌, refl}
use mathlib.Core.Logic.{◌⊎◌, inl, inr}
use native.Mathlib.Nat.{le_trans, le-max_left, le-max_right, le_antisymm}
use mathlib.Core.List.{List}
use native.Mathlib.Omega.{arith}
use Rattle.section.specs.declared.Cm.{Cm}
use Rattle.section.specs.Fraction.{Fraction, Sound, over, whole, ◌·◌, ◌÷◌, ◌⊑◌, ◌≐◌}
use Rattle.section.proofs.Order.{⊑_trans, ≐_⊑, ≐_⊒, over_mono, of_greater, greater_left, greater_right}
use Rattle.section.specs.Units.{distance}
use Rattle.influence.specs.Influence.{Triangle, per_metre, gives, greatest_one_way, greatest, behind}
use Rattle.influence.specs.Scaled.{scaled_sum, apex_top, scaled_greatest}
use Rattle.influence.proofs.Folds.{total_more}
use Rattle.section.proofs.Greatest.{of_max, of_top, of_greatest, greatest_at}
use Rattle.influence.proofs.Apex.{sum_start, sum_past, apex_top_lem}
use Rattle.influence.proofs.Scaled.{mirrored, same_divisor, axle_sum_over, per_metre_mono, per_metre_sound, gives_sound, divisor_above_0}
use Rattle.section.proofs.Order.{over_sound}

-- no axle stands further behind than the last
abbrev pub LastBehind : (ℕ → ℕ) → ℕ → Type 0
LastBehind b n = (i : ℕ) → i < n → b i ≤ b (n - 1)

pub behind_last : (ds : List Cm) (n : ℕ) → LastBehind (behind ds) n
unfolding behind
behind_last ds n i h = total_more (λ j. 2 * distance ds j) (omega arith)

nothing_at_most : (U D : ℕ) (a : Fraction) → per_metre U (over 0 D) ⊑ a
unfolding per_metre over whole ◌·◌ ◌÷◌
nothing_at_most U D a = record { out = omega arith }

-- one direction of travel
module _ {U P : ℕ} (w b : ℕ → ℕ) (n : ℕ) (t : Triangle U P) where
  one_way_sound : Sound (greatest_one_way U P w b n)
  unfolding greatest_one_way
  one_way_sound = of_greatest Sound _ _ (λ u. gives_sound w b n u t)

  one_way_given : (u : ℕ) × (greatest_one_way U P w b n ≡ gives U P w b n u)
  unfolding greatest_one_way
  one_way_given = of_greatest (λ c. (u : ℕ) × (c ≡ gives U P w b n u)) _ _ (λ u. (u, refl))

  -- over the divisor D that both directions have
  module _ (D : ℕ) (d : D ≡ P * (U - P)) where
    gives_at_most : {G : ℕ} (u : ℕ) → scaled_sum U P w b n u ≤ G → gives U P w b n u ⊑ per_metre U (over G D)
    unfolding gives
    gives_at_most u h =
        rw d
        (per_metre_mono U
        (⊑_trans (over_sound _ _ (divisor_above_0 t)) (≐_⊑ (axle_sum_over U P w b n u)) (over_mono _ h)))

    gives_at_least : (u : ℕ) → per_metre U (over (scaled_sum U P w b n u) D) ⊑ gives U P w b n u
    unfolding gives
    gives_at_least u = rw d (per_metre_mono U (≐_⊒ (axle_sum_over U P w b n u)))

    one_way_bounds : {G : ℕ} → apex_top U P w b n ≤ G → (u : ℕ) → gives U P w b n u ⊑ per_metre U (over G D)
    one_way_bounds h u = gives_at_most u (le_trans (apex_top_lem U P w b n (omega arith) u) h)

    one_way_at_most : {G : ℕ} → apex_top U P w b n ≤ G → greatest_one_way U P w b n ⊑ per_metre U (over G D)
    unfolding greatest_one_way
    one_way_at_most {G} h = of_greatest (λ c. c ⊑ per_metre U (over G D)) _ _ (one_way_bounds h)

    one_way_at_least : LastBehind b n → per_metre U (over (apex_top U P w b n) D) ⊑ greatest_one_way U P w b n
    unfolding greatest_one_way apex_top
    one_way_at_least last =
        of_top (λ m. per_metre U (over m D) ⊑ greatest_one_way U P w b n) _ n (nothing_at_most U D _) λ j l.
        ⊑_trans (gives_sound w b n (P + b j) t) (gives_at_least (P + b j))
        (greatest_at _ (λ u. gives_sound w b n u t) _ (P + b j) (omega (arith, last j l)))

-- "an axle off the base counts 0": nothing with the front axle at the end, nothing once every axle is past the other
module _ {U P : ℕ} (w b : ℕ → ℕ) (n : ℕ) (t : Triangle U P) where
  gives_nothing : (u : ℕ) → scaled_sum U P w b n u ≤ 0 → gives U P w b n u ⊑ whole 0
  gives_nothing u h =
      ⊑_trans (per_metre_sound (omega arith) (over_sound 0 _ (divisor_above_0 t))) (gives_at_most w b n t _ refl u h)
      (nothing_at_most U _ _)

  pub gives_at_start : gives U P w b n 0 ⊑ whole 0
  gives_at_start = gives_nothing 0 (sum_start U P w b n)

  pub gives_past_end : (u : ℕ) → ((i : ℕ) → i < n → U + b i ≤ u) → gives U P w b n u ⊑ whole 0
  gives_past_end u off = gives_nothing u (sum_past U P w b n (omega arith) u off)

module _ {U P : ℕ} (w b : ℕ → ℕ) (n : ℕ) (t : Triangle U P) (last : LastBehind b n) where
  greatest_at_least : per_metre U (over (scaled_greatest U P w b n) (P * (U - P))) ⊑ greatest U P w b n
  unfolding greatest scaled_greatest
  greatest_at_least =
      of_max (λ m. per_metre U (over m (P * (U - P))) ⊑ greatest U P w b n) _ _
      (⊑_trans (one_way_sound w b n t) (one_way_at_least w b n t _ refl last) (greater_left _ _))
      (⊑_trans (one_way_sound w b n (mirrored t)) (one_way_at_least w b n (mirrored t) _ (same_divisor t) last) (greater_right _ _))

  greatest_at_most : greatest U P w b n ⊑ per_metre U (over (scaled_greatest U P w b n) (P * (U - P)))
  unfolding greatest scaled_greatest
  greatest_at_most =
      of_greater (λ c. c ⊑ per_metre U (over (scaled_greatest U P w b n) (P * (U - P))))
      (one_way_at_most w b n t _ refl (le-max_left _ _))
      (one_way_at_most w b n (mirrored t) _ (same_divisor t) (le-max_right _ _))

  -- what the code computes is the greatest
  pub greatest_computed : greatest U P w b n ≐ per_metre U (over (scaled_greatest U P w b n) (P * (U - P)))
  greatest_computed = record { out = le_antisymm greatest_at_most.out greatest_at_least.out }

  -- a bound of the whole numbers is one of the fractions
  pub at_most_greatest : {a : Fraction} → a ⊑ per_metre U (over (scaled_greatest U P w b n) (P * (U - P))) → a ⊑ greatest U P w b n
  at_most_greatest p = ⊑_trans (per_metre_sound (omega arith) (over_sound _ _ (divisor_above_0 t))) p greatest_at_least

  -- no position gives more, however far off, in either direction of travel
  pub greatest_bounds : (u : ℕ) → (gives U P w b n u ⊑ greatest U P w b n) × (gives U (U - P) w b n u ⊑ greatest U P w b n)
  unfolding scaled_greatest
  greatest_bounds u = (
    at_most_greatest (one_way_bounds w b n t _ refl (le-max_left _ _) u),
    at_most_greatest (one_way_bounds w b n (mirrored t) _ (same_divisor t) (le-max_right _ _) u),
  )

module _ {U P : ℕ} (w b : ℕ → ℕ) (n : ℕ) (t : Triangle U P) where
  pub greatest_sound : Sound (greatest U P w b n)
  unfolding greatest
  greatest_sound = of_greater Sound (one_way_sound w b n t) (one_way_sound w b n (mirrored t))

  -- it is what some position gives
  pub greatest_given :
      ((u : ℕ) × (greatest U P w b n ≡ gives U P w b n u)) ⊎ ((u : ℕ) × (greatest U P w b n ≡ gives U (U - P) w b n u))
  unfolding greatest
  greatest_given =
      of_greater
      (λ c. ((u : ℕ) × (c ≡ gives U P w b n u)) ⊎ ((u : ℕ) × (c ≡ gives U (U - P) w b n u)))
      (inl (one_way_given w b n t)) (inr (one_way_given w b n (mirrored t)))
