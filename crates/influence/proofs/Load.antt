-- The vehicle load covers every position and is less than one unit above the greatest; it is what the code computes; and it
-- never falls where axles grow heavier or are added behind, since each position then gives at least as much.
-- Assumes nothing.
use Prim.Native.Nat.{ℕ, suc, ◌+◌, ◌-◌, ◌*◌, ◌≤◌, ◌<◌}
use mathlib.Core.Path.{◌≡◌, sym, ap}
use mathlib.Core.List.{List}
use lib.ListN.{take}
use Rattle.std.proofs.lemmas.List.{get_or-take}
use Rattle.influence.specs.Bounds.{Bounded}
use native.Mathlib.Nat.{le_trans, le_refl, le_of_eq, le_antisymm, mul-le-mul_right}
use native.Mathlib.Omega.{arith}
use Rattle.section.specs.declared.Cm.{Cm}
use Rattle.section.specs.declared.Kgf.{Kgf}
use Rattle.section.specs.Fraction.{Fraction, Sound, over, whole, ceiling, ◌⊑◌, RoundedUp}
use Rattle.section.proofs.Order.{⊑_trans, over_mono}
use Rattle.section.proofs.Rounding.{rounded_up, ceiling_mono, ceiling_same}
use Rattle.section.specs.Units.{weight, distance, kgf, centimetres}
use Rattle.influence.specs.Influence.{Triangle, per_metre, gives, greatest, behind, vehicle_load}
use Rattle.influence.specs.Scaled.{scaled_height, scaled_sum, apex_top, scaled_greatest}
use Rattle.influence.proofs.Folds.{total_le, total_same, total_more}
use Rattle.section.proofs.Greatest.{of_top}
use Rattle.influence.proofs.Apex.{apex_top_lem}
use Rattle.influence.proofs.Scaled.{per_metre_mono, per_metre_sound, divisor_above_0}
use Rattle.section.proofs.Order.{over_sound}
use Rattle.influence.proofs.Greatest.{behind_last, greatest_sound, greatest_computed, greatest_bounds}

-- the load of a sum that is scaled by P × (U - P)
abbrev pub load_of : (U P G : ℕ) → ℕ
load_of U P G = ceiling (per_metre U (over G (P * (U - P))))

pub load_sound : {U P : ℕ} (G : ℕ) → Triangle U P → Sound (per_metre U (over G (P * (U - P))))
load_sound G t = per_metre_sound (omega arith) (over_sound G _ (divisor_above_0 t))

module _ {U P : ℕ} (ws : List Kgf) (ds : List Cm) (n : ℕ) (t : Triangle U P) where
  pub load_computed : vehicle_load U P ws ds n ≡ load_of U P (scaled_greatest U P (weight ws) (behind ds) n)
  unfolding vehicle_load
  load_computed =
      ceiling_same (greatest_sound _ _ n t) (load_sound _ t) (greatest_computed _ _ n t (behind_last ds n))

  -- rounded up once: never below the greatest, and less than one unit above it
  pub load_rounded_up : RoundedUp (greatest U P (weight ws) (behind ds) n) (vehicle_load U P ws ds n)
  unfolding vehicle_load
  load_rounded_up = rounded_up _ (greatest_sound _ _ n t)

  pub at_most_load : {a : Fraction} → a ⊑ greatest U P (weight ws) (behind ds) n → a ⊑ whole (vehicle_load U P ws ds n)
  at_most_load p = ⊑_trans (greatest_sound _ _ n t) p load_rounded_up.never_below

  -- at least what every position gives, however far off, in either direction of travel
  pub load_covers :
      (u : ℕ) →
      (gives U P (weight ws) (behind ds) n u ⊑ whole (vehicle_load U P ws ds n)) ×
      (gives U (U - P) (weight ws) (behind ds) n u ⊑ whole (vehicle_load U P ws ds n))
  load_covers u =
      let bounds = greatest_bounds (weight ws) (behind ds) n t (behind_last ds n) u in
      (at_most_load bounds.0, at_most_load bounds.1)

-- a greatest sum that is no less gives no less load
pub load_rises :
    {U P : ℕ} (ws : List Kgf) (ds : List Cm) (n : ℕ) (ws' : List Kgf) (ds' : List Cm) (n' : ℕ) → Triangle U P →
    scaled_greatest U P (weight ws) (behind ds) n ≤ scaled_greatest U P (weight ws') (behind ds') n' →
    vehicle_load U P ws ds n ≤ vehicle_load U P ws' ds' n'
load_rises {U} ws ds n ws' ds' n' t le =
    rw (load_computed ws ds n t, load_computed ws' ds' n' t)
    (ceiling_mono (load_sound _ t) (load_sound _ t) (per_metre_mono U (over_mono _ le)))

-- what the code computes never falls where axles grow heavier or are added behind
module _
    (U : ℕ) (w w' b b' : ℕ → ℕ) {n n' : ℕ} (more : n ≤ n')
    (heavier : (i : ℕ) → i < n → w i ≤ w' i) (alike : (i : ℕ) → i < n → b i ≡ b' i) where
  sum_grows : (P u : ℕ) → scaled_sum U P w b n u ≤ scaled_sum U P w' b' n' u
  unfolding scaled_sum
  sum_grows P u =
      le_trans
      (total_le _ (λ i. w' i * scaled_height U P (u - b' i)) n (λ i l. rw (alike i l) (mul-le-mul_right _ (heavier i l))))
      (total_more _ more)

  top_grows : {P : ℕ} → P ≤ U → apex_top U P w b n ≤ apex_top U P w' b' n'
  unfolding apex_top
  top_grows {P} p =
      of_top (λ m. m ≤ apex_top U P w' b' n') _ n (omega arith)
      (λ j l. le_trans (sum_grows P (P + b j)) (apex_top_lem U P w' b' n' p (P + b j)))

  greatest_grows : {P : ℕ} → P ≤ U → scaled_greatest U P w b n ≤ scaled_greatest U P w' b' n'
  unfolding scaled_greatest
  greatest_grows {P} p = omega (arith, top_grows p, top_grows {P = U - P} (omega arith))

-- distances alike put the axles at the same places
pub behind_alike :
    (ds ds' : List Cm) {n : ℕ} → ((i : ℕ) → i < n → distance ds i ≡ distance ds' i) → (i : ℕ) → i < n → behind ds i ≡ behind ds' i
unfolding behind
behind_alike ds ds' alike i l = total_same _ _ (suc i) (λ j k. ap (λ d. 2 * d) (alike j (omega arith)))

-- the vehicle load never falls where axles grow heavier or are added behind
pub load_grows :
    {U P : ℕ} (ws : List Kgf) (ds : List Cm) (ws' : List Kgf) (ds' : List Cm) {n n' : ℕ} →
    Triangle U P → n ≤ n' →
    ((i : ℕ) → i < n → weight ws i ≤ weight ws' i) → ((i : ℕ) → i < n → distance ds i ≡ distance ds' i) →
    vehicle_load U P ws ds n ≤ vehicle_load U P ws' ds' n'
load_grows {U} {P} ws ds ws' ds' {n} {n'} t more heavier alike =
    load_rises ws ds n ws' ds' n' t
    (greatest_grows U (weight ws) (weight ws') (behind ds) (behind ds') more heavier (behind_alike ds ds' alike) (omega arith))

-- the first n of longer rows are the n axles
module _ (ws : List Kgf) (ds : List Cm) (n : ℕ) where
  weight_front : (i : ℕ) → i < n → weight (take n ws) i ≡ weight ws i
  weight_front i l = ap (λ w. w.0) (get_or-take n ws i (kgf 0) l)

  distance_front : (i : ℕ) → i < n → distance (take n ds) i ≡ distance ds i
  distance_front i l = ap (λ d. d.0) (get_or-take n ds i (centimetres 0) l)

  pub load_front : {U P : ℕ} → Triangle U P → vehicle_load U P (take n ws) (take n ds) n ≡ vehicle_load U P ws ds n
  load_front t =
      le_antisymm
      (load_grows (take n ws) (take n ds) ws ds t (le_refl n) (λ i l. le_of_eq (weight_front i l)) distance_front)
      (load_grows ws ds (take n ws) (take n ds) t (le_refl n) (λ i l. le_of_eq (sym (weight_front i l))) (λ i l. sym (distance_front i l)))

  pub bounded_front : {U P : ℕ} → Bounded U P n ws ds → Bounded U P n (take n ws) (take n ds)
  bounded_front b =
      record {
        triangle = b.triangle;
        base = b.base;
        axles = b.axles;
        weights = λ i l. rw (weight_front i l) (b.weights i l);
        distances = λ i l. rw (distance_front i l) (b.distances i l);
      }
