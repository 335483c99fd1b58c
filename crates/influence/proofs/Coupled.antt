-- Two vehicles coupled load a member by at most the sum of their loads: with the front axle at u the axles of the second vehicle
-- give what they give alone with its own front axle further back, and a sum rounded up is at most the sum of its parts rounded up. And by at least
-- each of them: the first has axles added behind, and every position of the second is one of the coupled vehicle, with more on it.
-- Assumes nothing.
use Prim.Native.Nat.{ℕ, zero, suc, ◌+◌, ◌-◌, ◌*◌, ◌≤◌, ◌<◌}
use mathlib.Core.Path.{◌≡◌, refl, sym}
use mathlib.Core.List.{List}
use native.Mathlib.Nat.{add-zero, add-suc, add-le-add, add-sub_cancel, le_trans, sub-add-eq}
use native.Mathlib.Omega.{arith}
use Rattle.section.specs.declared.Cm.{Cm}
use Rattle.section.specs.declared.Kgf.{Kgf}
use Rattle.section.specs.Fraction.{over, whole, ◌·◌, ◌÷◌, ◌⊑◌}
use Rattle.section.proofs.Rounding.{rounded_up, ceiling_least}
use Rattle.section.specs.Units.{weight, distance}
use Rattle.influence.specs.Influence.{Triangle, total, per_metre, behind, vehicle_load}
use Rattle.influence.specs.Scaled.{scaled_height, scaled_sum, apex_top, scaled_greatest}
use Rattle.influence.proofs.Folds.{total_same, total_split}
use Rattle.section.proofs.Greatest.{of_top}
use Rattle.section.proofs.Order.{over_mono}
use Rattle.influence.proofs.Apex.{apex_top_lem}
use Rattle.influence.proofs.Scaled.{per_metre_mono}
use Rattle.influence.proofs.Load.{load_sound, load_computed, load_rises, load_grows, behind_alike}

-- The axles of ws and ds are the first n of ws₁ and ds₁ and after them the first m of ws₂ and ds₂, at any distance.
pub record Coupled (ws₁ : List Kgf) (ds₁ : List Cm) (n : ℕ) (ws₂ : List Kgf) (ds₂ : List Cm) (m : ℕ) (ws : List Kgf) (ds : List Cm) : Type 0 where
  pub weight_ahead : (i : ℕ) → i < n → weight ws i ≡ weight ws₁ i
  pub distance_ahead : (i : ℕ) → i < n → distance ds i ≡ distance ds₁ i
  pub weight_after : (i : ℕ) → i < m → weight ws (n + i) ≡ weight ws₂ i
  pub distance_after : (i : ℕ) → suc i < m → distance ds (n + suc i) ≡ distance ds₂ (suc i)
  pub first : distance ds₂ 0 ≡ 0

loads_add :
    (U G G' D r r' : ℕ) → per_metre U (over G D) ⊑ whole r → per_metre U (over G' D) ⊑ whole r' →
    per_metre U (over (G + G') D) ⊑ whole (r + r')
unfolding per_metre over whole ◌·◌ ◌÷◌
loads_add U G G' D r r' p q = record { out = omega (arith, p.out, q.out) }

module _ {ws₁ : List Kgf} {ds₁ : List Cm} {n : ℕ} {ws₂ : List Kgf} {ds₂ : List Cm} {m : ℕ} {ws : List Kgf} {ds : List Cm} (c : Coupled ws₁ ds₁ n ws₂ ds₂ m ws ds) where
  behind_after : (i : ℕ) → i < m → behind ds (n + i) ≡ behind ds n + behind ds₂ i
  unfolding behind total
  behind_after zero l = rw (add-zero n) (omega (arith, c.first))
  behind_after (suc i) l = rw (add-suc n i) (omega (arith, behind_after i (omega arith), rw (add-suc n i) at (c.distance_after i l)))

  -- the second vehicle's front axle stands behind ds n behind the first's
  sum_coupled :
      (U P u : ℕ) →
      scaled_sum U P (weight ws) (behind ds) (n + m) u ≡
      scaled_sum U P (weight ws₁) (behind ds₁) n u + scaled_sum U P (weight ws₂) (behind ds₂) m (u - behind ds n)
  unfolding scaled_sum
  sum_coupled U P u = rw (total_split _ n m, ahead, after) refl
    where
      ahead :
          total (λ i. weight ws i * scaled_height U P (u - behind ds i)) n ≡
          total (λ i. weight ws₁ i * scaled_height U P (u - behind ds₁ i)) n
      ahead = total_same _ _ n (λ i l. rw (c.weight_ahead i l, behind_alike ds ds₁ c.distance_ahead i l) refl)

      after :
          total (λ i. weight ws (n + i) * scaled_height U P (u - behind ds (n + i))) m ≡
          total (λ i. weight ws₂ i * scaled_height U P (u - behind ds n - behind ds₂ i)) m
      after =
          total_same _ _ m (λ i l. rw (c.weight_after i l, behind_after i l, sub-add-eq u (behind ds n) (behind ds₂ i)) refl)

  top_coupled :
      (U P : ℕ) → P ≤ U →
      apex_top U P (weight ws) (behind ds) (n + m) ≤ apex_top U P (weight ws₁) (behind ds₁) n + apex_top U P (weight ws₂) (behind ds₂) m
  unfolding apex_top
  top_coupled U P p =
      of_top
      (λ g. g ≤ apex_top U P (weight ws₁) (behind ds₁) n + apex_top U P (weight ws₂) (behind ds₂) m) _ (n + m) (omega arith)
      (λ j l. rw (sum_coupled U P (P + behind ds j)) (add-le-add (apex_top_lem U P _ _ n p _) (apex_top_lem U P _ _ m p _)))

  pub coupled_at_most :
      {U P : ℕ} → Triangle U P → vehicle_load U P ws ds (n + m) ≤ vehicle_load U P ws₁ ds₁ n + vehicle_load U P ws₂ ds₂ m
  unfolding scaled_greatest
  coupled_at_most {U} {P} t =
      rw (load_computed ws ds (n + m) t, load_computed ws₁ ds₁ n t, load_computed ws₂ ds₂ m t)
      (ceiling_least _ (load_sound _ t) (load_sound _ t)
      (per_metre_mono U (over_mono _ (omega (arith, top_coupled U P (omega arith), top_coupled U (U - P) (omega arith)))))
      (loads_add U _ _ _ _ _ (rounded_up _ (load_sound _ t)).never_below (rounded_up _ (load_sound _ t)).never_below))

  -- with the front axle so far ahead that the second's own stands where it stood
  second_within : (U P u : ℕ) → scaled_sum U P (weight ws₂) (behind ds₂) m u ≤ scaled_sum U P (weight ws) (behind ds) (n + m) (u + behind ds n)
  second_within U P u = rw (sum_coupled U P (u + behind ds n), add-sub_cancel u (behind ds n)) (omega arith)

  top_second : (U P : ℕ) → P ≤ U → apex_top U P (weight ws₂) (behind ds₂) m ≤ apex_top U P (weight ws) (behind ds) (n + m)
  unfolding apex_top
  top_second U P p =
      of_top (λ g. g ≤ apex_top U P (weight ws) (behind ds) (n + m)) _ m (omega arith)
      (λ j l. le_trans (second_within U P (P + behind ds₂ j)) (apex_top_lem U P _ _ (n + m) p _))

  pub at_least_first : {U P : ℕ} → Triangle U P → vehicle_load U P ws₁ ds₁ n ≤ vehicle_load U P ws ds (n + m)
  at_least_first t =
      load_grows ws₁ ds₁ ws ds t (omega arith) (λ i l. rw (c.weight_ahead i l) (omega arith)) (λ i l. sym (c.distance_ahead i l))

  pub at_least_second : {U P : ℕ} → Triangle U P → vehicle_load U P ws₂ ds₂ m ≤ vehicle_load U P ws ds (n + m)
  unfolding scaled_greatest
  at_least_second {U} {P} t =
      load_rises ws₂ ds₂ m ws ds (n + m) t (omega (arith, top_second U P (omega arith), top_second U (U - P) (omega arith)))
