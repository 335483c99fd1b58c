-- The coupled vehicle axle by axle: those of the first, and behind them those of the second.
-- Assumes nothing.
use Prim.Native.Nat.{ℕ, ◌+◌, ◌-◌, ◌<◌}
use mathlib.Core.Path.{◌≡◌, sym, ap, ◌∙◌}
use mathlib.Core.Bool.{true, false}
use mathlib.Core.List.{List, ◌++◌}
use native.Mathlib.Omega.{arith}
use native.Mathlib.Nat.{add-zero, add-sub_cancel_left}
use lib.ListN.{replicate, set}
use borrow.Author.Tests.{le-leb, lt-leb}
use Rattle.section.specs.Units.{centimetres, kgf, weight, distance}
use Rattle.section.specs.declared.Cm.{Cm}
use Rattle.section.specs.declared.Kgf.{Kgf}
use Rattle.member.specs.Fields.{MOST_AXLES}
use Rattle.member.specs.declared.record.Vehicle.{Vehicle}
use Rattle.files.specs.Words.{each}
use Rattle.files.proofs.Each.{store_each}
use Rattle.vehicles.specs.Padded.{Padded}
use Rattle.vehicles.proofs.Rows.{row_same}
use Rattle.couple.specs.Couple.{distance_behind, of_first, coupled_weight, coupled_distance}

module _ (first second : Vehicle) where
  firsts : (i : ℕ) → i < first.axles → of_first first second i ≡ true
  firsts i l = le-leb (i + 1) first.axles (omega arith)

  seconds : (j : ℕ) → of_first first second (first.axles + j) ≡ false
  seconds j = lt-leb (first.axles + j + 1) first.axles (omega arith)

  pub weight_ahead : (i : ℕ) → i < first.axles → coupled_weight first second i ≡ weight first.weights i
  unfolding coupled_weight
  weight_ahead i l = rw (firsts i l)

  pub weight_after : (j : ℕ) → coupled_weight first second (first.axles + j) ≡ weight second.weights j
  unfolding coupled_weight
  weight_after j = rw (seconds j, add-sub_cancel_left first.axles j)

  module _ (gap : ℕ) where
    pub distance_ahead : (i : ℕ) → i < first.axles → coupled_distance first second gap i ≡ distance first.distances i
    unfolding coupled_distance
    distance_ahead i l = rw (firsts i l)

    pub distance_after : (j : ℕ) → coupled_distance first second gap (first.axles + j) ≡ distance_behind (distance second.distances j) gap j
    unfolding coupled_distance
    distance_after j = rw (seconds j, add-sub_cancel_left first.axles j)

  -- a row after n axles of the coupled vehicle, and 0 behind them
  abbrev pub weights_to : (n : ℕ) → List Kgf
  weights_to n = each (λ k. kgf (coupled_weight first second k)) n ++ replicate (MOST_AXLES - n) (kgf 0)

  abbrev pub distances_to : (gap n : ℕ) → List Cm
  distances_to gap n = each (λ k. centimetres (coupled_distance first second gap k)) n ++ replicate (MOST_AXLES - n) (centimetres 0)

  -- before any of the second's axles is put: the first's rows
  pub weights_ahead : Padded first → first.weights ≡ weights_to (first.axles + 0)
  weights_ahead p = p.weights ∙ rw add-zero (row_same first.axles (kgf 0) (λ i l. ap kgf (sym (weight_ahead i l))))

  pub distances_ahead : (gap : ℕ) → Padded first → first.distances ≡ distances_to gap (first.axles + 0)
  distances_ahead gap p = p.distances ∙ rw add-zero (row_same first.axles (centimetres 0) (λ i l. ap centimetres (sym (distance_ahead gap i l))))

  -- one of the second's axles more
  module _ (j : ℕ) (l : first.axles + j < MOST_AXLES) where
    next : first.axles + (j + 1) ≡ first.axles + j + 1
    next = omega arith

    pub weight_put : (row : List Kgf) (w : Kgf) → row ≡ weights_to (first.axles + j) → w.0 ≡ weight second.weights j → set row (first.axles + j) w ≡ weights_to (first.axles + (j + 1))
    weight_put row w e is =
        let same : w ≡ kgf (coupled_weight first second (first.axles + j)) = ap kgf (is ∙ sym (weight_after j)) in
        rw (e, same, next) (store_each (λ k. kgf (coupled_weight first second k)) MOST_AXLES (first.axles + j) (kgf 0) l)

    pub distance_put : (gap : ℕ) (row : List Cm) (d : Cm) → row ≡ distances_to gap (first.axles + j) → d.0 ≡ distance_behind (distance second.distances j) gap j → set row (first.axles + j) d ≡ distances_to gap (first.axles + (j + 1))
    distance_put gap row d e is =
        let same : d ≡ centimetres (coupled_distance first second gap (first.axles + j)) = ap centimetres (is ∙ sym (distance_after gap j)) in
        rw (e, same, next) (store_each (λ k. centimetres (coupled_distance first second gap k)) MOST_AXLES (first.axles + j) (centimetres 0) l)
