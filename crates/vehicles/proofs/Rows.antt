-- A vehicle's rows of weights and distances: the numbers of its axles stand where they were put, and a vehicle with 0 behind them is its numbers.
-- Assumes nothing.
use Prim.Native.Nat.{ℕ, ◌-◌, ◌<◌}
use mathlib.Core.Path.{◌≡◌, sym, ap, ◌∙◌}
use mathlib.Core.List.{List, ◌++◌}
use lib.ListN.{replicate}
use Rattle.section.specs.Units.{centimetres, kgf, weight, distance}
use Rattle.section.specs.declared.Cm.{Cm}
use Rattle.section.specs.declared.Kgf.{Kgf}
use Rattle.member.specs.Fields.{MOST_AXLES}
use Rattle.member.specs.declared.record.Vehicle.{Vehicle}
use Rattle.files.specs.Words.{each}
use Rattle.files.proofs.Each.{each_same, getD_padded}
use Rattle.vehicles.specs.Padded.{Padded}

pub row_weight : (w : ℕ → ℕ) (n i : ℕ) (pad : List Kgf) → i < n → weight (each (λ k. kgf (w k)) n ++ pad) i ≡ w i
row_weight w n i pad l = ap (λ (x : Kgf). x.0) (getD_padded (λ k. kgf (w k)) n i pad (kgf 0) l)

pub row_distance : (d : ℕ → ℕ) (n i : ℕ) (pad : List Cm) → i < n → distance (each (λ k. centimetres (d k)) n ++ pad) i ≡ d i
row_distance d n i pad l = ap (λ (x : Cm). x.0) (getD_padded (λ k. centimetres (d k)) n i pad (centimetres 0) l)

-- rows of the same numbers, with the same behind them
pub row_same : {X : Type 0} {f g : ℕ → X} (n : ℕ) (blank : X) → ((i : ℕ) → i < n → f i ≡ g i) →
    each f n ++ replicate (MOST_AXLES - n) blank ≡ each g n ++ replicate (MOST_AXLES - n) blank
row_same {X} n blank same = ap (λ (row : List X). row ++ replicate (MOST_AXLES - n) blank) (each_same n same)

-- rows that hold so many numbers, and 0 behind them
pub padded_rows : (v : Vehicle) (w d : ℕ → ℕ) →
    v.weights ≡ each (λ i. kgf (w i)) v.axles ++ replicate (MOST_AXLES - v.axles) (kgf 0) →
    v.distances ≡ each (λ i. centimetres (d i)) v.axles ++ replicate (MOST_AXLES - v.axles) (centimetres 0) →
    Padded v
padded_rows v w d ew ed =
    record {
      weights = ew ∙ row_same v.axles (kgf 0) (λ i l. ap kgf (sym (ap (λ (row : List Kgf). weight row i) ew ∙ row_weight w v.axles i _ l)));
      distances = ed ∙ row_same v.axles (centimetres 0) (λ i l. ap centimetres (sym (ap (λ (row : List Cm). distance row i) ed ∙ row_distance d v.axles i _ l)));
    }

-- two such vehicles with the same numbers are the same
pub padded_same : (v v' : Vehicle) → Padded v → Padded v' → v.class ≡ v'.class → v.track.0 ≡ v'.track.0 → v.axles ≡ v'.axles →
    ((i : ℕ) → i < v'.axles → weight v.weights i ≡ weight v'.weights i) →
    ((i : ℕ) → i < v'.axles → distance v.distances i ≡ distance v'.distances i) →
    v ≡ v'
padded_same v v' p p' class track axles weights distances =
    let ws : v.weights ≡ v'.weights = p.weights ∙ rw axles (row_same v'.axles (kgf 0) (λ i l. ap kgf (weights i l))) ∙ sym p'.weights in
    let ds : v.distances ≡ v'.distances = p.distances ∙ rw axles (row_same v'.axles (centimetres 0) (λ i l. ap centimetres (distances i l))) ∙ sym p'.distances in
    rw (class, track, axles, ws, ds)
