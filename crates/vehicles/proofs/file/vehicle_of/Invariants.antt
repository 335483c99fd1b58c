-- `vehicle_of` meets its contract. The invariant: the first i weights and distances are the file's, and 0 stands after them.
use Prim.Native.Nat.{◌-◌}
use mathlib.Core.Path.{◌≡◌}
use mathlib.Core.List.{◌++◌}
use lib.ListN.{replicate}
use Rattle.section.specs.Units.{centimetres, kgf}
use Rattle.member.specs.Fields.{MOST_AXLES}
use Rattle.files.specs.Words.{each}
use Rattle.vehicles.specs.VehicleFile.{weight_at, distance_at}
use Rattle.vehicles.proofs.file.vehicle_of.Given as goal

abbrev pub invariant-loop-i : goal.invariant-loop-i
invariant-loop-i l = (l.weights ≡ each (λ k. kgf (weight_at l.axles.bytes.now k)) l.i ++ replicate (MOST_AXLES - l.i) (kgf 0)) × (l.distances ≡ each (λ k. centimetres (distance_at l.axles.bytes.now k)) l.i ++ replicate (MOST_AXLES - l.i) (centimetres 0))
