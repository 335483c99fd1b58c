-- `vehicle_bytes` meets its contract. The loop's invariant: the header and the first i axles are put.
-- Assumes nothing.
use Prim.Native.Nat.{◌+◌, ◌*◌}
use mathlib.Core.Path.{◌≡◌}
use mathlib.Core.List.{◌++◌}
use lib.ListN.{take}
use Rattle.vehicles.specs.VehicleFile.{VEHICLE_HEADER, axle_size}
use Rattle.convert.specs.VehicleBytes.{head_bytes, axles_bytes}
use Rattle.convert.proofs.bytes.vehicle_bytes.Given as goal

abbrev pub invariant-loop-i : goal.invariant-loop-i
invariant-loop-i l = take (VEHICLE_HEADER + axle_size l.version * l.i) l.row ≡ head_bytes l.version l.v ++ axles_bytes l.version l.v l.i
