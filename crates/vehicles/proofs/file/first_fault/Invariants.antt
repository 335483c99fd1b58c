-- `first_fault` meets its contract. The axles' invariant: none of the first i axles has a fault. The fields' invariant: the first f
-- fields of the axle are in their ranges.
use Rattle.std.specs.Prelude.{Ok}
use mathlib.Core.Path.{◌≡◌}
use mathlib.Core.Bool.{true}
use Rattle.files.specs.Words.{each}
use Rattle.section.specs.Choose.{all}
use Rattle.files.specs.Reading.{first_fault}
use Rattle.vehicles.specs.VehicleFile.{field_within, axle_fault}
use Rattle.vehicles.proofs.file.first_fault.Given as goal

abbrev pub invariant-loop-f : goal.invariant-loop-f
invariant-loop-f l = (l.answer ≡ Ok tt) × (all (field_within l.axles.bytes.now l.i) l.f ≡ true)

abbrev pub invariant-axles : goal.invariant-axles
invariant-axles l = (l.answer ≡ Ok tt) × (first_fault 1 (each (axle_fault l.axles.bytes.now) l.i) ≡ Ok tt)
