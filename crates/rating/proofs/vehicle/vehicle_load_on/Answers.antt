-- `rating::vehicle::vehicle_load_on` meets its contract: the vehicle load on the member's influence line, of the axles that the vehicle has.
-- Assumes nothing.
use mathlib.Core.Path.{◌≡◌, ◌∙◌}
use lib.ListN.{length, take}
use Rattle.std.proofs.lemmas.Grind.{common_steps}
use native.Mathlib.Omega.{arith}
use Rattle.influence.proofs.Load.{bounded_front, load_front}
use Rattle.rating.specs.VehicleLoad.{vehicle_load_on}
use Rattle.rating.proofs.Lines.{line_sized, load_bounded}
use Rattle.rating.proofs.vehicle.vehicle_load_on.Goals as goal

pub vehicle_load-requires : goal.vehicle_load-requires
vehicle_load-requires c =
    let v = c.args.v in
    let count : length (take v.axles v.weights) ≡ v.axles = grind (arith, common_steps) in
    rw (count, c.base_of.ensures, c.apex_of.ensures)
    (bounded_front v.weights v.distances v.axles (load_bounded c.requires.0 v c.requires.1))

pub returns-clause-is : goal.returns-clause-is
unfolding vehicle_load_on
returns-clause-is c =
    let v = c.args.v in
    let count : length (take v.axles v.weights) ≡ v.axles = grind (arith, common_steps) in
    rw (count, c.base_of.ensures, c.apex_of.ensures) at c.vehicle_load.ensures.is ∙
    load_front v.weights v.distances v.axles (line_sized c.requires.0).triangle
