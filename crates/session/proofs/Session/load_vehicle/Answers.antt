-- `Session::load_vehicle` meets its contract: what was read is stored by its answer.
use Rattle.vehicles.specs.VehicleFile.{VEHICLE_VERSIONS}
use Rattle.vehicles.proofs.Vehicles.{taken_vehicle_allowed}
use Rattle.session.specs.Calls.{load_vehicle}
use Rattle.session.proofs.State.{allowed_read}
use Rattle.session.proofs.Session.load_vehicle.Goals as goal

pub store_vehicle-requires : goal.store_vehicle-requires
store_vehicle-requires c = allowed_read _ _ c.read_vehicle.ensures (taken_vehicle_allowed VEHICLE_VERSIONS _)

pub returns : goal.returns
unfolding load_vehicle
returns c = c.store_vehicle.ensures _ _ c.read_vehicle.ensures
