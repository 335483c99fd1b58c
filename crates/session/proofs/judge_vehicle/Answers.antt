-- `judge_vehicle` meets its contract: a vehicle that is refused answers itself; else both are allowed and the list is long enough.
use mathlib.Core.Path.{◌≡◌, sym, ◌∙◌}
use native.Mathlib.Omega.{arith}
use Rattle.std.specs.Prelude.{Ok}
use Rattle.std.proofs.lemmas.Result.{err_from_is_err_and}
use Rattle.files.proofs.Faults.{taken_ok, taken_err}
use Rattle.vehicles.specs.VehicleFile.{VEHICLE_VERSIONS, read_vehicle}
use Rattle.vehicles.proofs.Vehicles.{taken_vehicle_allowed}
use Rattle.session.proofs.State.{alone_refused, alone_taken}
use Rattle.session.proofs.judge_vehicle.Goals as goal
use Rattle.session.proofs.judge_vehicle.Goals.{In_ok-vehicle}

pub returns-in_err-vehicle : goal.returns-in_err-vehicle
returns-in_err-vehicle c =
    let p = err_from_is_err_and c.from_residual.result c.from_residual.ensures.1 in
    let t = taken_err _ _ _ (sym c.read_vehicle.ensures ∙ c.in_err-vehicle.was) in
    rw (p.1, p.2) (sym (alone_refused _ _ _ t))

read : (c : In_ok-vehicle) → let bytes = c.args.vehicle.now in ((read_vehicle bytes).answer ≡ Ok tt) × ((read_vehicle bytes).vehicle ≡ c.in_ok-vehicle.vehicle)
read c = taken_ok _ _ _ (sym c.read_vehicle.ensures ∙ c.in_ok-vehicle.was)

pub judge-requires : goal.judge-requires
judge-requires c =
    let t = read (goal.at.judge-requires c).In_ok-vehicle in
    (c.requires, rw (← t.1) (taken_vehicle_allowed VEHICLE_VERSIONS _ t.0), omega (arith, c.requires.count))

pub returns : goal.returns
returns c =
    let t = read (goal.at.returns c).In_ok-vehicle in
    rw (c.judge.ensures.is, ← t.1) (sym (alone_taken _ _ c.requires t.0))
