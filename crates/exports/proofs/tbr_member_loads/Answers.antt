-- `tbr_member_loads` meets its contract: the answers of the loads and of the judgement pick the case of its definitions.
use mathlib.Core.Path.{◌≡◌}
use native.Mathlib.Omega.{arith}
use Rattle.exports.specs.Loads.{member_loads, member_list}
use Rattle.exports.proofs.Files.{refused, counted, filled}
use Rattle.exports.proofs.tbr_member_loads.Goals as goal
use Rattle.exports.proofs.tbr_member_loads.Goals.{After-loads_of, In-Err}

pub count_of-requires : goal.count_of-requires
count_of-requires c = omega (arith, counted _ c.args.vehicle.now c.args.list.now c.load_files-both.result c.load_files-both.ensures c.in-Ok.is)

both : (c : After-loads_of) → let a = c.args in (c.loads_of.result ≡ member_loads a.survey.now a.vehicle.now a.list.now) × (c.judge.new.list ≡ member_list a.survey.now a.vehicle.now a.list.now)
both c =
    let a = c.args in
    filled _ a.vehicle.now a.list.now c.load_files-both.result c.load_files-both.ensures c.in-Ok.is c.judge.result _ _ c.judge.ensures.is c.judge.ensures.list (rw c.count_of.ensures.0 at c.loads_of.ensures)

pub returns-in-Ok-clause-is : goal.returns-in-Ok-clause-is
returns-in-Ok-clause-is c = (both (goal.at.returns-in-Ok-clause-is c).After-loads_of).0

pub returns-in-Ok-clause-list : goal.returns-in-Ok-clause-list
returns-in-Ok-clause-list c = (both (goal.at.returns-in-Ok-clause-list c).After-loads_of).1

pub returns-in-Err-clause-is : goal.returns-in-Err-clause-is
returns-in-Err-clause-is c =
    (refused _ c.args.vehicle.now c.args.list.now c.load_files-both.result c.load_files-both.ensures _ _ c.in-Err.is c.loads_of-in-Err.ensures).0

pub returns-in-Err-clause-list : goal.returns-in-Err-clause-list
returns-in-Err-clause-list c =
    (refused _ c.args.vehicle.now c.args.list.now c.load_files-both.result c.load_files-both.ensures _ _ c.in-Err.is c.loads_of-in-Err.ensures).1
