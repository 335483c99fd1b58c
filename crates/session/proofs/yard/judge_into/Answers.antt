-- `judge_into` meets its contract: what was found and what the list then holds give the two clauses.
use Prim.Native.Nat.{◌≤◌}
use mathlib.Core.Path.{◌≡◌}
use mathlib.Core.List.{◌++◌}
use native.Mathlib.Omega.{arith}
use lib.ListN.{length, take, drop}
use Rattle.std.proofs.lemmas.Grind.{common_steps}
use Rattle.std.proofs.lemmas.Result.{err_from_is_err_and}
use Rattle.session.proofs.YardWritten.{yard_written, yard_refused}
use Rattle.session.proofs.yard.judge_into.Goals as goal
use Rattle.session.proofs.yard.judge_into.Goals.{After-put_all}

pub returns-in_err-found-clause-is : goal.returns-in_err-found-clause-is
returns-in_err-found-clause-is c =
    let p = err_from_is_err_and c.from_residual.result c.from_residual.ensures.1 in
    rw (p.1, p.2) (yard_refused _ _ _ _ c.in_err-found.ensures).0

pub returns-in_err-found-clause-list : goal.returns-in_err-found-clause-list
returns-in_err-found-clause-list c = (yard_refused _ _ _ _ c.in_err-found.ensures).1

-- what the list holds: so many answers in front
stored : (c : After-put_all) → let found = c.in_ok-found.found in c.put_all.new.list ≡ take found.count found.answers ++ drop found.count c.args.list.now
stored c =
    let found = c.in_ok-found.found in
    let few : found.count ≤ length found.answers = omega (arith, c.in_ok-found.ensures.sized, c.in_ok-found.ensures.most) in
    let count : length (take found.count found.answers) ≡ found.count = grind (arith, common_steps) in
    rw count at c.put_all.ensures

pub returns-clause-is : goal.returns-clause-is
returns-clause-is c = (yard_written _ _ _ _ _ c.in_ok-found.ensures (stored (goal.at.returns-clause-is c).After-put_all)).0

pub returns-clause-list : goal.returns-clause-list
returns-clause-list c = (yard_written _ _ _ _ _ c.in_ok-found.ensures (stored (goal.at.returns-clause-list c).After-put_all)).1
