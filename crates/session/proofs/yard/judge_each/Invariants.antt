-- `judge_each` meets its contract: each turn adds a vehicle to what is kept.
use Rattle.session.specs.YardRun.{Going}
use Rattle.session.proofs.yard.judge_each.Given as goal

abbrev pub invariant-loop-i : goal.invariant-loop-i
invariant-loop-i l = Going l.session l.yard l.i l.run
