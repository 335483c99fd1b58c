-- `pair_answer` meets its contract. The loop's invariant: none of the first i pairs of records has a fault.
-- Assumes nothing.
use Rattle.std.specs.Prelude.{Ok}
use mathlib.Core.Path.{◌≡◌}
use Rattle.files.specs.Reading.{first_fault}
use Rattle.join.specs.Join.{pair_faults}
use Rattle.join.proofs.pair_answer.Given as goal

abbrev pub invariant-loop-i : goal.invariant-loop-i
invariant-loop-i l = first_fault 1 (pair_faults l.first l.second l.i) ≡ Ok tt
