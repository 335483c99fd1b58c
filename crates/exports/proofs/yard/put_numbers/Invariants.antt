-- `put_numbers` meets its contract. The loop's invariant: the list has the numbers of the answers passed, and then what was there.
use mathlib.Core.Path.{◌≡◌}
use Rattle.exports.proofs.Rows.{rows}
use Rattle.exports.proofs.yard.put_numbers.Given as goal

abbrev pub invariant-loop-i : goal.invariant-loop-i
invariant-loop-i l = l.list ≡ rows l.answers l.initial.list l.i
