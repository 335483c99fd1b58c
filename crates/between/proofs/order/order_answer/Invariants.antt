-- `between::order::order_answer` meets its contract. The loop's invariant: none of the first i pairs of records has a fault.
-- Assumes nothing.
use Rattle.std.specs.Prelude.{Ok}
use mathlib.Core.Path.{◌≡◌}
use Rattle.rating.specs.Surveyed.{member_at}
use Rattle.files.specs.Reading.{first_fault}
use Rattle.files.specs.Words.{each}
use Rattle.between.specs.Order.{order_fault}
use Rattle.between.proofs.order.order_answer.Given as goal

abbrev pub invariant-loop-i : goal.invariant-loop-i
invariant-loop-i l = first_fault 1 (each (λ i. order_fault (member_at l.first.members i) (member_at l.second.members i)) l.i) ≡ Ok tt
