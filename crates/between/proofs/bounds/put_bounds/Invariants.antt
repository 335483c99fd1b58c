-- `between::bounds::put_bounds` meets its contract. The loop's invariant: the list is that of the members passed.
-- Assumes nothing.
use Prim.Native.Nat.{◌*◌}
use mathlib.Core.Path.{◌≡◌}
use lib.ListN.{get_or}
use Rattle.between.specs.Between.{bounds_written}
use Rattle.between.proofs.bounds.put_bounds.Given as goal

abbrev pub invariant-loop-i : goal.invariant-loop-i
invariant-loop-i l = l.list ≡ bounds_written (λ k. get_or l.low (2 * k) 0) (λ k. get_or l.high (2 * k) 0) l.i l.initial.list
