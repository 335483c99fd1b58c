-- `between::bounds::put_bounds` meets its contract. The loop's invariant: the list is that of the members passed.
-- Assumes nothing.
use native.Mathlib.Omega.{arith}
use Rattle.between.proofs.Lists.{bounds_none, bounds_next}
use Rattle.between.proofs.bounds.put_bounds.Goals as goal

pub loop-i-init : goal.loop-i-init
loop-i-init c = bounds_none _ _ _

pub loop-i-preserved : goal.loop-i-preserved
loop-i-preserved c = rw c.loop-i.invariant (bounds_next _ _ _ c.loop-i.i (omega (arith, c.requires.2)))
