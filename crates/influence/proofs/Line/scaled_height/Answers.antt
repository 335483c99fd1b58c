-- `influence::Line::scaled_height` meets its contract: the branches are the two sides of the triangle.
-- Assumes nothing.
use mathlib.Core.Path.{sym}
use native.Mathlib.Nat.{le_of_lt}
use Rattle.influence.proofs.Apex.{rising_side, falling_side}
use Rattle.influence.proofs.Line.scaled_height.Goals as goal

pub returns-then-place-self : goal.returns-then-place-self
returns-then-place-self c = sym (rising_side _ _ _ c.if-place-self.true)

pub returns-else-place-self : goal.returns-else-place-self
returns-else-place-self c = rw c.beyond.ensures (sym (falling_side _ _ _ (le_of_lt c.if-place-self.false)))
