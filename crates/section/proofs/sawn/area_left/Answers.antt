-- `section::sawn::area_left` meets its contract: what `less` gives.
-- Assumes nothing.
use Rattle.section.specs.Sawn.{area_left}
use Rattle.section.proofs.sawn.area_left.Goals as goal

pub returns-clause-is : goal.returns-clause-is
unfolding area_left
returns-clause-is c = c.less.ensures
