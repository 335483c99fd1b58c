-- `section::log::net_diameter` meets its contract: what `less` gives.
-- Assumes nothing.
use Rattle.section.specs.Log.{net_diameter}
use Rattle.section.proofs.log.net_diameter.Goals as goal

pub returns-clause-is : goal.returns-clause-is
unfolding net_diameter
returns-clause-is c = c.less.ensures
