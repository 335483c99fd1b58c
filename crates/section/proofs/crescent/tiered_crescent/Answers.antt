-- `section::crescent::tiered_crescent` meets its contract: the sound logs have no crescent.
-- Assumes nothing.
use Rattle.section.specs.Crescent.{tiered_crescent}
use Rattle.section.proofs.Crescents.{sound_crescent}
use Rattle.section.proofs.crescent.tiered_crescent.Goals as goal

pub returns-clause-is : goal.returns-clause-is
unfolding tiered_crescent
returns-clause-is c = cc (sound_crescent c.args.s.diameter.0)
