-- `section::log::tiered_modulus` meets its contract: the table at the net diameter, and at the whole one for the sound logs.
-- Assumes nothing.
use Rattle.section.specs.Log.{tiered_modulus}
use Rattle.section.proofs.log.tiered_modulus.Goals as goal

pub returns : goal.returns
unfolding tiered_modulus
returns c = cc
