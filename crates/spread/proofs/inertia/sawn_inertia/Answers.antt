-- `spread::inertia::sawn_inertia` meets its contract: W in sixths times the net height is W times half of it, in twelfths.
-- Assumes nothing.
use Rattle.spread.specs.Inertia.{sawn_inertia}
use Rattle.spread.proofs.Moments.{inertia_in_twelfths}
use Rattle.spread.proofs.inertia.sawn_inertia.Goals as goal

pub returns-clause-is : goal.returns-clause-is
unfolding sawn_inertia
returns-clause-is c = rw c.net_height.ensures (inertia_in_twelfths _ _ c.sawn_modulus_sixths.ensures.is)
