-- `spread::inertia::tiered_inertia` meets its contract: the top log's and the sound ones', added.
-- Assumes nothing.
use Rattle.spread.specs.Inertia.{tiered_inertia}
use Rattle.spread.proofs.Moments.{tiers_added}
use Rattle.spread.proofs.inertia.tiered_inertia.Goals as goal

pub returns-clause-is : goal.returns-clause-is
unfolding tiered_inertia
returns-clause-is c =
    rw (c.tiered.ensures.is, ← c.net_diameter.ensures.is)
    (tiers_added _ _ _ c.log_inertia-top.ensures.is c.log_inertia.ensures.is)
