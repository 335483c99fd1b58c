-- `influence::vehicle_load` meets its contract: the greatest sum is the greatest of all positions (Load, Greatest), rounded up.
-- Assumes nothing.
use mathlib.Core.Path.{ap, sym, ◌∙◌}
use Rattle.influence.proofs.Steps.{greatest_cap}
use Rattle.influence.proofs.Load.{load_of, load_computed}
use Rattle.influence.proofs.vehicle_load.Goals as goal

pub per_metre-requires : goal.per_metre-requires
per_metre-requires c =
    let pre = c.requires in (pre.triangle, pre.base, rw c.either_way.ensures (greatest_cap pre))

pub returns-clause-is : goal.returns-clause-is
returns-clause-is c =
    c.per_metre.ensures.is ∙
    ap (load_of c.args.line.base.0 c.args.line.apex.0) c.either_way.ensures ∙
    sym (load_computed _ _ _ c.requires.triangle)
