-- `rating::judging::rate` meets its contract: the two loads, and the verdict and the margin of the two.
-- Assumes nothing.
use mathlib.Core.Path.{◌∙◌}
use mir.Syntax.{w64}
use mir.Facts.{to_z-of_z}
use Rattle.rating.proofs.Turns.{rating_is}
use Rattle.rating.proofs.judging.rate.Goals as goal

pub returns : goal.returns
returns c =
    rating_is c.args.m c.args.v c.permitted_load-permitted.ensures.is c.vehicle_load_on-load.ensures.is
    c.verdict_of.ensures
    (to_z-of_z {w = w64} (record { sfits = c.margin_of.type_inv }) ∙ c.margin_of.ensures)
