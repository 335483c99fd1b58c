-- `spread::beta::Wheels::greatest_carried` meets its contract.
-- Assumes nothing.
use mathlib.Core.Path.{refl}
use Rattle.section.specs.Greatest.{top}
use Rattle.section.proofs.Greatest.{top_next}
use Rattle.spread.specs.Scaled.{scaled_carried}
use Rattle.spread.proofs.beta.Wheels.greatest_carried.Goals as goal

pub loop-i-init : goal.loop-i-init
unfolding top
loop-i-init c = refl

pub loop-i-preserved : goal.loop-i-preserved
loop-i-preserved c =
    let w = c.args.self in
    top_next (scaled_carried w.shares w.d w.m w.r) c.loop-i.i c.loop-i.invariant c.carried.ensures c.greater-most.ensures
