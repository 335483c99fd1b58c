-- `coupled` meets its contract. The loop's invariant: the first's axles and the first i of the second are the coupled vehicle's, and 0 stands after
-- them.
-- Assumes nothing.
use mathlib.Core.Path.{refl}
use native.Mathlib.Omega.{arith}
use Rattle.couple.proofs.Axles.{weights_ahead, distances_ahead, weight_put, distance_put}
use Rattle.couple.proofs.coupled.Goals as goal

pub loop-i-init : goal.loop-i-init
loop-i-init c =
    let a = c.args in
    (weights_ahead a.first a.second c.requires.0, distances_ahead a.first a.second a.gap.0 c.requires.0)

pub loop-i-preserved : goal.loop-i-preserved
loop-i-preserved c =
    let a = c.args in
    let i = c.loop-i.i in (
      weight_put a.first a.second i (omega (arith, c.requires.1)) _ _ c.loop-i.invariant.0 refl,
      distance_put a.first a.second i (omega (arith, c.requires.1)) a.gap.0 _ _ c.loop-i.invariant.1 c.distance_behind.ensures,
    )
