-- `coupled` meets its contract. The loop's invariant: the first's axles and the first i of the second are the coupled vehicle's, and 0 stands after
-- them.
-- Assumes nothing.
use Prim.Native.Nat.{◌+◌}
use mathlib.Core.Path.{◌≡◌}
use Rattle.couple.proofs.Axles.{weights_to, distances_to}
use Rattle.couple.proofs.coupled.Given as goal

abbrev pub invariant-loop-i : goal.invariant-loop-i
invariant-loop-i l = (l.weights ≡ weights_to l.first l.second (l.first.axles + l.i)) × (l.distances ≡ distances_to l.first l.second l.gap.0 (l.first.axles + l.i))
