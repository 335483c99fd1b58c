-- `influence::sum_at` meets its contract. The loop's invariant: the sum is that of the axles passed, and the place is the front axle's less
-- the distances passed.
-- Assumes nothing.
use Prim.Native.Nat.{◌-◌}
use mathlib.Core.Path.{◌≡◌}
use Rattle.section.specs.Units.{weight}
use Rattle.influence.specs.Influence.{behind}
use Rattle.influence.specs.Scaled.{scaled_sum}
use Rattle.influence.proofs.Steps.{passed}
use Rattle.influence.proofs.sum_at.Given as goal

abbrev pub invariant-loop-i : goal.invariant-loop-i
invariant-loop-i l = record {
  summed : l.sum ≡ scaled_sum l.line.base.0 l.line.apex.0 (weight l.axles.weights.now) (behind l.axles.distances.now) l.i l.fn.front.0;
  placed : l.place.0 ≡ l.fn.front.0 - passed l.axles.distances.now l.i;
}
