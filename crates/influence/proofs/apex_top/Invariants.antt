-- `influence::apex_top` meets its contract. The loop's invariant: the top is that of the axles passed, and the front axle stands beyond the
-- apex by the distances passed, so that the next axle comes to stand over the apex.
-- Assumes nothing.
use Prim.Native.Nat.{◌+◌}
use mathlib.Core.Path.{◌≡◌}
use lib.ListN.{length}
use Rattle.section.specs.Units.{weight}
use Rattle.influence.specs.Influence.{behind}
use Rattle.influence.proofs.Steps.{passed, top_of}
use Rattle.influence.proofs.apex_top.Given as goal

abbrev pub invariant-loop-j : goal.invariant-loop-j
invariant-loop-j l = record {
  top_so_far : l.top.0 ≡ top_of l.line.base.0 l.line.apex.0 (weight l.axles.weights.now) (behind l.axles.distances.now) (length l.axles.weights.now) l.j;
  over_apex : l.front.0 ≡ l.line.apex.0 + passed l.axles.distances.now l.j;
}
