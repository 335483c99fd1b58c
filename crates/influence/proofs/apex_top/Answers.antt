-- `influence::apex_top` meets its contract.
-- Assumes nothing.
use lib.ListN.{length}
use mathlib.Core.Path.{◌≡◌, refl}
use native.Mathlib.Omega.{arith}
use Rattle.section.specs.Greatest.{top}
use Rattle.section.specs.Units.{weight}
use Rattle.influence.specs.Influence.{total, behind}
use Rattle.influence.specs.Scaled.{apex_top}
use Rattle.influence.proofs.Steps.{passed_next, passed_cap, behind_passed, apex_next, higher}
use Rattle.influence.proofs.apex_top.Goals as goal

pub loop-j-init : goal.loop-j-init
unfolding top total
loop-j-init c = record { top_so_far = refl; over_apex = omega arith }

pub further-front-requires : goal.further-front-requires
further-front-requires c = omega (arith, passed_cap c.requires c.loop-j.j (omega arith), c.requires.axles)

pub loop-j-preserved : goal.loop-j-preserved
loop-j-preserved c = let a = c.args in record {
  top_so_far = apex_next _ _ (weight a.axles.weights.now) (behind a.axles.distances.now) _ c.loop-j.j
      (rw c.max-top.ensures (higher _ _)) c.loop-j.invariant.top_so_far c.sum_at-sum.ensures
      (omega (arith, behind_passed a.axles.distances.now c.loop-j.j));
  over_apex = omega (arith, passed_next a.axles.distances.now c.loop-j.j);
}

pub returns : goal.returns
unfolding apex_top
returns c =
    let ended : c.loop-j.j ≡ length c.args.axles.weights.now = omega arith in
    rw ended at c.loop-j.invariant.top_so_far
