-- `influence::sum_at` meets its contract.
-- Assumes nothing.
use Prim.Native.Nat.{◌+◌, ◌*◌}
use lib.ListN.{length}
use mathlib.Core.Path.{◌≡◌, refl, sym, ◌∙◌}
use native.Mathlib.Omega.{arith}
use Rattle.section.specs.Units.{weight}
use Rattle.section.proofs.Products.{product_fits}
use Rattle.influence.specs.Influence.{total, behind}
use Rattle.influence.specs.Scaled.{scaled_sum}
use Rattle.influence.proofs.Steps.{passed_next, behind_passed, sum_next, sum_rest, height_cap, sum_cap}
use Rattle.influence.proofs.sum_at.Goals as goal

pub loop-i-init : goal.loop-i-init
unfolding scaled_sum total
loop-i-init c = record { summed = refl; placed = omega arith }

pub overflow_mul-sum : goal.overflow_mul-sum
overflow_mul-sum c =
    product_fits 200000 100000000 tt (c.requires.weights c.loop-i.i (omega arith))
    (rw c.scaled_height.ensures (height_cap _ (omega arith) (omega arith)))

-- the sum with one axle more, whose place is that of the front axle less all the distances to it
sum_of :
    (c : goal.After-scaled_height) →
    let a = c.args in
    c.loop-i.sum + weight a.axles.weights.now c.loop-i.i * c.scaled_height.result ≡
    scaled_sum a.line.base.0 a.line.apex.0 (weight a.axles.weights.now) (behind a.axles.distances.now) (c.loop-i.i + 1) a.front.0
sum_of c =
    let a = c.args in
    sum_next _ _ (weight a.axles.weights.now) (behind a.axles.distances.now) c.loop-i.i _
    c.loop-i.invariant.summed refl c.scaled_height.ensures
    (omega (arith, behind_passed a.axles.distances.now c.loop-i.i))

pub overflow_add-sum : goal.overflow_add-sum
overflow_add-sum c =
    omega (arith, sum_of c, sum_cap c.requires (c.loop-i.i + 1) c.args.front.0 (omega arith), c.requires.axles)

pub loop-i-preserved : goal.loop-i-preserved
loop-i-preserved c = record {
  summed = sum_of c;
  placed = omega (arith, passed_next c.args.axles.distances.now c.loop-i.i);
}

pub returns-after-loop-i : goal.returns-after-loop-i
returns-after-loop-i c =
    let ended : c.loop-i.i ≡ length c.args.axles.weights.now = omega arith in
    rw ended at c.loop-i.invariant.summed

-- this axle and all behind it are not on the base yet, and add nothing
pub returns-then-place-eq0 : goal.returns-then-place-eq0
returns-then-place-eq0 c =
    let a = c.args in
    c.loop-i.invariant.summed ∙
    sym
    (sum_rest _ _ (weight a.axles.weights.now) a.axles.distances.now c.loop-i.i _ a.front.0 (omega arith)
    (omega (arith, behind_passed a.axles.distances.now c.loop-i.i)))
