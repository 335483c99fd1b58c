-- `spread::inertia::deck_inertia` meets its contract: the formula of J, times twelve.
-- Assumes nothing.
use native.Mathlib.Omega.{arith}
use Rattle.section.specs.Fraction.{over, whole, cube, ◌·◌, ◌÷◌}
use Rattle.spread.specs.Inertia.{deck_inertia}
use Rattle.spread.proofs.Moments.{deck_caps}
use Rattle.spread.proofs.inertia.deck_inertia.Goals as goal

pub overflow_mul-result-4 : goal.overflow_mul-result-4
overflow_mul-result-4 c =
    let s = c.args.s in
    omega (arith, deck_caps c.less-net.result s.width.0 s.boards (omega (arith, c.less-net.ensures)) (omega arith) (omega arith))

pub returns-clause-is : goal.returns-clause-is
unfolding deck_inertia cube over whole ◌·◌ ◌÷◌
returns-clause-is c = rw (← c.less-net.ensures) (record { out = omega arith })

pub returns-clause-cap : goal.returns-clause-cap
returns-clause-cap c =
    let s = c.args.s in
    omega (arith, deck_caps c.less-net.result s.width.0 s.boards (omega (arith, c.less-net.ensures)) (omega arith) (omega arith))
