-- `spread::inertia::log_inertia` meets its contract: W times half the net diameter, times twelve.
-- Assumes nothing.
use native.Mathlib.Omega.{arith}
use Rattle.section.specs.Fraction.{over, whole, ◌·◌, ◌÷◌}
use Rattle.spread.specs.Inertia.{inertia, log_inertia}
use Rattle.spread.proofs.inertia.log_inertia.Goals as goal

pub returns-clause-is : goal.returns-clause-is
unfolding log_inertia inertia over whole ◌·◌ ◌÷◌
returns-clause-is c = rw (← c.log_modulus.ensures.is) (record { out = omega arith })
