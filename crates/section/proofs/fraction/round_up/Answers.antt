-- `section::fraction::round_up` meets its contract: the library's quotient is the fraction rounded up.
-- Assumes nothing.
use native.Mathlib.Omega.{arith}
use Rattle.section.specs.Fraction.{over, ceiling}
use Rattle.section.proofs.Order.{over_sound}
use Rattle.section.proofs.Rounding.{rounded_up_is, ceiling_div}
use Rattle.section.proofs.fraction.round_up.Goals as goal

pub returns-clause-is : goal.returns-clause-is
unfolding over ceiling
returns-clause-is c = omega (arith, ceiling_div c.args.n c.args.d c.requires)

pub returns-clause-once : goal.returns-clause-once
unfolding over ceiling
returns-clause-once c = rounded_up_is (over_sound _ _ c.requires) (omega (arith, ceiling_div c.args.n c.args.d c.requires))
