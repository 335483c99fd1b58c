-- `section::fraction::round_down` meets its contract: the quotient is the fraction rounded down.
-- Assumes nothing.
use mathlib.Core.Path.{refl}
use Rattle.section.specs.Fraction.{over, floor}
use Rattle.section.proofs.Rounding.{rounded_down}
use Rattle.section.proofs.fraction.round_down.Goals as goal

pub returns : goal.returns
unfolding over floor
returns c = record {
  is = refl;
  once = rounded_down (over c.args.n c.args.d) (record { above_0 = c.requires });
}
