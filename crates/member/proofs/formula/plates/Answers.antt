-- `member::formula::plates` meets its contract: what stands in front of (34), times 1000 · B.
-- Assumes nothing.
use native.Mathlib.Omega.{arith}
use Rattle.section.specs.Fraction.{over, whole, ◌·◌}
use Rattle.member.specs.Formula.{plates}
use Rattle.member.proofs.formula.plates.Goals as goal

pub returns : goal.returns
unfolding plates over whole ◌·◌
returns c = omega arith
