-- `member::formula::keyed` meets its contract: what stands in front of (33), times 1000 · B.
-- Assumes nothing.
use Prim.Native.Nat.{◌*◌}
use native.Mathlib.Omega.{arith}
use Rattle.section.specs.Fraction.{over, whole, tenths, ◌·◌}
use Rattle.member.specs.Formula.{keyed}
use Rattle.section.proofs.Products.{product_fits, product_cap}
use Rattle.member.proofs.formula.keyed.Goals as goal

pub overflow_mul-result-4 : goal.overflow_mul-result-4
overflow_mul-result-4 c = product_fits (1120000 * 10000 * 16) 1000 tt (product_cap (1120000 * 10000) 16 (product_cap 1120000 10000 (omega arith) (omega arith)) (omega arith)) (omega arith)

pub returns : goal.returns
unfolding keyed over whole tenths ◌·◌
returns c = omega arith
