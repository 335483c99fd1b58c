-- `member::formula::dowelled` meets its contract: what stands in front of (29), times 1000 · B.
-- Assumes nothing.
use Prim.Native.Nat.{◌*◌}
use native.Mathlib.Omega.{arith}
use Rattle.section.specs.Fraction.{over, whole, tenths, ◌·◌}
use Rattle.member.specs.Formula.{dowelled}
use Rattle.section.proofs.Products.{product_fits, product_cap}
use Rattle.member.proofs.formula.dowelled.Goals as goal

pub overflow_mul-result-4 : goal.overflow_mul-result-4
overflow_mul-result-4 c = product_fits (1000 * 1332000 * 16) 200 tt (product_cap (1000 * 1332000) 16 (product_cap 1000 1332000 (omega arith) (omega arith)) (omega arith)) (omega arith)

pub overflow_mul-result-5 : goal.overflow_mul-result-5
overflow_mul-result-5 c = product_fits (1000 * 1332000 * 16 * 200) 1000 tt (product_cap (1000 * 1332000 * 16) 200 (product_cap (1000 * 1332000) 16 (product_cap 1000 1332000 (omega arith) (omega arith)) (omega arith)) (omega arith)) (omega arith)

pub returns : goal.returns
unfolding dowelled over whole tenths ◌·◌
returns c = omega arith
