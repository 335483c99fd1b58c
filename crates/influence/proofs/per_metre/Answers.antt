-- `influence::per_metre` meets its contract: 200 × (sum / scale) / (base / 2) is 400 × sum over scale × base.
-- Assumes nothing.
use mathlib.Core.Path.{ap, ◌∙◌}
use native.Mathlib.Nat.{div-le_self, lt_of_le_of_lt}
use native.Mathlib.Omega.{arith}
use Rattle.section.specs.Fraction.{over, ceiling}
use Rattle.influence.proofs.Steps.{divisor_cap, load_over}
use Rattle.influence.proofs.per_metre.Goals as goal

pub returns : goal.returns
unfolding over ceiling
returns c =
    let line = c.args.line in record {
      is = c.round_up.ensures.is ∙ ap ceiling (load_over _ _ _ (omega arith) (omega arith));
      cap = rw c.round_up.ensures.is
          (lt_of_le_of_lt (div-le_self _ _) (omega (arith, divisor_cap line.base.0 line.apex.0 (omega arith) (omega arith))));
    }
