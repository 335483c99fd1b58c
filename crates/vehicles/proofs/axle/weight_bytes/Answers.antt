-- `weight_bytes` meets its contract: its test is the definition's.
use native.Mathlib.Omega.{arith}
use Rattle.vehicles.proofs.Axles.{four_bytes, two_bytes}
use Rattle.vehicles.proofs.axle.weight_bytes.Goals as goal

pub returns-then-version-eq2 : goal.returns-then-version-eq2
returns-then-version-eq2 c = record {
  is = omega (arith, four_bytes _ c.if-version-eq2.true);
  cap = omega arith;
}

pub returns-else-version-eq2 : goal.returns-else-version-eq2
returns-else-version-eq2 c = record {
  is = omega (arith, two_bytes _ c.if-version-eq2.false);
  cap = omega arith;
}
