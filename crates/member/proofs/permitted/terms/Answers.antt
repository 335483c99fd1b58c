-- `member::permitted::terms` meets its contract: an allowed member's terms are in range.
-- Assumes nothing.
use native.Mathlib.Omega.{arith}
use Rattle.member.proofs.Quantities.{sizes}
use Rattle.member.proofs.permitted.terms.Goals as goal

pub returns-clause-sizes : goal.returns-clause-sizes
returns-clause-sizes c = let s = sizes c.requires c.args.class in omega (arith, s)
