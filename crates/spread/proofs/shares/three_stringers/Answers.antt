-- `spread::shares::three_stringers` meets its contract: the document's polynomials times 10,000.
-- Assumes nothing.
use native.Mathlib.Omega.{arith}
use Rattle.spread.proofs.Scaled.{written}
use Rattle.spread.proofs.Spreads.{three_scaled, three_bounded}
use Rattle.spread.proofs.shares.three_stringers.Goals as goal

pub returns : goal.returns
returns c = let both = written (omega arith) (omega arith) (omega arith) (omega arith) (omega arith) (three_scaled c.args.k) (three_bounded c.args.k c.requires) in record { is = both.0; bounded = both.1 }
