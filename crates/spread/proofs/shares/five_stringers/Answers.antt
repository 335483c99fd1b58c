-- `spread::shares::five_stringers` meets its contract: the document's polynomials times 10,000².
-- Assumes nothing.
use native.Mathlib.Omega.{arith}
use Rattle.spread.proofs.Scaled.{written}
use Rattle.spread.proofs.Spreads.{five_scaled, five_bounded}
use Rattle.spread.proofs.shares.five_stringers.Goals as goal

pub returns : goal.returns
returns c = let both = written (omega arith) (omega arith) (omega arith) (omega arith) (omega arith) (five_scaled c.args.k c.requires) (five_bounded c.args.k c.requires) in record { is = both.0; bounded = both.1 }
