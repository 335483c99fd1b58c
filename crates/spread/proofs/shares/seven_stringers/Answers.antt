-- `spread::shares::seven_stringers` meets its contract: the document's polynomials times 10,000³.
-- Assumes nothing.
use native.Mathlib.Omega.{arith}
use Rattle.spread.proofs.Scaled.{written}
use Rattle.spread.proofs.Spreads.{seven_scaled, seven_bounded}
use Rattle.spread.proofs.shares.seven_stringers.Goals as goal

pub returns : goal.returns
returns c = let both = written (omega arith) (omega arith) (omega arith) (omega arith) (omega arith) (seven_scaled c.args.k c.requires) (seven_bounded c.args.k c.requires) in record { is = both.0; bounded = both.1 }
