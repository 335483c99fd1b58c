-- `spread::shares::shares_of` meets its contract: the tests that led to each answer say which spread it is.
-- Assumes nothing.
use native.Mathlib.Omega.{arith}
use Rattle.spread.proofs.Spreads.{spread_of_three, spread_of_five, spread_of_seven}
use Rattle.spread.proofs.shares.shares_of.Goals as goal

pub returns-then-k-lt-SEVEN_BELOW : goal.returns-then-k-lt-SEVEN_BELOW
returns-then-k-lt-SEVEN_BELOW c = rw (spread_of_seven c.args.k (omega arith)) c.seven_stringers.ensures

pub returns-then-k-lt10000 : goal.returns-then-k-lt10000
returns-then-k-lt10000 c = rw (spread_of_five c.args.k (omega arith) (omega arith)) c.five_stringers.ensures

pub returns : goal.returns
returns c = rw (spread_of_three c.args.k (omega arith)) c.three_stringers.ensures
