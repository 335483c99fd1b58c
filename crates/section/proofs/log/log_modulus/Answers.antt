-- `section::log::log_modulus` meets its contract: the table is read at the net diameter, from 13 on.
-- Assumes nothing.
use native.Mathlib.Omega.{arith}
use borrow.Author.Tests.{lt-leb, le-leb}
use Rattle.section.specs.Log.{log_modulus, log_table}
use Rattle.section.proofs.Table.{at_most_lem}
use Rattle.section.proofs.log.log_modulus.Goals as goal

pub returns-then-net-lt13-clause-is : goal.returns-then-net-lt13-clause-is
unfolding log_modulus
returns-then-net-lt13-clause-is c = simp (lt-leb _ _ c.if-net-lt13.true)

pub returns-clause-is : goal.returns-clause-is
unfolding log_modulus log_table
returns-clause-is c = rw (le-leb 13 c.args.net.0 (omega arith))

pub returns-clause-cap : goal.returns-clause-cap
returns-clause-cap c = search at_most_lem
