-- `member::formula::Terms::distributed` meets its contract: a quotient by n (2d − e), and then by m, is the quotient by their product.
-- Assumes nothing.
use native.Mathlib.Nat.{div-div-eq-div-mul, div-le_self, lt_of_le_of_lt}
use native.Mathlib.Omega.{arith}
use Rattle.section.specs.Fraction.{over, floor}
use Rattle.member.proofs.Divisors.{Divisor, divisor, share_fits}
use Rattle.member.proofs.formula.Terms.distributed.Goals as goal

pub returns-clause-is : goal.returns-clause-is
unfolding over floor
returns-clause-is c = rw (c.round_down.ensures.is, c.quotient.ensures, c.lesser-e.ensures) (div-div-eq-div-mul _ _ _)

pub returns-clause-cap : goal.returns-clause-cap
unfolding over floor
returns-clause-cap c =
    let s : Divisor c.args.self.n c.args.s.d.0 c.lesser-e.result = divisor _ _ _ (omega arith) (omega arith) (omega arith) (omega arith) (omega (arith, c.lesser-e.ensures)) in
    rw (c.round_down.ensures.is, c.quotient.ensures)
    (lt_of_le_of_lt (div-le_self _ _) (share_fits _ _ _ c.ranges.x.fits s.above_0 (omega (arith, s.at_least))))
