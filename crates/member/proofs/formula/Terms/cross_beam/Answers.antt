-- `member::formula::Terms::cross_beam` meets its contract: formula (30) with its constants multiplied out.
-- Assumes nothing.
use mathlib.Core.Path.{sym}
use native.Mathlib.Nat.{mul-pos, mul-le-mul}
use native.Mathlib.Omega.{arith}
use Rattle.section.specs.Fraction.{over, floor}
use Rattle.member.proofs.Divisors.{half_fits}
use Rattle.member.proofs.Whole.{cross_beam_whole}
use Rattle.member.proofs.formula.Terms.cross_beam.Goals as goal

pub returns-clause-is : goal.returns-clause-is
unfolding over floor
returns-clause-is c =
    let a = c.args in
    let t = a.self in
    rw (c.round_down.ensures.is, c.less-front.ensures)
    (sym (cross_beam_whole a.w a.k t.n t.q.0 t.l.0 a.x.0 (omega arith) (omega arith) (omega arith)))

pub returns-clause-cap : goal.returns-clause-cap
unfolding over floor
returns-clause-cap c =
    let p = c.requires in
    rw c.round_down.ensures.is (half_fits _ _ (omega arith)
    (mul-le-mul {n₁ = 2} {m₁ = 1} (omega (arith, p.2.load_factor_low)) (mul-pos p.3.low p.2.span_low)))
