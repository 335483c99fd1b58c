-- `member::formula::Terms::close_stringer` meets its contract: formula (10) with its constants multiplied out.
-- Assumes nothing.
use Prim.Native.Nat.{◌*◌}
use mathlib.Core.Path.{sym}
use native.Mathlib.Nat.{mul-pos, mul-le-mul}
use native.Mathlib.Omega.{arith}
use Rattle.section.specs.Fraction.{over, floor}
use Rattle.section.proofs.Products.{product_fits, product_cap}
use Rattle.member.proofs.Divisors.{half_fits}
use Rattle.member.proofs.Whole.{close_stringer_whole}
use Rattle.member.proofs.formula.Terms.close_stringer.Goals as goal

pub returns-clause-is : goal.returns-clause-is
unfolding over floor
returns-clause-is c =
    let a = c.args in
    let t = a.self in
    rw (c.round_down.ensures.is, c.less-front.ensures)
    (sym (close_stringer_whole a.w a.k t.n t.q.0 t.l.0 a.beta (omega arith) (omega arith) (omega arith)))

pub returns-clause-cap : goal.returns-clause-cap
unfolding over floor
returns-clause-cap c =
    let a = c.args in
    let s = c.requires.2 in
    rw c.round_down.ensures.is (half_fits _ _
    (product_fits (10240 * 43200000 * 16) 10000 tt
    (omega (arith, c.less-front.ensures, product_cap (10240 * 43200000) 16 {x = 10240 * a.w} {y = a.k} (omega arith) (omega arith)))
    (omega arith)).fits
    (mul-le-mul {n₁ = 2} {m₁ = 1} (mul-le-mul {n₁ = 2} {m₁ = 1} (omega (arith, s.load_factor_low)) c.requires.3) (mul-pos s.span_low s.span_low)))
