-- `member::formula::Terms::stringer` meets its contract: formula (13) with its constants multiplied out.
-- Assumes nothing.
use Prim.Native.Nat.{◌-◌, ◌*◌, min}
use mathlib.Core.Path.{sym}
use native.Mathlib.Omega.{arith}
use Rattle.member.specs.PermittedLoad.{distribution}
use Rattle.member.proofs.Whole.{stringer_whole}
use Rattle.member.proofs.formula.Terms.stringer.Goals as goal

pub returns-clause-is : goal.returns-clause-is
unfolding distribution
returns-clause-is c =
    let a = c.args in
    let t = a.self in
    rw (c.distributed.ensures.is, c.less.ensures)
    (sym
    (stringer_whole a.w a.k t.n t.q.0 t.l.0 a.s.d.0 (2 * a.s.d.0 - min a.s.track.0 a.s.d.0) (omega arith)
    (omega arith)
    (omega arith)
    (omega arith)))
