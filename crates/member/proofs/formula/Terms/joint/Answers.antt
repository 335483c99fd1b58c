-- `member::formula::Terms::joint` meets its contract: formulas (29), (33) and (34) with their constants multiplied out, of any front.
-- Assumes nothing.
use Prim.Native.Nat.{◌-◌, ◌*◌, min}
use mathlib.Core.Path.{sym}
use native.Mathlib.Omega.{arith}
use Rattle.section.proofs.Products.{product_fits, product_cap}
use Rattle.member.specs.PermittedLoad.{distribution}
use Rattle.member.proofs.Whole.{joint_whole}
use Rattle.member.proofs.formula.Terms.joint.Goals as goal

pub overflow_mul-self-2 : goal.overflow_mul-self-2
overflow_mul-self-2 c = product_fits 120000 (1000 * (5000 * 5000)) tt (omega arith) (product_cap 1000 (5000 * 5000) (omega arith) (product_cap 5000 5000 (omega arith) (omega arith)))

pub returns-clause-is : goal.returns-clause-is
unfolding distribution
returns-clause-is c =
    let a = c.args in
    let t = a.self in
    rw (c.distributed.ensures.is, c.less.ensures)
    (sym
    (joint_whole a.front t.n t.q.0 a.a a.b t.l.0 a.x.0 a.s.d.0 (2 * a.s.d.0 - min a.s.track.0 a.s.d.0)
    (omega arith)
    (omega arith)
    (omega arith)
    (omega arith)
    (omega arith)
    (omega arith)
    (omega arith)))
