-- `between::order::order_answer` meets its contract. The loop's invariant: none of the first i pairs of records has a fault.
-- Assumes nothing.
use Prim.Native.Nat.{ℕ}
use mathlib.Core.Path.{◌≡◌, sym, ap, ◌∙◌}
use mathlib.Core.Bool.{Bool}
use native.Mathlib.Omega.{arith}
use Rattle.rating.specs.Surveyed.{member_at}
use Rattle.files.specs.Reading.{◌unless◌}
use Rattle.files.proofs.Faults.{clear_more, fault_at}
use Rattle.files.proofs.Tests.{fails, holds}
use Rattle.member.specs.declared.record.Survey.{Survey}
use Rattle.between.specs.Order.{order_fault}
use Rattle.between.proofs.Orders.{count_differs, count_alike}
use Rattle.between.proofs.order.order_answer.Goals as goal

abbrev fault : (first second : Survey) (i : ℕ) → ℕ
fault first second i = order_fault (member_at first.members i) (member_at second.members i)

pub returns-then-first-second : goal.returns-then-first-second
returns-then-first-second c = rw c.at.ensures (sym (count_differs _ _ _ _ c.if-first-second.true))

pub loop-i-preserved : goal.loop-i-preserved
loop-i-preserved c =
    let a = c.args in
    let good = ap (λ (b : Bool). 15 unless b) (holds c.is_ordered.ensures c.if-not-is_ordered.false) in
    clear_more (fault a.first a.second) 1 c.loop-i.i c.loop-i.invariant good

pub returns : goal.returns
returns c =
    let ended : c.loop-i.i ≡ c.args.first.count = omega arith in
    sym (rw ended at c.loop-i.invariant) ∙ sym (count_alike _ _ _ _ c.if-first-second.false)

pub returns-then-not-is_ordered : goal.returns-then-not-is_ordered
returns-then-not-is_ordered c =
    let a = c.args in
    let bad = ap (λ (b : Bool). 15 unless b) (fails c.is_ordered.ensures c.if-not-is_ordered.true) in
    rw c.at-then-not-is_ordered.ensures (sym (fault_at (fault a.first a.second) 1 c.loop-i.i a.first.count 15 (omega arith) c.loop-i.invariant bad (omega arith)) ∙ sym (count_alike _ _ _ _ c.if-first-second.false))
