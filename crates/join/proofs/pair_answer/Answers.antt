-- `pair_answer` meets its contract. The loop's invariant: none of the first i pairs of records has a fault.
-- Assumes nothing.
use Prim.Native.Nat.{◌<◌}
use mathlib.Core.Path.{◌≡◌, sym, ap₂, ◌∙◌}
use native.Mathlib.Omega.{arith}
use Rattle.surveys.specs.SurveyFile.{count_of}
use Rattle.files.specs.Fault.{fault_of}
use Rattle.files.proofs.Faults.{clear_more, fault_at, some_fault, fault_clear, fault_found}
use Rattle.join.specs.Join.{join_fault, pair_fault}
use Rattle.join.proofs.Pairs.{count_differs, count_alike}
use Rattle.join.proofs.pair_answer.Goals as goal
use Rattle.join.proofs.pair_answer.Goals.{After-join_fault, Else-count-count_of}

pub returns-then-count-count_of : goal.returns-then-count-count_of
returns-then-count-count_of c =
    rw c.at.ensures (sym (count_differs _ _ (λ e. c.if-count-count_of.true (c.count_of-count.ensures.0 ∙ e ∙ sym c.count_of.ensures.0))))

-- the counts are alike
alike : (c : Else-count-count_of) → let a = c.args in count_of a.first.now ≡ count_of a.second.now
alike c = sym c.count_of-count.ensures.0 ∙ c.if-count-count_of.false ∙ c.count_of.ensures.0

-- the answer of a turn is the fault of its pair
found : (c : After-join_fault) → let a = c.args in fault_of c.join_fault.result ≡ pair_fault a.first.now a.second.now c.loop-i.i
found c = c.join_fault.ensures ∙ ap₂ join_fault c.record_at.ensures c.record_at-in-loop-i.ensures

pub loop-i-preserved : goal.loop-i-preserved
loop-i-preserved c =
    let a = c.args in
    let good = fault_clear c.in_default.is (found (goal.at.loop-i-preserved c).After-join_fault) in
    clear_more (pair_fault a.first.now a.second.now) 1 c.loop-i.i c.loop-i.invariant good

pub returns-in-Err : goal.returns-in-Err
returns-in-Err c =
    let at = goal.at.returns-in-Err c in
    let a = c.args in
    let within : c.loop-i.i < count_of a.first.now = omega (arith, c.count_of-count.ensures.0) in
    let bad = fault_found _ c.in-Err.is (found at.After-join_fault) in
    rw c.at-in-Err.ensures (sym (fault_at (pair_fault a.first.now a.second.now) 1 c.loop-i.i (count_of a.first.now) _ within c.loop-i.invariant bad (some_fault _)) ∙ sym (count_alike _ _ (alike at.Else-count-count_of)))

pub returns : goal.returns
returns c =
    let ended : c.loop-i.i ≡ count_of c.args.first.now = omega (arith, c.count_of-count.ensures.0) in
    sym (rw ended at c.loop-i.invariant) ∙ sym (count_alike _ _ (alike (goal.at.returns c).Else-count-count_of))
