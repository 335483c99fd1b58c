-- `first_fault` meets its contract. The records' invariant: none of the first i records has a fault. The fields' invariant: of
-- the first f fields the unused ones are 0, and `good` says whether the used ones are in range and A is at most B.
use Prim.Native.Nat.{ℕ}
use mathlib.Core.Path.{◌≡◌, refl, sym, ap, ◌∙◌}
use mathlib.Core.List.{List}
use mathlib.Core.Bool.{and-true}
use native.Mathlib.Numerals.{add-one}
use native.Mathlib.Omega.{arith}
use Rattle.member.specs.Fields.{FIELDS}
use Rattle.surveys.specs.SurveyFile.{record_at, member_fault}
use Rattle.files.proofs.Tests.{fails, holds}
use Rattle.files.proofs.Faults.{clear_more, fault_at, some_fault, fault_clear, fault_found}
use Rattle.surveys.proofs.Members.{ranged_more, code_first, unused_next, range_last, no_fault}
use Rattle.surveys.proofs.file.first_fault.Goals as goal

abbrev fault : List ℕ → ℕ → ℕ
fault bytes i = member_fault (record_at bytes i)

pub records-init : goal.records-init
records-init c = (refl, refl)

pub loop-f-init : goal.loop-f-init
loop-f-init c = (c.records.invariant.0, refl, c.is_ordered-good.ensures ∙ sym (and-true _))

pub loop-f-preserved : goal.loop-f-preserved
loop-f-preserved c =
    let zero = holds c.is_zeroed.ensures c.if-not-is_zeroed.false in
    (c.loop-f.invariant.0, rw (add-one, c.loop-f.invariant.1, zero), ranged_more _ c.loop-f.f c.loop-f.good c.is_within-good.result c.loop-f.invariant.2 c.is_within-good.ensures)

pub records-preserved : goal.records-preserved
records-preserved c =
    let e : c.loop-f.f ≡ FIELDS = omega arith in
    let zero = rw e at c.loop-f.invariant.1 in
    let good = holds (rw e at c.loop-f.invariant.2) c.if-not-good.false in
    let none = ap member_fault (sym c.record_at-m.ensures) ∙ no_fault _ (fault_clear c.in_default.is c.code_fault.ensures) zero good in
    (c.loop-f.invariant.0, clear_more (fault c.args.bytes.now) 1 c.records.i c.records.invariant.1 none)

pub returns-after-records : goal.returns-after-records
returns-after-records c =
    let e : c.records.i ≡ c.args.count = omega arith in
    c.records.invariant.0 ∙ sym (rw e at c.records.invariant.1)

pub returns-in-Err : goal.returns-in-Err
returns-in-Err c =
    let at = ap member_fault (sym c.record_at-m.ensures) ∙ code_first _ _ (fault_found _ c.in-Err.is c.code_fault.ensures) (some_fault _) in
    rw c.at.ensures (sym (fault_at (fault c.args.bytes.now) 1 c.records.i c.args.count _ (omega arith) c.records.invariant.1 at (some_fault _)))

pub returns-then-not-is_zeroed : goal.returns-then-not-is_zeroed
returns-then-not-is_zeroed c =
    let stray = fails c.is_zeroed.ensures c.if-not-is_zeroed.true in
    let at = ap member_fault (sym c.record_at-m.ensures) ∙ unused_next _ c.loop-f.f (fault_clear c.in_default.is c.code_fault.ensures) (omega arith) stray in
    rw c.at-then-not-is_zeroed.ensures (sym (fault_at (fault c.args.bytes.now) 1 c.records.i c.args.count 8 (omega arith) c.records.invariant.1 at (omega arith)))

pub returns-then-not-good : goal.returns-then-not-good
returns-then-not-good c =
    let e : c.loop-f.f ≡ FIELDS = omega arith in
    let zero = rw e at c.loop-f.invariant.1 in
    let bad = fails (rw e at c.loop-f.invariant.2) c.if-not-good.true in
    let at = ap member_fault (sym c.record_at-m.ensures) ∙ range_last _ (fault_clear c.in_default.is c.code_fault.ensures) zero bad in
    rw c.at-then-not-good.ensures (sym (fault_at (fault c.args.bytes.now) 1 c.records.i c.args.count 7 (omega arith) c.records.invariant.1 at (omega arith)))
