-- `yard_answers` meets its contract: a fault before the vehicles is the answer, then the run's refusal, then what is behind the vehicles.
use Prim.Native.Nat.{ℕ, ◌-◌}
use lib.ListN.{length}
use mathlib.Core.Path.{◌≡◌, sym, ap, ◌∙◌}
use Rattle.std.proofs.lemmas.Result.{err_from_is_err_and}
use Rattle.files.specs.Fault.{fault_of}
use Rattle.files.specs.Reading.{first_of}
use Rattle.vehicles.specs.YardFile.{vehicles_of, left_over}
use Rattle.files.proofs.Faults.{some_fault, fault_clear, fault_found}
use Rattle.session.specs.Yard.{front_tests, end_tests}
use Rattle.session.specs.YardRun.{Going}
use Rattle.session.proofs.YardTests.{front_refused, vehicle_refused, end_refused, end_is, found_answers}
use Rattle.session.proofs.yard.yard_answers.Goals as goal
use Rattle.session.proofs.yard.yard_answers.Goals.{In_ok-front_fault, In_ok-run, After-end_fault}

pub returns-in_err-front_fault : goal.returns-in_err-front_fault
returns-in_err-front_fault c =
    let p = err_from_is_err_and c.from_residual.result c.from_residual.ensures.1 in
    let f = c.in_err-front_fault.field-0.0 in
    let found = fault_found f c.in_err-front_fault.was c.front_fault.ensures in
    rw (p.1, p.2, ← c.session.view_is) (front_refused _ _ _ _ (sym found) (some_fault f))

-- the tests before the vehicles find no fault
clear : (c : In_ok-front_fault) → let a = c.args in first_of (front_tests a.session.now.survey.count a.yard.now) ≡ 0
clear c = rw (← c.session.view_is) (fault_clear c.in_ok-front_fault.was c.front_fault.ensures)

pub returns-in_err-run : goal.returns-in_err-run
returns-in_err-run c =
    let p = err_from_is_err_and c.from_residual-in_err-run.result c.from_residual-in_err-run.ensures.1 in
    let said = rw c.from-count.ensures at c.in_err-run.ensures in
    rw (p.1, p.2) (vehicle_refused _ _ _ (clear (goal.at.returns-in_err-run c).In_ok-front_fault) _ _ said)

-- the run over all vehicles of the yard
going : (c : In_ok-run) → let a = c.args in Going a.session.now a.yard.now (vehicles_of a.yard.now) c.in_ok-run.run'
going c = rw c.from-count.ensures at c.in_ok-run.ensures

-- what the code tests behind them
ends : (c : After-end_fault) → Going c.args.session.now c.args.yard.now (vehicles_of c.args.yard.now) c.in_ok-run.run' → let a = c.args in fault_of c.end_fault.result ≡ first_of (end_tests (length (left_over a.yard.now)) (vehicles_of a.yard.now) a.room)
ends c h =
    let a = c.args in
    c.end_fault.ensures ∙ ap (λ (n : ℕ). first_of (end_tests (length a.yard.now - c.in_ok-run.run'.at) n a.room)) c.from-count.ensures ∙ end_is a.session.now a.yard.now a.room c.in_ok-run.run' h

pub returns-in_err-end_fault : goal.returns-in_err-end_fault
returns-in_err-end_fault c =
    let at = goal.at.returns-in_err-end_fault c in
    let p = err_from_is_err_and c.from_residual-in_err-end_fault.result c.from_residual-in_err-end_fault.ensures.1 in
    let f = c.in_err-end_fault.field-0.0 in
    let found = fault_found f c.in_err-end_fault.was (ends at.After-end_fault (going at.In_ok-run)) in
    rw (p.1, p.2) (end_refused _ _ _ (clear at.In_ok-front_fault) (going at.In_ok-run).clear _ (sym found) (some_fault f))

pub returns : goal.returns
returns c =
    let at = goal.at.returns c in
    let none = fault_clear c.in_ok-end_fault.was (ends at.After-end_fault (going at.In_ok-run)) in
    rw c.from-count.ensures (found_answers _ _ _ _ (going at.In_ok-run) (clear at.In_ok-front_fault) none)
