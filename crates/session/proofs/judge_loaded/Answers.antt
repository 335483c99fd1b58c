-- `judge_loaded` meets its contract: a fault answers itself and writes nothing; else the survey and the vehicle are allowed and the list is long enough.
use mathlib.Core.Path.{◌≡◌}
use lib.ListN.{length}
use borrow.Author.Tests.{eq-eqb, ne_eqb}
use Rattle.std.proofs.lemmas.Result.{err_from_is_err_and}
use Rattle.files.proofs.Faults.{some_fault, fault_clear, fault_found}
use Rattle.session.specs.Calls.{judge, judge_list, judge_fault}
use Rattle.session.proofs.State.{judge_clear, few_members}
use Rattle.session.proofs.judge_loaded.Goals as goal
use Rattle.session.proofs.judge_loaded.Goals.{In_ok-judge_fault}

pub judge_fault-requires : goal.judge_fault-requires
judge_fault-requires c = few_members _ c.session.invariant

pub returns-in_err-judge_fault-clause-is : goal.returns-in_err-judge_fault-clause-is
unfolding judge
returns-in_err-judge_fault-clause-is c =
    let p = err_from_is_err_and c.from_residual.result c.from_residual.ensures.1 in
    let found = fault_found c.in_err-judge_fault.field-0.0 c.in_err-judge_fault.was c.judge_fault.ensures in
    rw (p.1, p.2, ← c.session.view_is, found, ne_eqb _ 0 (some_fault c.in_err-judge_fault.field-0.0))

pub returns-in_err-judge_fault-clause-list : goal.returns-in_err-judge_fault-clause-list
unfolding judge_list
returns-in_err-judge_fault-clause-list c =
    let found = fault_found c.in_err-judge_fault.field-0.0 c.in_err-judge_fault.was c.judge_fault.ensures in
    rw (← c.session.view_is, found, ne_eqb _ 0 (some_fault c.in_err-judge_fault.field-0.0))

clear : (c : In_ok-judge_fault) → judge_fault c.session.inside.survey.count c.session.inside.vehicle.axles (length c.args.list.now) ≡ 0
clear c = fault_clear c.in_ok-judge_fault.was c.judge_fault.ensures

pub judge-requires : goal.judge-requires
judge-requires c =
    let s = judge_clear _ _ _ (clear (goal.at.judge-requires c).In_ok-judge_fault) in
    (c.session.invariant.survey s.0.survey, c.session.invariant.vehicle s.0.vehicle, s.1)

pub returns-clause-is : goal.returns-clause-is
unfolding judge
returns-clause-is c = rw (← c.session.view_is, eq-eqb _ 0 (clear (goal.at.returns-clause-is c).In_ok-judge_fault), c.judge.ensures.is)

pub returns-clause-list : goal.returns-clause-list
unfolding judge_list
returns-clause-list c = rw (← c.session.view_is, eq-eqb _ 0 (clear (goal.at.returns-clause-list c).In_ok-judge_fault)) c.judge.ensures.list
