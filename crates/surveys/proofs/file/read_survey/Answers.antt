-- `read_survey` meets its contract: a fault of the header is the answer, else that of the records and their order is.
use mathlib.Core.Path.{◌≡◌, sym, ◌∙◌}
use native.Mathlib.Omega.{arith}
use Rattle.std.specs.Prelude.{Ok}
use Rattle.std.proofs.lemmas.Result.{err_from_is_err_and}
use Rattle.files.specs.Reading.{first_fault}
use Rattle.files.proofs.Faults.{some_fault, fault_clear, fault_found}
use Rattle.surveys.specs.SurveyFile.{count_of, survey_header, record_faults}
use Rattle.surveys.proofs.Surveys.{headed_survey, headed_first, records_first, order_last, read_ok, read_err}
use Rattle.surveys.proofs.file.read_survey.Goals as goal
use Rattle.surveys.proofs.file.read_survey.Goals.{In_ok-header_fault, After-count_of-count, In_ok-first_fault}

pub returns-in_err-header_fault : goal.returns-in_err-header_fault
returns-in_err-header_fault c =
    let p = err_from_is_err_and c.from_residual.result c.from_residual.ensures.1 in
    let found = fault_found _ c.in_err-header_fault.was c.header_fault.ensures in
    rw (p.1, p.2) (read_err _ _ (headed_first _ _ found (some_fault _)))

clear : (c : In_ok-header_fault) → survey_header c.args.bytes.now ≡ 0
clear c = fault_clear c.in_ok-header_fault.was c.header_fault.ensures

pub count_of-count-requires : goal.count_of-count-requires
count_of-count-requires c = let h = headed_survey _ (clear (goal.at.count_of-count-requires c).In_ok-header_fault) in omega (arith, h.sized)

pub first_fault-requires : goal.first_fault-requires
first_fault-requires c =
    let h = headed_survey _ (clear (goal.at.first_fault-requires c).In_ok-header_fault) in
    omega (arith, h.sized, c.count_of-count.ensures.0)

pub returns-in_err-first_fault : goal.returns-in_err-first_fault
returns-in_err-first_fault c =
    let p = err_from_is_err_and c.from_residual-in_err-first_fault.result c.from_residual-in_err-first_fault.ensures.1 in
    let found = rw c.count_of-count.ensures.0 at c.first_fault.ensures in
    rw (p.1, p.2) (read_err _ _ (records_first _ _ (clear (goal.at.returns-in_err-first_fault c).In_ok-header_fault) (sym found ∙ c.in_err-first_fault.was)))

pub sequence_answer-requires : goal.sequence_answer-requires
sequence_answer-requires c =
    let h = headed_survey _ (clear (goal.at.sequence_answer-requires c).In_ok-header_fault) in
    (omega (arith, h.count, c.count_of-count.ensures.0), omega (arith, h.sized, c.count_of-count.ensures.0))

none : (c : In_ok-first_fault) → first_fault 1 (record_faults c.args.bytes.now (count_of c.args.bytes.now)) ≡ Ok tt
none c = let found = rw c.count_of-count.ensures.0 at c.first_fault.ensures in sym found ∙ c.in_ok-first_fault.was

pub returns-in_err-sequence_answer : goal.returns-in_err-sequence_answer
returns-in_err-sequence_answer c =
    let at = goal.at.returns-in_err-sequence_answer c in
    let p = err_from_is_err_and c.from_residual-in_err-sequence_answer.result c.from_residual-in_err-sequence_answer.ensures.1 in
    let found = rw c.count_of-count.ensures.0 at c.sequence_answer.ensures in
    rw (p.1, p.2) (read_err _ _ (order_last _ (clear at.In_ok-header_fault) (none at.In_ok-first_fault) ∙ sym found ∙ c.in_err-sequence_answer.was))

pub members_of-requires : goal.members_of-requires
members_of-requires c =
    let h = headed_survey _ (clear (goal.at.members_of-requires c).In_ok-header_fault) in
    (omega (arith, h.count, c.count_of-count.ensures.0), omega (arith, h.sized, c.count_of-count.ensures.0))

pub returns : goal.returns
returns c =
    let at = goal.at.returns c in
    let found = rw c.count_of-count.ensures.0 at c.sequence_answer.ensures in
    rw (c.members_of.ensures, c.count_of-count.ensures.0) (read_ok _ (order_last _ (clear at.In_ok-header_fault) (none at.In_ok-first_fault) ∙ sym found ∙ c.in_ok-sequence_answer.was))
