-- `judge_files` meets its contract: a survey that is refused answers itself; else the vehicle is judged on it.
use mathlib.Core.Path.{◌≡◌, sym, ◌∙◌}
use Rattle.std.specs.Prelude.{Ok}
use Rattle.std.proofs.lemmas.Result.{err_from_is_err_and}
use Rattle.files.proofs.Faults.{taken_ok, taken_err}
use Rattle.surveys.specs.SurveyFile.{read_survey}
use Rattle.between.proofs.Pairs.{taken_survey_allowed}
use Rattle.session.proofs.State.{files_refused, files_alone}
use Rattle.session.proofs.judge_files.Goals as goal
use Rattle.session.proofs.judge_files.Goals.{In_ok-read_survey}

pub returns-in_err-read_survey : goal.returns-in_err-read_survey
returns-in_err-read_survey c =
    let p = err_from_is_err_and c.from_residual.result c.from_residual.ensures.1 in
    let t = taken_err _ _ _ (sym c.read_survey.ensures ∙ c.in_err-read_survey.was) in
    rw (p.1, p.2) (sym (files_refused _ _ _ t))

read : (c : In_ok-read_survey) → let bytes = c.args.survey.now in ((read_survey bytes).answer ≡ Ok tt) × ((read_survey bytes).survey ≡ c.in_ok-read_survey.field-0)
read c = taken_ok _ _ _ (sym c.read_survey.ensures ∙ c.in_ok-read_survey.was)

pub judge_vehicle-requires : goal.judge_vehicle-requires
judge_vehicle-requires c =
    let t = read (goal.at.judge_vehicle-requires c).In_ok-read_survey in
    rw (← t.1) (taken_survey_allowed _ t.0)

pub returns : goal.returns
returns c =
    let t = read (goal.at.returns c).In_ok-read_survey in
    c.judge_vehicle.ensures ∙ rw (← t.1) (sym (files_alone _ _ t.0))
