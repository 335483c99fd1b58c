-- `load_files` meets its contract: how the survey was read picks the case of `load_files`.
use mathlib.Core.Path.{◌≡◌, sym, ◌∙◌}
use Rattle.std.specs.Prelude.{Ok}
use Rattle.files.proofs.Faults.{taken_ok, taken_err}
use Rattle.surveys.specs.SurveyFile.{read_survey}
use Rattle.session.specs.Calls.{new_session}
use Rattle.session.proofs.State.{valid_new, valid_survey, first_refused, second_loaded}
use Rattle.session.proofs.load_files.Goals as goal
use Rattle.session.proofs.load_files.Goals.{In-Ok}

read : (c : In-Ok) → let bytes = c.args.survey.now in ((read_survey bytes).answer ≡ Ok tt) × ((read_survey bytes).survey ≡ c.in-Ok.taken)
read c = taken_ok _ _ _ (sym c.read_survey.ensures ∙ c.in-Ok.is)

pub invariant_of-session : goal.invariant_of-session
invariant_of-session c =
    let t = read (goal.at.invariant_of-session c).In-Ok in
    rw (c.blank_vehicle.ensures, ← t.1) (valid_survey new_session _ valid_new t.0)

pub returns-in-Ok : goal.returns-in-Ok
returns-in-Ok c =
    let t = read (goal.at.returns-in-Ok c).In-Ok in
    rw (second_loaded _ c.args.vehicle.now t.0, t.1, ← c.blank_vehicle.ensures) c.load_vehicle.ensures

pub returns-in-Err : goal.returns-in-Err
returns-in-Err c =
    let t = taken_err _ _ _ (sym c.read_survey.ensures ∙ c.in-Err.is) in
    rw (first_refused _ c.args.vehicle.now _ t, c.new.ensures)
