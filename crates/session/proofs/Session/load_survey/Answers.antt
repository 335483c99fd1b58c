-- `Session::load_survey` meets its contract: what was read decides, and only a file that was taken is stored.
use mathlib.Core.Path.{sym, ◌∙◌}
use Rattle.files.proofs.Faults.{taken_ok, taken_err}
use Rattle.session.proofs.State.{survey_stored, survey_kept, valid_survey}
use Rattle.session.proofs.Session.load_survey.Goals as goal

pub invariant_of-result : goal.invariant_of-result
invariant_of-result c =
    let t = taken_ok _ _ _ (sym c.read_survey.ensures ∙ c.in-Ok.is) in
    rw (← t.1) (valid_survey _ _ c.self.invariant t.0)

pub returns-in-Ok : goal.returns-in-Ok
returns-in-Ok c =
    let t = taken_ok _ _ _ (sym c.read_survey.ensures ∙ c.in-Ok.is) in
    rw (survey_stored c.args.self c.args.bytes.now t.0, t.1, ← c.self.view_is)

pub returns-in-Err : goal.returns-in-Err
returns-in-Err c =
    let t = taken_err _ _ _ (sym c.read_survey.ensures ∙ c.in-Err.is) in
    rw (survey_kept c.args.self c.args.bytes.now _ t)
