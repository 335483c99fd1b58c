-- The members' loads by the answer of the two loads: a refusal ends the calls with the list as it was, and a session in which both
-- files are loaded has as many members as the survey file says.
use Rattle.std.specs.Prelude.{Ok, Err, ⊤}
use Prim.Native.Nat.{ℕ, ◌<◌}
use mathlib.Core.Path.{◌≡◌, ap, ◌∙◌}
use mathlib.Core.List.{List}
use native.Mathlib.Omega.{arith}
use lib.ListN.{length}
use Rattle.member.specs.declared.record.Survey.{Survey}
use Rattle.surveys.specs.Allowed.{AllowedSurveyFile}
use Rattle.surveys.specs.SurveyFile.{count_of, survey_of}
use Rattle.files.specs.declared.Refusal.{Refusal}
use Rattle.session.specs.Answers.{Outcome, loaded, judged, judge_answer, refused_by}
use Rattle.session.specs.Calls.{load_files, judge, judge_list}
use Rattle.rating.specs.declared.judging.Judgement.{Judgement}
use Rattle.session.specs.declared.After.{After}
use Rattle.session.specs.Loaded.{Session}
use Rattle.demands.proofs.Demands.{demand1, files_held}
use Rattle.exports.specs.Loads.{loads_of, member_loads, member_list}
use Rattle.exports.specs.declared.Loads.{Loads}

module _ (survey vehicle list : List ℕ) (o : After ⊤) (both : loaded o ≡ load_files survey vehicle) where
  pub refused : (f : Refusal) (r : Loads) → o.answer ≡ Err f → r ≡ loads_of (refused_by f) 0 →
      (r ≡ member_loads survey vehicle list) × (list ≡ member_list survey vehicle list)
  unfolding member_loads member_list
  refused f r e is = (rw (is, ← both, e), rw (← both, e))

  module _ (taken : o.answer ≡ (Ok tt)) where
    held : AllowedSurveyFile survey × ((load_files survey vehicle).session.survey ≡ survey_of survey)
    held = files_held survey vehicle (rw (← both, taken))

    -- such a file holds its count
    pub counted : 5 < length survey
    counted = omega (arith, held.0.size)

    pub filled : (j : After Judgement) (r : Loads) (after : List ℕ) → judged j ≡ judge o.session list →
        after ≡ judge_list o.session list →
        r ≡ loads_of (judge_answer j.answer) (count_of survey) →
        (r ≡ member_loads survey vehicle list) × (after ≡ member_list survey vehicle list)
    unfolding member_loads member_list
    filled j r after third written is =
        let kept : j.session.survey.count ≡ count_of survey =
        ap (λ (s : Outcome). s.session.survey.count) third ∙
        ap (λ (s : Session). s.survey.count) (demand1.judge_keeps o.session list) ∙
        ap (λ (s : Outcome). s.session.survey.count) both ∙
        ap (λ (s : Survey). s.count) held.1
        in
        (rw (is, ← both, taken, ← third, kept), rw (written, ← both, taken))
