-- The four calls. Document 01, 'Calls': "Load a survey, load a vehicle, rate one place, judge." `Yard`, `Readings`, `Gauging`
-- and `Coupling` have four more.
use Rattle.std.specs.Prelude.{ℕ, ◌-◌, ◌*◌, not, List, [], ◌∷◌, eqb, leb, length, replicate, Ok, Err}
use Rattle.section.specs.Choose.{choose}
use Rattle.member.specs.Fields.{MOST_MEMBERS}
use Rattle.member.specs.Format.{◌‥◌}
use Rattle.rating.specs.Judgement.{rating_of, judgement_of, written}
use Rattle.rating.specs.Surveyed.{members_of, member_at}
use Rattle.member.specs.declared.record.Member.{Member}
use Rattle.files.specs.Reading.{Reading, ◌unless◌, first_of, is_in}
use Rattle.member.specs.Blank.{blank_survey}
use Rattle.surveys.specs.SurveyFile.{read_survey}
use Rattle.vehicles.specs.VehicleFile.{read_vehicle, blank_vehicle}
use Rattle.member.specs.declared.record.Survey.{Survey}
use Rattle.member.specs.declared.record.Vehicle.{Vehicle}
use Rattle.session.specs.Answers.{Answer, Values, WithMargin, WithDeflection, RefusedAt, Outcome, refused_by, rating_answer, judgement_answer}
pub use Rattle.session.specs.Loaded.{Session, Valid}

-- a session with nothing loaded
abbrev pub new_session : Session
new_session = record { survey = blank_survey; vehicle = blank_vehicle }

abbrev pub members : Session → List Member
members s = members_of s.survey

-- "A load that succeeds replaces its own file only."
abbrev pub stored_survey : Session → Reading → Survey → Outcome
stored_survey s (Ok tt) survey = record { session = record { survey = survey; vehicle = s.vehicle }; answer = Values [] }
stored_survey s (Err r) survey = record { session = s; answer = refused_by r }

abbrev pub stored_vehicle : Session → Reading → Vehicle → Outcome
stored_vehicle s (Ok tt) vehicle = record { session = record { survey = s.survey; vehicle = vehicle }; answer = Values [] }
stored_vehicle s (Err r) vehicle = record { session = s; answer = refused_by r }

unfoldable pub load_survey : Session → (bytes : List ℕ) → Outcome
load_survey s bytes = stored_survey s (read_survey bytes).answer (read_survey bytes).survey

unfoldable pub load_vehicle : Session → (bytes : List ℕ) → Outcome
load_vehicle s bytes = stored_vehicle s (read_vehicle bytes).answer (read_vehicle bytes).vehicle

-- "11 no survey; 12 no vehicle; 13 no such place; 14 list shorter than two entries a member. Tested in that order; rate uses 11, 12,
-- 13, judge 11, 12, 14."
unfoldable pub state_fault : (members axles : ℕ) → ℕ
state_fault members axles = first_of (11 unless not (eqb members 0) ∷ 12 unless not (eqb axles 0) ∷ [])

unfoldable pub rate_fault : (members axles place : ℕ) → ℕ
rate_fault members axles place = first_of (state_fault members axles ∷ 13 unless is_in (1 ‥ members) place ∷ [])

unfoldable pub judge_fault : (members axles entries : ℕ) → ℕ
judge_fault members axles entries = first_of (state_fault members axles ∷ 14 unless leb (2 * members) entries ∷ [])

-- the answer where there is no fault, else the fault at place 0: "The other refusals have place 0."
abbrev pub unless_fault : ℕ → Answer → Answer
unless_fault fault answer = choose (eqb fault 0) answer (RefusedAt fault 0)

-- "Places start at 1." "All refusals leave state and list as found."
unfoldable pub rate : Session → (place : ℕ) → Outcome
rate s place =
    record {
      session = s;
      answer =
          unless_fault (rate_fault s.survey.count s.vehicle.axles place)
          (rating_answer (rating_of (member_at (members s) (place - 1)) s.vehicle));
    }

unfoldable pub judge : Session → (list : List ℕ) → Outcome
judge s list =
    record {
      session = s;
      answer =
          unless_fault (judge_fault s.survey.count s.vehicle.axles (length list))
          (judgement_answer (judgement_of (members s) s.vehicle));
    }

-- what the lent list then holds
unfoldable pub judge_list : Session → (list : List ℕ) → List ℕ
judge_list s list =
    choose (eqb (judge_fault s.survey.count s.vehicle.axles (length list)) 0) (written s.vehicle (members s) list) list

-- by an answer: the first where it is a refusal, else the second
abbrev pub unless_refused : {A : Type 0} → Answer → (refused next : A) → A
unless_refused (Values values) refused next = next
unless_refused (WithMargin values margin) refused next = next
unless_refused (WithDeflection values deflection) refused next = next
unless_refused (RefusedAt number place) refused next = refused

abbrev pub and_then : Outcome → (Session → Outcome) → Outcome
and_then o call = unless_refused o.answer o (call o.session)

-- both loads from a new session, "the survey's before the vehicle's"
unfoldable pub load_files : (survey vehicle : List ℕ) → Outcome
load_files survey vehicle = and_then (load_survey new_session survey) (λ s. load_vehicle s vehicle)

-- judge after a load, with a list long enough for any survey
unfoldable pub then_judge : Outcome → Outcome
then_judge o = and_then o (λ s. judge s (replicate (2 * MOST_MEMBERS) 0))

-- "calls the judgement on the bytes of both files. It gets the number and place of a refusal, the survey's before the vehicle's, or
-- figure, governing place and verdict". The answer is judge's, with its margin; what the host program gets of it is in
-- judgement/specs/Numbers.antt
unfoldable pub judge_files : (survey vehicle : List ℕ) → Outcome
judge_files survey vehicle = then_judge (load_files survey vehicle)
