-- Calls in a row, and the files that they leave in the session.
use Rattle.std.specs.Prelude.{ℕ, ◌≡◌, List, [], ◌∷◌}
use Rattle.session.specs.Answers.{Values}
use Rattle.session.specs.Calls.{new_session, load_survey, load_vehicle, rate, judge}
use Rattle.gauge.specs.declared.Readings.{Readings}
use Rattle.session.specs.Coupling.{couple}
use Rattle.session.specs.Gauging.{gauge}
use Rattle.session.specs.Readings.{judge_between}
use Rattle.session.specs.Yard.{Entry, judge_yard}
use Rattle.session.specs.Loaded.{Session}

-- "Load a survey, load a vehicle, rate one place, judge.", and document 02, requests 3/13, 5/13, 11/13 and 13/13
pub data Call : Type 0 where
  LoadSurvey : (bytes : List ℕ) → Call
  LoadVehicle : (bytes : List ℕ) → Call
  Rate : (place : ℕ) → Call
  Judge : (list : List ℕ) → Call
  JudgeYard : (yard : List ℕ) (list : List Entry) → Call
  JudgeBetween : (first second list : List ℕ) → Call
  Gauge : (place : ℕ) → Readings → Call
  Couple : (first second : List ℕ) (gap : ℕ) → Call

-- the session that a call hands back
abbrev pub next : Session → Call → Session
next s (LoadSurvey bytes) = (load_survey s bytes).session
next s (LoadVehicle bytes) = (load_vehicle s bytes).session
next s (Rate place) = (rate s place).session
next s (Judge list) = (judge s list).session
next s (JudgeYard yard list) = (judge_yard s yard list).session
next s (JudgeBetween first second list) = (judge_between s first second list).session
next s (Gauge place r) = (gauge s place r).session
next s (Couple first second gap) = (couple s first second gap).session

-- the session after a row of calls, each made in the session that the one before it handed back
abbrev pub after : Session → List Call → Session
after s [] = s
after s (c ∷ calls) = after (next s c) calls

-- in this session the call takes a survey
abbrev pub TakesSurvey : Session → Call → Type 0
TakesSurvey s (LoadSurvey bytes) = (load_survey s bytes).answer ≡ Values []
TakesSurvey s (LoadVehicle bytes) = ⊥
TakesSurvey s (Rate place) = ⊥
TakesSurvey s (Judge list) = ⊥
TakesSurvey s (JudgeYard yard list) = ⊥
TakesSurvey s (JudgeBetween first second list) = ⊥
TakesSurvey s (Gauge place r) = ⊥
TakesSurvey s (Couple first second gap) = ⊥

-- in this session the call takes a vehicle, of one file or coupled of two
abbrev pub TakesVehicle : Session → Call → Type 0
TakesVehicle s (LoadSurvey bytes) = ⊥
TakesVehicle s (LoadVehicle bytes) = (load_vehicle s bytes).answer ≡ Values []
TakesVehicle s (Rate place) = ⊥
TakesVehicle s (Judge list) = ⊥
TakesVehicle s (JudgeYard yard list) = ⊥
TakesVehicle s (JudgeBetween first second list) = ⊥
TakesVehicle s (Gauge place r) = ⊥
TakesVehicle s (Couple first second gap) = (couple s first second gap).answer ≡ Values []

module _ (Takes : Session → Call → Type 0) where
  -- no call of the row takes one
  abbrev pub NoneTakes : Session → List Call → Type 0
  NoneTakes s [] = Unit
  NoneTakes s (c ∷ calls) = (¬ (Takes s c)) × NoneTakes (next s c) calls

  -- this call of the row takes one, and none after it does
  pub data LastTakes (c : Call) : Session → List Call → Type 0 where
    here : {s : Session} {later : List Call} → Takes s c → NoneTakes (next s c) later → LastTakes c s (c ∷ later)
    further : {s : Session} {d : Call} {later : List Call} → LastTakes c (next s d) later → LastTakes c s (d ∷ later)

-- of a row of calls that starts in this session, the survey and the vehicle that were taken last
pub record TakenLast (s : Session) (calls : List Call) (survey vehicle : List ℕ) : Type 0 where
  pub last_survey : LastTakes TakesSurvey (LoadSurvey survey) s calls
  pub last_vehicle : LastTakes TakesVehicle (LoadVehicle vehicle) s calls

-- the survey that was taken last, and two vehicles that were coupled where the last vehicle was taken, request 13/13
pub record CoupledLast (s : Session) (calls : List Call) (survey first second : List ℕ) (gap : ℕ) : Type 0 where
  pub last_survey : LastTakes TakesSurvey (LoadSurvey survey) s calls
  pub last_vehicle : LastTakes TakesVehicle (Couple first second gap) s calls

-- "an accepted file is one that its load call takes": the session holds both, whatever was loaded or refused before and after
pub record Holds (s : Session) (survey vehicle : List ℕ) : Type 0 where
  pub survey_taken : (load_survey new_session survey).answer ≡ Values []
  pub survey_held : s.survey ≡ (load_survey new_session survey).session.survey
  pub vehicle_taken : (load_vehicle new_session vehicle).answer ≡ Values []
  pub vehicle_held : s.vehicle ≡ (load_vehicle new_session vehicle).session.vehicle
