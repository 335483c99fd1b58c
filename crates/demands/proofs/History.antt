-- After any row of calls the session holds the files that were taken last, of two vehicles coupled their file: a load that takes its file stores it,
-- and no other call touches it. From a new session it is valid.
-- Assumes nothing.
use Prim.Native.Nat.{ℕ}
use mathlib.Core.Path.{◌≡◌, refl, sym, ap, ◌∙◌}
use mathlib.Core.List.{List, [], ◌∷◌}
use mathlib.Core.Logic.{◌⊎◌, inl, inr, ⊎_elim}
use Rattle.surveys.specs.SurveyFile.{read_survey}
use Rattle.vehicles.specs.VehicleFile.{VEHICLE_VERSIONS, read_vehicle}
use Rattle.surveys.specs.Allowed.{AllowedSurveyFile}
use Rattle.vehicles.specs.Allowed.{AllowedVehicleFile}
use Rattle.files.proofs.Faults.{reading_case}
use Rattle.surveys.proofs.Surveys as surveys
use Rattle.vehicles.proofs.Vehicles as vehicles
use Rattle.session.specs.Answers.{Outcome, Values}
use Rattle.session.specs.Calls.{Valid, new_session, load_survey, load_vehicle, stored_survey, rate, judge}
use Rattle.demands.specs.History.{Call, LoadSurvey, LoadVehicle, Rate, Judge, JudgeYard, JudgeBetween, Gauge, Couple, next, after, TakesSurvey, TakesVehicle, NoneTakes, LastTakes, here, further, TakenLast, CoupledLast, Holds}
use Rattle.demands.specs.CoupleCall.{coupled_file}
use Rattle.demands.proofs.CoupleLaws.{file_loaded}
use Rattle.session.specs.Coupling.{couple}
use Rattle.session.specs.Gauging.{gauge}
use Rattle.session.specs.Readings.{judge_between}
use Rattle.session.specs.Yard.{judge_yard}
use Rattle.session.specs.Loaded.{Session}
use Rattle.session.proofs.Loads.{taken_or_not, stored_valid, survey_read, vehicle_read, survey_load, vehicle_load, survey_left, vehicle_left, other_survey, other_vehicle, couple_left, couple_survey, couple_valid}
use Rattle.session.proofs.State.{valid_survey}

-- a call that takes no survey leaves the survey, and so with the vehicle
survey_next : (s : Session) (c : Call) → ¬ (TakesSurvey s c) → (next s c).survey ≡ s.survey
unfolding rate judge judge_yard judge_between gauge
survey_next s (LoadSurvey bytes) h = survey_left s bytes h
survey_next s (LoadVehicle bytes) h = other_survey s bytes
survey_next s (Rate place) h = refl
survey_next s (Judge list) h = refl
survey_next s (JudgeYard yard list) h = refl
survey_next s (JudgeBetween first second list) h = refl
survey_next s (Gauge place r) h = refl
survey_next s (Couple first second gap) h = couple_survey s first second gap

vehicle_next : (s : Session) (c : Call) → ¬ (TakesVehicle s c) → (next s c).vehicle ≡ s.vehicle
unfolding rate judge judge_yard judge_between gauge
vehicle_next s (LoadSurvey bytes) h = other_vehicle s bytes
vehicle_next s (LoadVehicle bytes) h = vehicle_left s bytes h
vehicle_next s (Rate place) h = refl
vehicle_next s (Judge list) h = refl
vehicle_next s (JudgeYard yard list) h = refl
vehicle_next s (JudgeBetween first second list) h = refl
vehicle_next s (Gauge place r) h = refl
vehicle_next s (Couple first second gap) h = couple_left s first second gap h

pub survey_stays : (s : Session) (calls : List Call) → NoneTakes TakesSurvey s calls → (after s calls).survey ≡ s.survey
survey_stays s [] h = refl
survey_stays s (c ∷ calls) h = survey_stays (next s c) calls h.1 ∙ survey_next s c h.0

pub vehicle_stays : (s : Session) (calls : List Call) → NoneTakes TakesVehicle s calls → (after s calls).vehicle ≡ s.vehicle
vehicle_stays s [] h = refl
vehicle_stays s (c ∷ calls) h = vehicle_stays (next s c) calls h.1 ∙ vehicle_next s c h.0

-- a file that one session takes any other takes, and both then hold the same
survey_alike : (s t : Session) (bytes : List ℕ) → (load_survey s bytes).answer ≡ Values [] →
    ((load_survey t bytes).answer ≡ Values []) × ((load_survey s bytes).session.survey ≡ (load_survey t bytes).session.survey)
survey_alike s t bytes e =
    let r = survey_read s bytes e in
    (rw (survey_load t bytes r), rw (survey_load s bytes r, survey_load t bytes r))

vehicle_alike : (s t : Session) (bytes : List ℕ) → (load_vehicle s bytes).answer ≡ Values [] →
    ((load_vehicle t bytes).answer ≡ Values []) × ((load_vehicle s bytes).session.vehicle ≡ (load_vehicle t bytes).session.vehicle)
vehicle_alike s t bytes e =
    let r = vehicle_read s bytes e in
    (rw (vehicle_load t bytes r), rw (vehicle_load s bytes r, vehicle_load t bytes r))

pub survey_last : (survey : List ℕ) {s : Session} {calls : List Call} → LastTakes TakesSurvey (LoadSurvey survey) s calls →
    ((load_survey new_session survey).answer ≡ Values []) × ((after s calls).survey ≡ (load_survey new_session survey).session.survey)
survey_last survey (here {s} {later} t none) =
    let alike = survey_alike s new_session survey t in
    (alike.0, survey_stays (load_survey s survey).session later none ∙ alike.1)
survey_last survey (further l) = survey_last survey l

-- the session in which the last vehicle was taken, by whichever call: what that call then held is held at the end
vehicle_since : (c : Call) {s : Session} {calls : List Call} → LastTakes TakesVehicle c s calls →
    (t : Session) × TakesVehicle t c × ((after s calls).vehicle ≡ (next t c).vehicle)
vehicle_since c (here {s} {later} t none) = (s, t, vehicle_stays (next s c) later none)
vehicle_since c (further l) = vehicle_since c l

vehicle_last : {s : Session} {calls : List Call} (vehicle : List ℕ) → LastTakes TakesVehicle (LoadVehicle vehicle) s calls →
    ((load_vehicle new_session vehicle).answer ≡ Values []) × ((after s calls).vehicle ≡ (load_vehicle new_session vehicle).session.vehicle)
vehicle_last vehicle l =
    let (t, taken, e) = vehicle_since (LoadVehicle vehicle) l in
    let alike = vehicle_alike t new_session vehicle taken in
    (alike.0, e ∙ alike.1)

-- two vehicles that were coupled are held as their file is
coupled_last : {s : Session} {calls : List Call} (first second : List ℕ) (gap : ℕ) → LastTakes TakesVehicle (Couple first second gap) s calls →
    ((load_vehicle new_session (coupled_file first second gap)).answer ≡ Values []) × ((after s calls).vehicle ≡ (load_vehicle new_session (coupled_file first second gap)).session.vehicle)
coupled_last first second gap l =
    let (t, taken, e) = vehicle_since (Couple first second gap) l in
    let loaded = file_loaded first second gap t taken in
    let alike = vehicle_alike t new_session (coupled_file first second gap) (ap (λ (o : Outcome). o.answer) (sym loaded) ∙ taken) in
    (alike.0, e ∙ ap (λ (o : Outcome). o.session.vehicle) loaded ∙ alike.1)

pub last_held : (s : Session) (calls : List Call) (survey vehicle : List ℕ) → TakenLast s calls survey vehicle → Holds (after s calls) survey vehicle
last_held s calls survey vehicle h =
    let first = survey_last survey h.last_survey in
    let second = vehicle_last vehicle h.last_vehicle in
    record { survey_taken = first.0; survey_held = first.1; vehicle_taken = second.0; vehicle_held = second.1 }

pub held_coupled : (s : Session) (calls : List Call) (survey first second : List ℕ) (gap : ℕ) → CoupledLast s calls survey first second gap → Holds (after s calls) survey (coupled_file first second gap)
held_coupled s calls survey first second gap h =
    let one = survey_last survey h.last_survey in
    let two = coupled_last first second gap h.last_vehicle in
    record { survey_taken = one.0; survey_held = one.1; vehicle_taken = two.0; vehicle_held = two.1 }

-- the calls that take a survey, and those that take a vehicle
pub data LoadsSurvey : Call → Type 0 where
  a_survey : (survey : List ℕ) → LoadsSurvey (LoadSurvey survey)

pub data LoadsVehicle : Call → Type 0 where
  of_one : (vehicle : List ℕ) → LoadsVehicle (LoadVehicle vehicle)
  of_two : (first second : List ℕ) (gap : ℕ) → LoadsVehicle (Couple first second gap)

pub takes_survey : (s : Session) (c : Call) → (LoadsSurvey c × TakesSurvey s c) ⊎ (¬ (TakesSurvey s c))
takes_survey s (LoadSurvey bytes) = ⊎_elim (λ e. inl (a_survey bytes, e)) (λ n. inr n) (taken_or_not (load_survey s bytes).answer)
takes_survey s (LoadVehicle bytes) = inr (λ n. n)
takes_survey s (Rate place) = inr (λ n. n)
takes_survey s (Judge list) = inr (λ n. n)
takes_survey s (JudgeYard yard list) = inr (λ n. n)
takes_survey s (JudgeBetween first second list) = inr (λ n. n)
takes_survey s (Gauge place r) = inr (λ n. n)
takes_survey s (Couple first second gap) = inr (λ n. n)

pub takes_vehicle : (s : Session) (c : Call) → (LoadsVehicle c × TakesVehicle s c) ⊎ (¬ (TakesVehicle s c))
takes_vehicle s (LoadSurvey bytes) = inr (λ n. n)
takes_vehicle s (LoadVehicle bytes) = ⊎_elim (λ e. inl (of_one bytes, e)) (λ n. inr n) (taken_or_not (load_vehicle s bytes).answer)
takes_vehicle s (Rate place) = inr (λ n. n)
takes_vehicle s (Judge list) = inr (λ n. n)
takes_vehicle s (JudgeYard yard list) = inr (λ n. n)
takes_vehicle s (JudgeBetween first second list) = inr (λ n. n)
takes_vehicle s (Gauge place r) = inr (λ n. n)
takes_vehicle s (Couple first second gap) = ⊎_elim (λ e. inl (of_two first second gap, e)) (λ n. inr n) (taken_or_not (couple s first second gap).answer)

-- so of a row of calls none takes one, or one is the last that does
module _ (Takes : Session → Call → Type 0) (Loads : Call → Type 0) (decides : (s : Session) (c : Call) → (Loads c × Takes s c) ⊎ (¬ (Takes s c))) where
  abbrev NoneOrLast : Session → List Call → Type 0
  NoneOrLast s calls = NoneTakes Takes s calls ⊎ ((c : Call) × Loads c × LastTakes Takes c s calls)

  pub none_or_last : (s : Session) (calls : List Call) → NoneOrLast s calls
  none_or_last s [] = inl tt
  none_or_last s (c ∷ calls) = go (decides s c) (none_or_last (next s c) calls)
    where
      go : (Loads c × Takes s c) ⊎ (¬ (Takes s c)) → NoneOrLast (next s c) calls → NoneOrLast s (c ∷ calls)
      go t (inr (d, loads, l)) = inr (d, loads, further l)
      go (inl (loads, t)) (inl none) = inr (c, loads, here t none)
      go (inr n) (inl none) = inl (n, none)

-- an allowed file is taken by any session
module _ {survey vehicle : List ℕ} (a : AllowedSurveyFile survey) (b : AllowedVehicleFile vehicle) where
  survey_takes : (s : Session) → (load_survey s survey).answer ≡ Values []
  survey_takes s = ap (λ (o : Outcome). o.answer) (survey_load s survey (surveys.allowed_taken survey a))

  vehicle_takes : (s : Session) → (load_vehicle s vehicle).answer ≡ Values []
  vehicle_takes s = ap (λ (o : Outcome). o.answer) (vehicle_load s vehicle (vehicles.allowed_taken VEHICLE_VERSIONS vehicle b))

  pub in_turn_lem : Holds (after new_session (LoadSurvey survey ∷ LoadVehicle vehicle ∷ [])) survey vehicle
  in_turn_lem =
      last_held new_session (LoadSurvey survey ∷ LoadVehicle vehicle ∷ []) survey vehicle
      (record { last_survey = here (survey_takes new_session) ((λ n. n), tt); last_vehicle = further (here (vehicle_takes _) tt) })

  pub in_reverse : Holds (after new_session (LoadVehicle vehicle ∷ LoadSurvey survey ∷ [])) survey vehicle
  in_reverse =
      last_held new_session (LoadVehicle vehicle ∷ LoadSurvey survey ∷ []) survey vehicle
      (record { last_survey = further (here (survey_takes _) tt); last_vehicle = here (vehicle_takes new_session) ((λ n. n), tt) })

-- every call hands back a valid session
next_valid : (s : Session) (c : Call) → Valid s → Valid (next s c)
unfolding load_survey load_vehicle rate judge judge_yard judge_between gauge
next_valid s (LoadSurvey bytes) h =
    reading_case (read_survey bytes).answer (λ a. Valid (stored_survey s a (read_survey bytes).survey).session) (λ e. valid_survey s bytes h e) (λ r e. h)
next_valid s (LoadVehicle bytes) h =
    stored_valid s (read_vehicle bytes).answer (read_vehicle bytes).vehicle h (vehicles.taken_vehicle_allowed VEHICLE_VERSIONS bytes)
next_valid s (Rate place) h = h
next_valid s (Judge list) h = h
next_valid s (JudgeYard yard list) h = h
next_valid s (JudgeBetween first second list) h = h
next_valid s (Gauge place r) h = h
next_valid s (Couple first second gap) h = couple_valid s first second gap h

pub calls_valid : (s : Session) (calls : List Call) → Valid s → Valid (after s calls)
calls_valid s [] h = h
calls_valid s (c ∷ calls) h = calls_valid (next s c) calls (next_valid s c h)
