-- What the tests of the state say where they find no fault, and that every call leaves a valid session.
-- Assumes nothing.
use Rattle.std.specs.Prelude.{Result, Ok, Err, IfOk}
use Prim.Native.Nat.{ℕ, ◌-◌, ◌*◌, ◌≤◌, ◌<◌}
use mathlib.Core.Path.{◌≡◌, refl, sym, ◌∙◌}
use mathlib.Core.Bool.{not}
use mathlib.Core.List.{List, [], ◌∷◌}
use native.Mathlib.Decide.{dec_le}
use native.Mathlib.Omega.{arith}
use Rattle.member.specs.Fields.{MOST_MEMBERS}
use lib.Dec.{eqb, leb}
use lib.Seq.{get_or-take}
use borrow.Author.Tests.{eq-eqb, ne_eqb, le-leb, leb-true}
use Rattle.member.specs.Format.{AllowedMember, AllowedVehicle, In, ◌‥◌}
use Rattle.member.specs.declared.record.Member.{Member}
use Rattle.member.specs.declared.record.Vehicle.{Vehicle}
use Rattle.rating.specs.Judgement.{judgement_of}
use Rattle.rating.specs.Surveyed.{AllowedSurvey, member_at}
use Rattle.files.specs.Reading.{Reading, ◌unless◌, is_in, taken}
use Rattle.surveys.specs.SurveyFile.{read_survey}
use Rattle.vehicles.specs.VehicleFile.{VEHICLE_VERSIONS, read_vehicle, blank_vehicle}
use Rattle.files.specs.declared.Refusal.{Refusal}
use Rattle.files.proofs.Faults.{reading_case}
use Rattle.files.proofs.Tests.{not_none, none, passed, in_range, range_in, refutes}
use Rattle.vehicles.proofs.Vehicles.{taken_vehicle_allowed}
use Rattle.between.proofs.Pairs.{taken_survey_allowed}
use Rattle.session.specs.Answers.{Answer, Values, refused_by, judgement_answer}
use Rattle.session.specs.Calls.{Valid, new_session, members, state_fault, rate_fault, judge_fault, load_survey, load_vehicle, judge, load_files, unless_fault, stored_vehicle, then_judge, judge_files}
use Rattle.session.specs.Yard.{alone}
use Rattle.session.specs.Place.{FoundAt, NotFoundAt, fault_at}
use Rattle.session.specs.Loaded.{Session}

-- a survey and a vehicle are loaded
pub record Ready (members axles : ℕ) : Type 0 where
  pub survey : 0 < members
  pub vehicle : 0 < axles

state_clear : (members axles : ℕ) → state_fault members axles ≡ 0 → Ready members axles
unfolding state_fault
state_clear members axles e =
    let first = none (11 unless not (eqb members 0)) (12 unless not (eqb axles 0) ∷ []) e in
    let second = none (12 unless not (eqb axles 0)) [] first.1 in
    record {
      survey = not_none members (passed 11 (not (eqb members 0)) (omega arith) first.0);
      vehicle = not_none axles (passed 12 (not (eqb axles 0)) (omega arith) second.0);
    }

rate_clear : (members axles place : ℕ) → rate_fault members axles place ≡ 0 → Ready members axles × (In (1 ‥ members) place)
unfolding rate_fault
rate_clear members axles place e =
    let first = none (state_fault members axles) (13 unless is_in (1 ‥ members) place ∷ []) e in
    let second = none (13 unless is_in (1 ‥ members) place) [] first.1 in
    (state_clear members axles first.0, in_range (1 ‥ members) place (passed 13 (is_in (1 ‥ members) place) (omega arith) second.0))

pub judge_clear : (members axles entries : ℕ) → judge_fault members axles entries ≡ 0 → Ready members axles × (2 * members ≤ entries)
unfolding judge_fault
judge_clear members axles entries e =
    let first = none (state_fault members axles) (14 unless leb (2 * members) entries ∷ []) e in
    let second = none (14 unless leb (2 * members) entries) [] first.1 in
    (state_clear members axles first.0, leb-true (2 * members) entries (passed 14 (leb (2 * members) entries) (omega arith) second.0))

-- a session that is new, and one with a file that was taken, is valid
pub valid_new : Valid new_session
valid_new = record { survey = λ h. absurd (omega arith); vehicle = λ h. absurd (omega arith) }

pub valid_survey : (s : Session) (bytes : List ℕ) → Valid s → (read_survey bytes).answer ≡ (Ok tt) → Valid (record { survey = (read_survey bytes).survey; vehicle = s.vehicle })
valid_survey s bytes h e = record { survey = λ l. taken_survey_allowed bytes e; vehicle = h.vehicle }

-- what was read, where it is taken, is allowed
pub allowed_read : (a : Reading) (v : Vehicle) {r : Result Vehicle Refusal} → r ≡ taken a v → (a ≡ Ok tt → AllowedVehicle v) → IfOk r AllowedVehicle
allowed_read (Ok tt) v e h = rw e (h refl)
allowed_read (Err f) v e h = rw e tt

pub valid_with : (s : Session) (v : Vehicle) → Valid s → AllowedVehicle v → Valid (record { survey = s.survey; vehicle = v })
valid_with s v h a = record { survey = h.survey; vehicle = λ l. a }

pub valid_vehicle : (s : Session) (bytes : List ℕ) → Valid s → (read_vehicle bytes).answer ≡ (Ok tt) → Valid (record { survey = s.survey; vehicle = (read_vehicle bytes).vehicle })
valid_vehicle s bytes h e = valid_with s _ h (taken_vehicle_allowed VEHICLE_VERSIONS bytes e)

-- a survey has at most as many members as a file can
pub few_members : (s : Session) → Valid s → s.survey.count ≤ MOST_MEMBERS
few_members s h = elim (dec_le s.survey.count 0) [ yes l ↦ omega arith | no l ↦ (h.survey (omega arith)).count.1 ]

-- where rate's tests find no fault the place is of the survey, and the member there and the vehicle are allowed
pub record AtPlace (s : Session) (place : ℕ) : Type 0 where
  pub first : 1 ≤ place
  pub index : place - 1 < MOST_MEMBERS
  pub member : AllowedMember (member_at s.survey.members (place - 1))
  pub vehicle : AllowedVehicle s.vehicle
  pub used : member_at (members s) (place - 1) ≡ member_at s.survey.members (place - 1)

pub at_place : (s : Session) (place : ℕ) → Valid s → rate_fault s.survey.count s.vehicle.axles place ≡ 0 → AtPlace s place
at_place s place valid e =
    let clear = rate_clear s.survey.count s.vehicle.axles place e in
    let survey = valid.survey clear.0.survey in
    let inside : place - 1 < s.survey.count = omega (arith, clear.1) in
    record {
      first = clear.1.0;
      index = omega (arith, survey.count);
      member = survey.members (place - 1) inside;
      vehicle = valid.vehicle clear.0.vehicle;
      used = get_or-take s.survey.count s.survey.members (place - 1) _ inside;
    }

-- the member there, as the code finds it
pub found_at : (s : Session) (place : ℕ) → Valid s → fault_at s place ≡ 0 → (m : Member) → m ≡ member_at s.survey.members (place - 1) → FoundAt s place m
found_at s place valid clear m e =
    let there = at_place s place valid clear in
    record { clear = clear; is = e ∙ sym there.used; member = rw e there.member; vehicle = there.vehicle }

-- the answer of a call on a place, by what was found there
pub place_clear : (s : Session) (place : ℕ) (m : Member) (a : Answer) → FoundAt s place m → a ≡ unless_fault (fault_at s place) a
place_clear s place m a h = rw (eq-eqb (fault_at s place) 0 h.clear)

pub place_faulty : (s : Session) (place : ℕ) (f : Refusal) (a : Answer) → NotFoundAt s place f → refused_by f ≡ unless_fault (fault_at s place) a
place_faulty s place f a h = rw (h.is, ne_eqb (fault_at s place) 0 h.fault)

-- a load by its answer: what was read is stored, or nothing is
module _ (s : Session) (bytes : List ℕ) where
  pub survey_stored : (read_survey bytes).answer ≡ Ok tt →
      load_survey s bytes ≡ record { session = record { survey = (read_survey bytes).survey; vehicle = s.vehicle }; answer = Values [] }
  unfolding load_survey
  survey_stored t = rw t

  pub survey_kept : (f : Refusal) → (read_survey bytes).answer ≡ Err f → load_survey s bytes ≡ record { session = s; answer = refused_by f }
  unfolding load_survey
  survey_kept f t = rw t

-- both loads, by the answer of the first
module _ (survey vehicle : List ℕ) where
  pub first_refused : (f : Refusal) → (read_survey survey).answer ≡ Err f → load_files survey vehicle ≡ record { session = new_session; answer = refused_by f }
  unfolding load_files load_survey
  first_refused f t = rw t

  pub second_loaded : (read_survey survey).answer ≡ Ok tt →
      load_files survey vehicle ≡ load_vehicle (record { survey = (read_survey survey).survey; vehicle = blank_vehicle }) vehicle
  unfolding load_files load_survey
  second_loaded t = rw t

-- the first of rate's tests that fails
module _ (members axles place : ℕ) where
  pub no_survey_fault : members ≡ 0 → rate_fault members axles place ≡ 11
  unfolding rate_fault state_fault
  no_survey_fault e = rw e

  pub no_vehicle_fault : 0 < members → axles ≡ 0 → rate_fault members axles place ≡ 12
  unfolding rate_fault state_fault
  no_vehicle_fault hm e = rw (ne_eqb members 0 (omega arith), e)

  pub no_place_fault : 0 < members → 0 < axles → ¬ (In (1 ‥ members) place) → rate_fault members axles place ≡ 13
  unfolding rate_fault state_fault
  no_place_fault hm ha hp = rw (ne_eqb members 0 (omega arith), ne_eqb axles 0 (omega arith), refutes (is_in (1 ‥ members) place) (in_range _ _) hp)

-- no fault where both files are loaded and the place, or the list, is right
pub rate_ready : (members axles place : ℕ) → 0 < members → 0 < axles → In (1 ‥ members) place → rate_fault members axles place ≡ 0
unfolding rate_fault state_fault
rate_ready members axles place hm ha hp =
    rw (ne_eqb members 0 (omega arith), ne_eqb axles 0 (omega arith), range_in (1 ‥ members) place hp)

pub judge_ready : (members axles entries : ℕ) → 0 < members → 0 < axles → 2 * members ≤ entries → judge_fault members axles entries ≡ 0
unfolding judge_fault state_fault
judge_ready members axles entries hm ha he =
    rw (ne_eqb members 0 (omega arith), ne_eqb axles 0 (omega arith), le-leb (2 * members) entries he)

-- a vehicle loaded alone and judged, by how its file was read
module _ (s : Session) (bytes : List ℕ) where
  pub alone_refused : (f : Refusal) → (read_vehicle bytes).answer ≡ Err f → alone s bytes ≡ refused_by f
  unfolding alone then_judge load_vehicle
  alone_refused f e = rw (alone, e)

  pub alone_taken : AllowedSurvey s.survey → (read_vehicle bytes).answer ≡ (Ok tt) → alone s bytes ≡ judgement_answer (judgement_of (members s) (read_vehicle bytes).vehicle)
  unfolding alone then_judge load_vehicle judge
  alone_taken a e =
      rw (alone, e, judge_ready s.survey.count (read_vehicle bytes).vehicle.axles (2 * MOST_MEMBERS) (omega (arith, a.count)) (omega (arith, (taken_vehicle_allowed VEHICLE_VERSIONS bytes e).axles)) (omega (arith, a.count)))

  -- the vehicle that was loaded before does not matter
  pub alone_by_survey : (v : Vehicle) → alone (record { survey = s.survey; vehicle = v }) bytes ≡ alone s bytes
  unfolding alone then_judge load_vehicle
  alone_by_survey v =
      reading_case (read_vehicle bytes).answer
      (λ a. (then_judge (stored_vehicle (record { survey = s.survey; vehicle = v }) a (read_vehicle bytes).vehicle)).answer ≡ (then_judge (stored_vehicle s a (read_vehicle bytes).vehicle)).answer)
      (λ e. refl) (λ f e. refl)

-- both files, by how the survey was read
module _ (survey vehicle : List ℕ) where
  pub files_refused : (f : Refusal) → (read_survey survey).answer ≡ Err f → (judge_files survey vehicle).answer ≡ refused_by f
  unfolding judge_files then_judge load_files load_survey
  files_refused f e = rw e

  pub files_alone : (read_survey survey).answer ≡ (Ok tt) → (judge_files survey vehicle).answer ≡ alone (record { survey = (read_survey survey).survey; vehicle = blank_vehicle }) vehicle
  unfolding judge_files alone load_files load_survey
  files_alone e = rw e
