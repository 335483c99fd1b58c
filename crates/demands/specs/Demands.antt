-- The three demands, each a record whose parts stand under the sentence that they state. proofs/Demands.antt proves each of them, of
-- the calls' definitions (session/specs: Calls, Yard, Readings, Gauging, Coupling; convert/specs/Convert.antt; join/specs/Join.antt); the contracts of
-- `Session`, of `convert` and of `join` tie the code to those.
use Rattle.std.specs.Prelude.{ℕ, ◌<◌, ◌≡◌, List, [], ◌∷◌, ◌⊎◌, ◌↔◌, length}
use Rattle.rating.specs.Compare.{Matching, SamePlaces, Heavier}
use Rattle.member.specs.Format.{In, ◌‥◌}
use Rattle.member.specs.Formula.{Permitted}
use Rattle.rating.specs.Judgement.{judgement_of}
use Rattle.member.specs.PermittedLoad.{formula_of}
use Rattle.rating.specs.Surveyed.{member_at}
use Rattle.member.specs.declared.record.Member.{Member}
use Rattle.member.specs.declared.record.Vehicle.{Vehicle}
use Rattle.surveys.specs.Allowed.{AllowedSurveyFile}
use Rattle.vehicles.specs.Allowed.{AllowedVehicleFile}
use Rattle.member.specs.Counts.{CountByteHolds}
use Rattle.surveys.specs.Longer.{LongerTrestles}
use Rattle.surveys.specs.Refused.{SurveyRefusal}
use Rattle.vehicles.specs.Refused.{VehicleRefusal}
use Rattle.surveys.specs.SurveyFile.{records_of, survey_of}
use Rattle.vehicles.specs.VehicleFile.{vehicle_of}
use Rattle.files.specs.declared.Refusal.{Refusal}
use Rattle.between.specs.declared.Between.{Between}
use Rattle.vehicles.specs.Alike.{SameNumbers}
use Rattle.couple.specs.Fault.{MayBeCoupled}
use Rattle.convert.specs.Claims.{Writes, written, ConvertAnswered, ConvertTaken}
use Rattle.convert.specs.declared.Wanted.{Wanted}
use Rattle.join.specs.Claims.{Writes as JoinWrites, written as joinedSurvey, ListedMustAgree, MeanTaken, MeanInRange, OtherMember, JoinAnswered, JoinTaken}
use Rattle.session.specs.Answers.{Values, RefusedAt, refused_by, judgement_answer}
use Rattle.session.specs.Calls.{Valid, new_session, members, load_survey, load_vehicle, rate, judge, judge_list, judge_files}
use Rattle.demands.specs.History.{Call, LoadSurvey, LoadVehicle, after, TakesSurvey, TakesVehicle, NoneTakes, LastTakes, TakenLast, CoupledLast, Holds}
use Rattle.demands.specs.Parts.{FromState, RefusedBoth, Answers, FilesAnswered, Margin, Governs, Covers, Falls, permitted_at, vehicle_load_at, judgement_in}
use Rattle.gauge.specs.Claims.{LosesNothing}
use Rattle.gauge.specs.declared.Readings.{Readings}
use Rattle.session.specs.Gauging.{gauge}
use Rattle.demands.specs.GaugeCall.{GaugeAnswered, GaugeTaken}
use Rattle.session.specs.Readings.{judge_between}
use Rattle.demands.specs.ReadingsCall.{Gives, BetweenAnswered, BetweenTaken, BetweenBounds}
use Rattle.session.specs.Yard.{Entry, judge_yard}
use Rattle.demands.specs.YardCall.{YardAnswered, YardTaken}
use Rattle.demands.specs.CoupleCall.{coupled_file, CoupleAnswered, CoupleTaken, CoupledLoads}
use Rattle.session.specs.Loaded.{Session}

-- Demand 1. "Every call ends" is what the checker shows of every function that it accepts; the calls below are total.
pub record Demand1 : Type 0 where
  -- "The two files, as bytes of any length, are taken, or refused by a number of the list with the record named."
  pub survey_answered : (s : Session) (bytes : List ℕ) →
      ((load_survey s bytes).answer ≡ Values []) ⊎
      ((r : Refusal) × ((load_survey s bytes).answer ≡ refused_by r) × SurveyRefusal bytes r)
  pub vehicle_answered : (s : Session) (bytes : List ℕ) →
      ((load_vehicle s bytes).answer ≡ Values []) ⊎
      ((r : Refusal) × ((load_vehicle s bytes).answer ≡ refused_by r) × VehicleRefusal bytes r)
  -- a refusal names one number and one place: the file is refused by no other
  pub survey_named : (s : Session) (bytes : List ℕ) (r : Refusal) → SurveyRefusal bytes r → (load_survey s bytes).answer ≡ refused_by r
  pub vehicle_named : (s : Session) (bytes : List ℕ) (r : Refusal) → VehicleRefusal bytes r → (load_vehicle s bytes).answer ≡ refused_by r
  pub rate_answered : (s : Session) (place : ℕ) → FromState (In (11 ‥ 13)) (rate s place).answer
  pub judge_answered : (s : Session) (list : List ℕ) → FromState (λ n. (In (11 ‥ 12) n) ⊎ (n ≡ 14)) (judge s list).answer
  -- "11 no survey; 12 no vehicle": where the calls from a new session took none
  pub no_survey : (calls : List Call) → NoneTakes TakesSurvey new_session calls → RefusedBoth (after new_session calls) 11
  pub no_vehicle : (calls : List Call) (survey : List ℕ) → LastTakes TakesSurvey (LoadSurvey survey) new_session calls →
      NoneTakes TakesVehicle new_session calls →
      RefusedBoth (after new_session calls) 12
  -- all that the calls' contracts ask of a session: it holds after any calls from a new one
  pub valid : (calls : List Call) → Valid (after new_session calls)
  -- "A refused file or call leaves survey, vehicle and answer list untouched."
  pub survey_kept : (s : Session) (bytes : List ℕ) (n p : ℕ) →
      (load_survey s bytes).answer ≡ RefusedAt n p → (load_survey s bytes).session ≡ s
  pub vehicle_kept : (s : Session) (bytes : List ℕ) (n p : ℕ) →
      (load_vehicle s bytes).answer ≡ RefusedAt n p → (load_vehicle s bytes).session ≡ s
  pub rate_keeps : (s : Session) (place : ℕ) → (rate s place).session ≡ s
  pub judge_keeps : (s : Session) (list : List ℕ) → (judge s list).session ≡ s
  pub list_kept : (s : Session) (list : List ℕ) (n p : ℕ) →
      (judge s list).answer ≡ RefusedAt n p → judge_list s list ≡ list
  -- the same of the yard's call, document 02, request 3/13
  pub yard_no_survey : (calls : List Call) → NoneTakes TakesSurvey new_session calls → (yard : List ℕ) (list : List Entry) →
      (judge_yard (after new_session calls) yard list).answer ≡ RefusedAt 11 0
  pub yard_answered : (s : Session) → Valid s → (yard : List ℕ) (list : List Entry) → YardAnswered s yard list
  -- and of the call on two readings, request 5/13
  pub between_no_vehicle : (calls : List Call) → NoneTakes TakesVehicle new_session calls → (first second list : List ℕ) →
      (judge_between (after new_session calls) first second list).answer ≡ RefusedAt 12 0
  pub between_answered : (s : Session) (first second list : List ℕ) → BetweenAnswered s first second list
  -- and of the call on a gauge's readings, request 11/13
  pub gauge_no_survey : (calls : List Call) → NoneTakes TakesSurvey new_session calls → (place : ℕ) (r : Readings) →
      (gauge (after new_session calls) place r).answer ≡ RefusedAt 11 0
  pub gauge_no_vehicle : (calls : List Call) (survey : List ℕ) → LastTakes TakesSurvey (LoadSurvey survey) new_session calls →
      NoneTakes TakesVehicle new_session calls →
      (place : ℕ) (r : Readings) →
      (gauge (after new_session calls) place r).answer ≡ RefusedAt 12 0
  pub gauge_answered : (s : Session) (place : ℕ) (r : Readings) → GaugeAnswered s place r
  -- and of the call that couples two vehicles, request 13/13
  pub couple_answered : (s : Session) (first second : List ℕ) (gap : ℕ) → CoupleAnswered s first second gap
  -- and of the converter, request 9/13, which needs no session
  pub convert_answered : (wanted : Wanted) (file out : List ℕ) → ConvertAnswered wanted file out
  -- and of the join of two surveys, request 10/13: "the joined survey is not loaded", so it needs none either
  pub join_answered : (first second out : List ℕ) → JoinAnswered first second out

-- Demand 2.
pub record Demand2 : Type 0 where
  -- "a file is taken exactly when that document allows it", and is then what the session holds
  pub survey_taken : (s : Session) (bytes : List ℕ) → ((load_survey s bytes).answer ≡ Values []) ↔ AllowedSurveyFile bytes
  pub vehicle_taken : (s : Session) (bytes : List ℕ) → ((load_vehicle s bytes).answer ≡ Values []) ↔ AllowedVehicleFile bytes
  pub survey_held : (s : Session) (bytes : List ℕ) → AllowedSurveyFile bytes →
      (load_survey s bytes).session ≡ record { survey = survey_of bytes; vehicle = s.vehicle }
  pub vehicle_held : (s : Session) (bytes : List ℕ) → AllowedVehicleFile bytes →
      (load_vehicle s bytes).session ≡ record { survey = s.survey; vehicle = vehicle_of bytes }
  -- "Permitted load and vehicle load of every member, the bridge's figure, governing member and verdict are those of VSN 12-73 as
  -- condensed in document 01"; document 02, request 6/13: "Demand 2's governing member is now this one"
  pub answers : (s : Session) → 0 < s.survey.count → 0 < s.vehicle.axles → Answers s
  pub governs : (ms : List Member) (v : Vehicle) → 0 < length ms → Governs ms v (judgement_of ms v)
  -- and the margin of a member, document 02, request 6/13
  pub margins : (m : Member) (v : Vehicle) → Margin m v
  -- the same on the bytes of both files
  pub files_judged : (survey vehicle : List ℕ) → AllowedSurveyFile survey → AllowedVehicleFile vehicle →
      (judge_files survey vehicle).answer ≡ judgement_answer (judgement_in (record { survey = survey_of survey; vehicle = vehicle_of vehicle }))
  -- and of the yard, document 02, request 3/13: "Every answer is that of loading that vehicle alone and judging."
  pub yard_judged : (s : Session) → Valid s → (yard : List ℕ) (list : List Entry) → YardTaken s yard list
  -- and of two readings, request 5/13: the bounds and the verdict are those of the two surveys, each loaded
  pub between_judged : (s : Session) (first second list : List ℕ) → BetweenTaken s first second list
  -- request 9/13: bytes are written exactly when the request allows it, "with every number kept", and "there and back gives the same bytes"
  pub converted : (wanted : Wanted) (file out : List ℕ) → ConvertTaken wanted file out
  -- "A vehicle rates alike in both versions.": of two files with the same numbers, whatever their versions, the same vehicle is held and the load
  -- answers alike, so that every call after it does; and so of a file and what is written of it
  pub rates_alike : (s : Session) (file file' : List ℕ) → AllowedVehicleFile file → AllowedVehicleFile file' → SameNumbers file file' →
      load_vehicle s file' ≡ load_vehicle s file
  pub converted_alike : (s : Session) (wanted : Wanted) (file out : List ℕ) (n : ℕ) → Writes wanted file out n →
      load_vehicle s (written wanted file out n) ≡ load_vehicle s file
  -- request 10/13: two surveys are joined exactly when the request allows it. Which fields must agree, and which half of a mean goes up; another kind
  -- or code is 18
  pub joined : (first second out : List ℕ) → JoinTaken first second out
  pub must_agree : ListedMustAgree
  pub mean_taken : MeanTaken
  pub other_member : OtherMember
  -- "A mean outside its range cannot arise, and this is to be shown.": of two records, and of surveys: the load call takes the joined one
  pub mean_in_range : MeanInRange
  pub joined_loads : (s : Session) (first second out : List ℕ) (n : ℕ) → JoinWrites first second out n →
      (load_survey s (joinedSurvey first second out n)).answer ≡ Values []
  -- request 11/13: a gauge's readings under a member give its elastic deflection, within the limit or over it; "the subtraction loses nothing, and
  -- that is to be shown"
  pub gauged : (s : Session) (place : ℕ) (r : Readings) → GaugeTaken s place r
  pub loses_nothing : LosesNothing
  -- request 12/13: "The count byte holds it and old files read as before. A file of more than 64 records, once refusal 3, is taken where it is
  -- otherwise good" (`survey_taken`, with the new limit) "and else gets its own refusal; a count of 0 still gives 3."
  pub count_byte_holds : CountByteHolds
  pub longer_trestles : LongerTrestles
  -- request 13/13: two vehicle files are coupled and loaded exactly when the request allows it, and the session then holds the coupled vehicle
  pub coupled : (s : Session) (first second : List ℕ) (gap : ℕ) → CoupleTaken s first second gap

-- Demand 3.
pub record Demand3 : Type 0 where
  -- it is said of demand 2's figures and verdicts, which are what rate and judge answer and write wherever the call succeeds
  pub said_of : (s : Session) (survey vehicle : List ℕ) → Holds s survey vehicle → Answers s
  -- "The permitted load is 0 where its exact value is negative; else never above it and less than one unit below."
  pub permitted_load : (s : Session) (survey vehicle : List ℕ) → Holds s survey vehicle → (i : ℕ) → i < length (members s) →
      Permitted (formula_of (member_at (members s) i) s.vehicle.class s.vehicle.track.0) (permitted_at s i)
  -- "The vehicle load is at least what every half-centimetre position in either direction gives, and less than one unit above .."
  pub vehicle_load : (s : Session) (survey vehicle : List ℕ) → Holds s survey vehicle → (i : ℕ) → i < length (members s) →
      Covers (member_at (members s) i) s.vehicle (vehicle_load_at s i)
  -- "For any two accepted surveys, each with an accepted vehicle, the second with each rot, lost area, dead load and axle weight as great
  -- or greater, members added .., axles added behind, all else alike". Document 02, request 8/13: "An added member may now stand anywhere the
  -- order puts it, and the claim about two surveys holds for every way of matching each record of the first with one of the second, no two
  -- with the same, whatever their places and versions; matched records are the shared members." Request 2/13: "what demand 3 says of the
  -- permitted loads, figure and verdicts of two surveys now has one more premise: a kind 7 record has the same rot in both surveys, deck rot
  -- included. All else of the claim stands." `Falls` has the premise where it is asked. The vehicles are compared by their numbers, whatever the
  -- versions of their files, request 9/13
  pub falling : (s s' : Session) (survey vehicle survey' vehicle' : List ℕ) → Holds s survey vehicle → Holds s' survey' vehicle' →
      (way : Matching (members s) (members s')) →
      Heavier s.vehicle s'.vehicle →
      Falls s s' way.partner
  -- so of document 01's shared members: the same place in both surveys, "members added at the end"
  pub falling_in_place : (s s' : Session) (survey vehicle survey' vehicle' : List ℕ) → Holds s survey vehicle → Holds s' survey' vehicle' →
      SamePlaces (members s) (members s') →
      Heavier s.vehicle s'.vehicle →
      Falls s s' (λ i. i)
  -- The premise is met by calls alone: after any row of calls, whatever was held before it, whatever among them was refused, rated or
  -- judged, the session holds the files that were taken last
  pub held : (s : Session) (calls : List Call) (survey vehicle : List ℕ) → TakenLast s calls survey vehicle →
      Holds (after s calls) survey vehicle
  -- so after a load of each, in either order
  pub held_in_turn : (survey vehicle : List ℕ) → AllowedSurveyFile survey → AllowedVehicleFile vehicle →
      Holds (after new_session (LoadSurvey survey ∷ LoadVehicle vehicle ∷ [])) survey vehicle
  pub held_in_reverse : (survey vehicle : List ℕ) → AllowedSurveyFile survey → AllowedVehicleFile vehicle →
      Holds (after new_session (LoadVehicle vehicle ∷ LoadSurvey survey ∷ [])) survey vehicle
  -- and after two vehicles that were coupled, request 13/13: the session holds the coupled vehicle's file, so that all that is said here of a session
  -- that holds two files is said of it
  pub held_coupled : (s : Session) (calls : List Call) (survey first second : List ℕ) (gap : ℕ) → CoupledLast s calls survey first second gap →
      Holds (after s calls) survey (coupled_file first second gap)
  -- so no call leaves the claim: after any calls from a new session rate and judge are refused, since no survey or no vehicle was taken, or the
  -- session holds two accepted files
  pub held_or_refused : (calls : List Call) → let s = after new_session calls in
      (RefusedBoth s 11) ⊎ ((RefusedBoth s 12) ⊎ ((survey vehicle : List ℕ) × Holds s survey vehicle))
  -- what is answered and written there, and what is said above of these figures
  pub answered : (s : Session) (calls : List Call) (survey vehicle : List ℕ) → TakenLast s calls survey vehicle →
      FilesAnswered (after s calls) survey vehicle
  -- so of any session that holds two files
  pub held_answered : (s : Session) (survey vehicle : List ℕ) → Holds s survey vehicle → FilesAnswered s survey vehicle
  -- and of two rows of calls, for every way of matching the files' records
  pub falling_after : (s s' : Session) (calls calls' : List Call) (survey vehicle survey' vehicle' : List ℕ) →
      TakenLast s calls survey vehicle →
      TakenLast s' calls' survey' vehicle' →
      (way : Matching (records_of survey) (records_of survey')) →
      Heavier (vehicle_of vehicle) (vehicle_of vehicle') →
      Falls (after s calls) (after s' calls') way.partner
  -- so of records at the same places
  pub falling_in_place_after : (s s' : Session) (calls calls' : List Call) (survey vehicle survey' vehicle' : List ℕ) →
      TakenLast s calls survey vehicle →
      TakenLast s' calls' survey' vehicle' →
      SamePlaces (records_of survey) (records_of survey') →
      Heavier (vehicle_of vehicle) (vehicle_of vehicle') →
      Falls (after s calls) (after s' calls') (λ i. i)
  -- document 02, request 5/13: "Every survey between the two, field by field, must have its figures within those bounds"
  pub between : (s : Session) (first second list : List ℕ) (b : Between) → Gives s first second list b → BetweenBounds s first second list b
  -- and of two vehicles coupled, request 13/13: "For every member the coupled load is at most the sum of the two loads, and at least each of them."
  pub coupled_loads : (one two both : Session) (survey first second : List ℕ) (gap : ℕ) → MayBeCoupled first second gap →
      Holds one survey first → Holds two survey second → Holds both survey (coupled_file first second gap) →
      CoupledLoads one two both
