-- The three demands hold: each part from the law of the crate whose matter it is, and from the cases of the calls' definitions.
-- Assumes nothing.
use Prim.Native.Nat.{ℕ, ◌*◌, ◌<◌}
use mathlib.Core.Path.{◌≡◌, refl, sym, ap, subst, ◌∙◌}
use mathlib.Core.Bool.{Bool, true, false, not}
use mathlib.Core.List.{List, [], ◌∷◌}
use mathlib.Core.Logic.{◌⊎◌, inl, inr, ⊎_elim}
use native.Mathlib.Omega.{arith}
use lib.Dec.{eqb, leb}
use lib.IntN.{ℤ}
use lib.ListN.{length}
use borrow.Author.Tests.{ne_eqb, eqb-false, lt-leb}
use Rattle.section.specs.Choose.{choose}
use Rattle.rating.specs.Compare.{Matching, SamePlaces, Heavier}
use Rattle.member.specs.Format.{AllowedMember, AllowedVehicle, In, ◌‥◌}
use Rattle.member.specs.Formula.{Permitted}
use Rattle.member.specs.PermittedLoad.{formula_of}
use Rattle.rating.specs.Judgement.{permitted_for, judgement_of, written}
use Rattle.rating.specs.Surveyed.{AllowedSurvey, AllowedMembers, member_at}
use Rattle.section.specs.Units.{weight}
use Rattle.influence.specs.Influence.{behind}
use Rattle.influence.proofs.Greatest.{greatest_given}
use Rattle.influence.proofs.Scaled.{mirrored, gives_sound}
use Rattle.rating.specs.VehicleLoad.{vehicle_load_on}
use Rattle.member.specs.declared.record.Member.{Member}
use Rattle.member.specs.declared.record.Vehicle.{Vehicle}
use Rattle.member.proofs.Falling.{permitted_load_exact}
use Rattle.rating.proofs.Judged.{vehicle_load_rises, permitted_falls, member_stays_refused, figure_falls, bridge_stays_refused, same_places}
use Rattle.rating.proofs.Lines.{line_sized, vehicle_load_covers, vehicle_load_rounded_up}
use Rattle.rating.proofs.Governing.{figure_least, figure_had, governing_within, governing_margin, governing_least, governing_first, margin_difference, rating_decides, rating_margin, judgement_decides}
use Rattle.rating.proofs.Surveys.{members_counted, members_allowed}
use Rattle.surveys.specs.Allowed.{AllowedSurveyFile}
use Rattle.vehicles.specs.Allowed.{AllowedVehicleFile}
use Rattle.surveys.specs.Refused.{SurveyRefusal}
use Rattle.vehicles.specs.Refused.{VehicleRefusal}
use Rattle.files.specs.Reading.{◌unless◌, is_in}
use Rattle.surveys.specs.SurveyFile.{count_of, record_at, records_of, read_survey, survey_of}
use Rattle.vehicles.specs.VehicleFile.{VEHICLE_VERSIONS, read_vehicle, blank_vehicle, vehicle_of}
use Rattle.files.specs.declared.Refusal.{Refusal}
use Rattle.files.proofs.Tests.{first_is, rows_is}
use Rattle.files.proofs.Faults.{reading_case}
use Rattle.surveys.proofs.Surveys as surveys
use Rattle.vehicles.proofs.Vehicles as vehicles
use Rattle.between.specs.Fault.{no_vehicle}
use Rattle.between.proofs.Pairs.{taken_survey_allowed, survey_members}
use Rattle.between.proofs.Within.{record_at_lem, counted}
use Rattle.convert.specs.Claims.{written as converted-bytes}
use Rattle.vehicles.proofs.Alike.{read_alike}
use Rattle.convert.proofs.Claims.{convert_answered, convert_taken}
use Rattle.join.specs.Claims.{written as joinedSurvey}
use Rattle.join.proofs.Claims.{mean_in_range, other_member, join_answered, join_taken}
use Rattle.join.proofs.Tables.{listed_must_agree, mean_taken}
use Rattle.session.specs.Answers.{Outcome, Values, WithMargin, RefusedAt, refused_by, judgement_answer}
use Rattle.session.specs.Calls.{new_session, members, state_fault, rate_fault, judge_fault, load_survey, load_vehicle, stored_survey, stored_vehicle, unless_fault, rate, judge, judge_list, load_files, judge_files}
use Rattle.demands.specs.Demands.{Demand1, Demand2, Demand3}
use Rattle.demands.specs.Parts.{FromState, RefusedBoth, Answers, FilesAnswered, Covers, Falls}
use Rattle.demands.specs.GaugeCall.{no_survey as no-gauge-survey, no_vehicle as no-gauge-vehicle}
use Rattle.demands.specs.History.{Call, LoadSurvey, TakesSurvey, TakesVehicle, NoneTakes, LastTakes, TakenLast, Holds, after}
use Rattle.demands.specs.YardCall.{no_survey}
use Rattle.session.specs.Loaded.{Session}
use Rattle.demands.proofs.History.{survey_stays, vehicle_stays, survey_last, last_held, held_coupled, LoadsSurvey, a_survey, LoadsVehicle, of_one, of_two, takes_survey, takes_vehicle, none_or_last, in_turn_lem, in_reverse, calls_valid}
use Rattle.session.proofs.Loads.{no_refusal, never_both, stored_kept, survey_read, vehicle_read, survey_load, vehicle_load, survey_refused, vehicle_refused, other_survey}
use Rattle.session.proofs.State.{valid_new, alone_taken, files_alone, no_survey_fault, no_vehicle_fault, no_place_fault}
use Rattle.demands.proofs.Answered.{all_answers}
use Rattle.member.proofs.Counts.{count_byte_holds}
use Rattle.surveys.proofs.Longer.{longer_trestles}
use Rattle.gauge.proofs.Claims.{loses_nothing}
use Rattle.couple.specs.Fault.{MayBeCoupled}
use Rattle.demands.specs.CoupleCall.{coupled_file, CoupledLoads}
use Rattle.demands.proofs.CoupleLaws.{couple_answered, couple_taken, file_is, loads_coupled}
use Rattle.demands.proofs.GaugeLaws.{gauge_answered, gauge_taken}
use Rattle.demands.proofs.ReadingsLaws.{between_answered, between_taken, between_bounds}
use Rattle.demands.proofs.YardLaws.{yard_answered, yard_taken}

-- a fault is an answer from the state, or there is none
fault_answer : (numbers : ℕ → Type 0) (n : ℕ) (values : List ℕ) (margin : ℤ) → (n ≡ 0) ⊎ numbers n → FromState numbers (unless_fault n (WithMargin values margin))
fault_answer numbers n values margin h = go (eqb n 0) refl h
  where
    go : (b : Bool) → eqb n 0 ≡ b → (n ≡ 0) ⊎ numbers n → FromState numbers (choose b (WithMargin values margin) (RefusedAt n 0))
    go true e h = inl (values, margin, refl)
    go false e (inl z) = absurd (eqb-false n 0 e z)
    go false e (inr h) = inr (n, h, refl)

-- the faults of the state, and one more test
state_number : (numbers : ℕ → Type 0) → numbers 11 → numbers 12 → (members axles : ℕ) → (state_fault members axles ≡ 0) ⊎ numbers (state_fault members axles)
unfolding state_fault
state_number numbers h11 h12 members axles =
    first_is (λ n. (n ≡ 0) ⊎ numbers n) 11 (not (eqb members 0)) (12 unless not (eqb axles 0) ∷ []) (inr h11)
    (first_is (λ n. (n ≡ 0) ⊎ numbers n) 12 (not (eqb axles 0)) [] (inr h12) (inl refl))

last_number : (numbers : ℕ → Type 0) (n : ℕ) (test : Bool) → numbers n → (n unless test ≡ 0) ⊎ numbers (n unless test)
last_number numbers n true h = inl refl
last_number numbers n false h = inr h

rate_number : (members axles place : ℕ) → (rate_fault members axles place ≡ 0) ⊎ In (11 ‥ 13) (rate_fault members axles place)
unfolding rate_fault
rate_number members axles place =
    rows_is (λ n. (n ≡ 0) ⊎ In (11 ‥ 13) n) (state_fault members axles) (13 unless is_in (1 ‥ members) place) (state_number (In (11 ‥ 13)) (omega arith) (omega arith) members axles)
    (last_number (In (11 ‥ 13)) 13 (is_in (1 ‥ members) place) (omega arith))

judge_number : (members axles entries : ℕ) → (judge_fault members axles entries ≡ 0) ⊎ ((In (11 ‥ 12) (judge_fault members axles entries)) ⊎ (judge_fault members axles entries ≡ 14))
unfolding judge_fault
judge_number members axles entries =
    rows_is (λ n. (n ≡ 0) ⊎ ((In (11 ‥ 12) n) ⊎ (n ≡ 14))) (state_fault members axles) (14 unless leb (2 * members) entries)
    (state_number (λ n. (In (11 ‥ 12) n) ⊎ (n ≡ 14)) (inl (omega arith)) (inl (omega arith)) members axles)
    (last_number (λ n. (In (11 ‥ 12) n) ⊎ (n ≡ 14)) 14 (leb (2 * members) entries) (inr refl))

list_untouched : (s : Session) (list : List ℕ) (n p : ℕ) → (judge s list).answer ≡ RefusedAt n p → judge_list s list ≡ list
unfolding judge judge_list
list_untouched s list n p = go (eqb (judge_fault s.survey.count s.vehicle.axles (length list)) 0)
  where
    go : (b : Bool) → choose b (judgement_answer (judgement_of (members s) s.vehicle)) (RefusedAt (judge_fault s.survey.count s.vehicle.axles (length list)) 0) ≡ RefusedAt n p →
        choose b (written s.vehicle (members s) list) list ≡ list
    go true e = no_refusal _ n p refl e
    go false e = refl

-- a survey that was taken has members
taken_loaded : (survey : List ℕ) → (load_survey new_session survey).answer ≡ Values [] → 0 < (load_survey new_session survey).session.survey.count
taken_loaded survey t =
    let e = survey_read new_session survey t in
    rw (survey_load new_session survey e) (surveys.taken_allowed survey e).count.0

some_survey : (calls : List Call) (survey : List ℕ) → LastTakes TakesSurvey (LoadSurvey survey) new_session calls → 0 < (after new_session calls).survey.count
some_survey calls survey h = rw (survey_last survey h).1 (taken_loaded survey (survey_last survey h).0)

-- where nothing is loaded
none_refused : (s : Session) → s.survey.count ≡ 0 → RefusedBoth s 11
unfolding rate judge judge_fault state_fault
none_refused s e = (λ place. rw (no_survey_fault s.survey.count s.vehicle.axles place e), λ list. rw e)

half_refused : (s : Session) → 0 < s.survey.count → s.vehicle.axles ≡ 0 → RefusedBoth s 12
unfolding rate judge judge_fault state_fault
half_refused s h e = (λ place. rw (no_vehicle_fault s.survey.count s.vehicle.axles place h e), λ list. rw (ne_eqb s.survey.count 0 (omega arith), e))

no_survey_taken : (calls : List Call) → NoneTakes TakesSurvey new_session calls → RefusedBoth (after new_session calls) 11
no_survey_taken calls h = none_refused (after new_session calls) (rw (survey_stays new_session calls h))

no_vehicle_taken : (calls : List Call) (survey : List ℕ) → LastTakes TakesSurvey (LoadSurvey survey) new_session calls → NoneTakes TakesVehicle new_session calls → RefusedBoth (after new_session calls) 12
no_vehicle_taken calls survey h n = half_refused (after new_session calls) (some_survey calls survey h) (rw (vehicle_stays new_session calls n))

pub demand1 : Demand1
unfolding load_survey load_vehicle rate judge
demand1 =
    record {
      survey_answered = λ s bytes.
          reading_case (read_survey bytes).answer
          (λ a. ((stored_survey s a (read_survey bytes).survey).answer ≡ Values []) ⊎ ((r : Refusal) × ((stored_survey s a (read_survey bytes).survey).answer ≡ refused_by r) × SurveyRefusal bytes r))
          (λ e. inl refl)
          (λ r e. inr (r, refl, surveys.refused_named bytes r e));
      vehicle_answered = λ s bytes.
          reading_case (read_vehicle bytes).answer
          (λ a. ((stored_vehicle s a (read_vehicle bytes).vehicle).answer ≡ Values []) ⊎ ((r : Refusal) × ((stored_vehicle s a (read_vehicle bytes).vehicle).answer ≡ refused_by r) × VehicleRefusal bytes r))
          (λ e. inl refl)
          (λ r e. inr (r, refl, vehicles.refused_named VEHICLE_VERSIONS bytes r e));
      survey_named = λ s bytes r h. survey_refused s bytes r (surveys.named_refused bytes r h);
      vehicle_named = λ s bytes r h. vehicle_refused s bytes r (vehicles.named_refused VEHICLE_VERSIONS bytes r h);
      rate_answered = λ s place. fault_answer (In (11 ‥ 13)) _ _ _ (rate_number s.survey.count s.vehicle.axles place);
      judge_answered = λ s list. fault_answer (λ n. (In (11 ‥ 12) n) ⊎ (n ≡ 14)) _ _ _ (judge_number s.survey.count s.vehicle.axles (length list));
      no_survey = no_survey_taken;
      no_vehicle = no_vehicle_taken;
      valid = λ calls. calls_valid new_session calls valid_new;
      survey_kept = λ s bytes n p.
          reading_case (read_survey bytes).answer (λ a. (stored_survey s a (read_survey bytes).survey).answer ≡ RefusedAt n p → (stored_survey s a (read_survey bytes).survey).session ≡ s)
          (λ e h. never_both [] n p h)
          (λ r e h. refl);
      vehicle_kept = λ s bytes. stored_kept s (read_vehicle bytes).answer (read_vehicle bytes).vehicle;
      rate_keeps = λ s place. refl;
      judge_keeps = λ s list. refl;
      list_kept = list_untouched;
      yard_no_survey = λ calls h yard list.
          (yard_answered (after new_session calls) (calls_valid new_session calls valid_new) yard list).named 11 0 (no_survey (rw (survey_stays new_session calls h)));
      yard_answered = yard_answered;
      between_no_vehicle = λ calls h first second list.
          (between_answered (after new_session calls) first second list).named 12 0 (no_vehicle (rw (vehicle_stays new_session calls h)));
      between_answered = between_answered;
      gauge_no_survey = λ calls h place r.
          (gauge_answered (after new_session calls) place r).named 11 0 (no-gauge-survey (rw (survey_stays new_session calls h)));
      gauge_no_vehicle = λ calls survey h n place r.
          (gauge_answered (after new_session calls) place r).named 12 0 (no-gauge-vehicle (some_survey calls survey h) (rw (vehicle_stays new_session calls n)));
      gauge_answered = gauge_answered;
      couple_answered = λ s first second gap. couple_answered first second gap s;
      convert_answered = convert_answered;
      join_answered = join_answered;
    }

files_answer : (survey vehicle : List ℕ) → AllowedSurveyFile survey → AllowedVehicleFile vehicle →
    (judge_files survey vehicle).answer ≡ judgement_answer (judgement_of (members (record { survey = survey_of survey; vehicle = vehicle_of vehicle })) (vehicle_of vehicle))
files_answer survey vehicle a b =
    let e = surveys.allowed_taken survey a in
    let f = vehicles.allowed_taken VEHICLE_VERSIONS vehicle b in
    files_alone survey vehicle e
    ∙ alone_taken (record { survey = (read_survey survey).survey; vehicle = blank_vehicle }) vehicle (taken_survey_allowed survey e) f
    ∙ rw (surveys.taken_survey survey e, vehicles.taken_vehicle VEHICLE_VERSIONS vehicle f)

-- an allowed survey file is taken
allowed_loads : (s : Session) (bytes : List ℕ) → AllowedSurveyFile bytes → (load_survey s bytes).answer ≡ Values []
allowed_loads s bytes a = ap (λ (o : Outcome). o.answer) (survey_load s bytes (surveys.allowed_taken bytes a))

-- files that are read alike are loaded alike
same_read : (s : Session) (file file' : List ℕ) → read_vehicle file' ≡ read_vehicle file → load_vehicle s file' ≡ load_vehicle s file
unfolding load_vehicle
same_read s file file' e = rw e

pub demand2 : Demand2
demand2 =
    record {
      survey_taken = λ s bytes. (
        λ h. surveys.taken_allowed bytes (survey_read s bytes h),
        allowed_loads s bytes,
      );
      vehicle_taken = λ s bytes. (
        λ h. vehicles.taken_allowed VEHICLE_VERSIONS bytes (vehicle_read s bytes h),
        λ a. ap (λ (o : Outcome). o.answer) (vehicle_load s bytes (vehicles.allowed_taken VEHICLE_VERSIONS bytes a)),
      );
      survey_held = λ s bytes a. ap (λ (o : Outcome). o.session) (survey_load s bytes (surveys.allowed_taken bytes a));
      vehicle_held = λ s bytes a. ap (λ (o : Outcome). o.session) (vehicle_load s bytes (vehicles.allowed_taken VEHICLE_VERSIONS bytes a));
      answers = all_answers;
      governs = λ ms v h.
          record {
            figure_least = figure_least ms v;
            figure_had = figure_had ms v h;
            within = governing_within ms v h;
            has = sym (governing_margin ms v h);
            least = governing_least ms v h;
            first = governing_first ms v h;
            decides = judgement_decides ms v h;
          };
      margins = λ m v. record { difference = margin_difference m v; decides = rating_decides m v; rated = rating_margin m v };
      files_judged = files_answer;
      yard_judged = yard_taken;
      between_judged = between_taken;
      converted = convert_taken;
      rates_alike = λ s file file' a a' same. same_read s file file' (read_alike file file' a a' same);
      converted_alike = λ s wanted file out n w. same_read s file (converted-bytes wanted file out n) ((convert_taken wanted file out).files n w).alike;
      joined = join_taken;
      must_agree = listed_must_agree;
      mean_taken = mean_taken;
      other_member = other_member;
      mean_in_range = mean_in_range;
      joined_loads = λ s first second out n w. allowed_loads s (joinedSurvey first second out n) ((join_taken first second out).files n w).allowed;
      gauged = gauge_taken;
      loses_nothing = loses_nothing;
      count_byte_holds = count_byte_holds;
      longer_trestles = longer_trestles;
      coupled = λ s first second gap. couple_taken first second gap s;
    }

-- both loads of two files: where they are taken the survey is allowed, and is what the session then holds
pub files_held : (survey vehicle : List ℕ) → (load_files survey vehicle).answer ≡ Values [] →
    AllowedSurveyFile survey × ((load_files survey vehicle).session.survey ≡ survey_of survey)
unfolding load_files
files_held survey vehicle h =
    ⊎_elim
    (λ e.
    let a = (demand2.survey_taken new_session survey).0 e in
    (a, rw e (other_survey (load_survey new_session survey).session vehicle ∙ ap (λ (s : Session). s.survey) (demand2.survey_held new_session survey a))))
    (λ f. never_both [] f.0.number f.0.place (sym (rw f.1 at h)))
    (demand1.survey_answered new_session survey)

-- what is held was taken, so it is allowed
module _ {s : Session} {survey vehicle : List ℕ} (h : Holds s survey vehicle) where
  held_survey : AllowedSurvey s.survey
  held_survey =
      let e = survey_read new_session survey h.survey_taken in
      rw (h.survey_held, survey_load new_session survey e, ← (surveys.taken_survey survey e)) (taken_survey_allowed survey e)

  held_vehicle : AllowedVehicle s.vehicle
  held_vehicle =
      let e = vehicle_read new_session vehicle h.vehicle_taken in
      rw (h.vehicle_held, vehicle_load new_session vehicle e, ← (vehicles.taken_vehicle VEHICLE_VERSIONS vehicle e)) (vehicles.taken_vehicle_allowed VEHICLE_VERSIONS vehicle e)

  held_members : AllowedMembers (members s)
  held_members = members_allowed held_survey

  held_answers : Answers s
  held_answers = all_answers s held_survey.count.0 held_vehicle.axles.0

  -- the files' own survey, records and numbers
  held_session : s ≡ record { survey = survey_of survey; vehicle = vehicle_of vehicle }
  held_session =
      let e = survey_read new_session survey h.survey_taken in
      let f = vehicle_read new_session vehicle h.vehicle_taken in
      let is : s.survey ≡ survey_of survey = h.survey_held ∙ ap (λ (o : Outcome). o.session.survey) (survey_load new_session survey e) in
      let same : s.vehicle ≡ vehicle_of vehicle = h.vehicle_held ∙ ap (λ (o : Outcome). o.session.vehicle) (vehicle_load new_session vehicle f) in
      rw (is, same)

  held_files : (members s ≡ records_of survey) × (s.survey.count ≡ count_of survey) × (s.vehicle ≡ vehicle_of vehicle)
  held_files = rw held_session (survey_members survey, refl, refl)

-- the greatest is what some position gives, so a load less than one unit above it is less than one unit above that position's
covered : {m : Member} (a : AllowedMember m) (v : Vehicle) → Covers m v (vehicle_load_on m v)
covered {m} a v =
    record {
      sound = λ u. (
        gives_sound (weight v.weights) (behind v.distances) v.axles u (line_sized a).triangle,
        gives_sound (weight v.weights) (behind v.distances) v.axles u (mirrored (line_sized a).triangle),
      );
      one_way = λ u. (vehicle_load_covers a v u).0;
      other_way = λ u. (vehicle_load_covers a v u).1;
      near =
          ⊎_elim (λ g. inl (g.0, rw g.1 at (vehicle_load_rounded_up a v).near)) (λ g. inr (g.0, rw g.1 at (vehicle_load_rounded_up a v).near))
          (greatest_given (weight v.weights) (behind v.distances) v.axles (line_sized a).triangle);
    }

-- for any way of matching: a member's load and verdict by the member's laws, the bridge's by those of matched members
module _ (s s' : Session) (survey vehicle survey' vehicle' : List ℕ) (h : Holds s survey vehicle) (h' : Holds s' survey' vehicle') where
  falls : (way : Matching (members s) (members s')) → Heavier s.vehicle s'.vehicle → Falls s s' way.partner
  falls way v =
      let a = held_members h in
      let a' : (i : ℕ) → i < length (members s) → AllowedMember (member_at (members s') (way.partner i)) = λ i l. held_members h' (way.partner i) (way.inside i l) in
      record {
        permitted = λ i l. permitted_falls v (a i l) (a' i l) (way.worn i l);
        vehicle_load = λ i l. vehicle_load_rises v (a i l) (a' i l) (way.worn i l);
        figure = λ k. figure_falls v a (held_members h') way k (rw (members_counted (held_survey h)) (held_survey h).count.0);
        member_verdict = λ i l. member_stays_refused v (a i l) (a' i l) (way.worn i l);
        bridge_verdict = bridge_stays_refused v a (held_members h') way;
      }

  -- the same place in both is one way
  falls_in_place : SamePlaces (members s) (members s') → Heavier s.vehicle s'.vehicle → Falls s s' (λ i. i)
  unfolding same_places
  falls_in_place p = falls (same_places p)

-- a way of matching lists that are these
unfoldable same_way : {ms ms' ns ns' : List Member} → ms ≡ ns → ms' ≡ ns' → Matching ns ns' → Matching ms ms'
same_way e e' way =
    record { partner = way.partner; inside = rw (e, e') way.inside; one_to_one = rw e way.one_to_one; worn = rw (e, e') way.worn }

-- where the place, or the list, is wrong
place_refused : (s : Session) (place : ℕ) → 0 < s.survey.count → 0 < s.vehicle.axles → ¬ (In (1 ‥ s.survey.count) place) → (rate s place).answer ≡ RefusedAt 13 0
unfolding rate
place_refused s place hm ha hp = rw (no_place_fault s.survey.count s.vehicle.axles place hm ha hp)

list_refused : (s : Session) (list : List ℕ) → 0 < s.survey.count → 0 < s.vehicle.axles → length list < 2 * s.survey.count → (judge s list).answer ≡ RefusedAt 14 0
unfolding judge judge_fault state_fault
list_refused s list hm ha hl =
    rw (ne_eqb s.survey.count 0 (omega arith), ne_eqb s.vehicle.axles 0 (omega arith), lt-leb (2 * s.survey.count) (length list) hl)

-- what is held, said of the files
files_answered : (s : Session) (survey vehicle : List ℕ) → Holds s survey vehicle → FilesAnswered s survey vehicle
files_answered s survey vehicle h =
    let (ms, n, v) = held_files h in
    let a = held_answers h in
    let at : (i : ℕ) → i < count_of survey → member_at (members s) i ≡ record_at survey i = λ i l. rw ms (record_at_lem survey i l) in
    let within : (i : ℕ) → i < count_of survey → i < length (members s) = λ i l. rw (ms, counted survey) l in
    record {
      rated = λ i l. rw (← at i l, ← v) (a.rated i (rw n l));
      judged = λ list l. rw (← ms, ← v) (a.judged list (rw n l));
      listed = λ list l. rw (← ms, ← v) (a.listed list (rw n l));
      no_place = λ place o. place_refused s place (held_survey h).count.0 (held_vehicle h).axles.0 (rw n o);
      short_list = λ list l. list_refused s list (held_survey h).count.0 (held_vehicle h).axles.0 (rw n l);
      permitted_load = λ i l.
          subst (λ (w : Vehicle). Permitted (formula_of (record_at survey i) w.class w.track.0) (permitted_for w (record_at survey i))) v
          (rw (← at i l) (permitted_load_exact (held_members h i (within i l)) s.vehicle.class s.vehicle.track.0));
      vehicle_load = λ i l. rw (← at i l, ← v) (covered (held_members h i (within i l)) s.vehicle);
    }

-- after two rows of calls, for any way of matching the files' records
module _ (s s' : Session) (calls calls' : List Call) (survey vehicle survey' vehicle' : List ℕ) (l : TakenLast s calls survey vehicle) (l' : TakenLast s' calls' survey' vehicle') where
  falls_after : (way : Matching (records_of survey) (records_of survey')) → Heavier (vehicle_of vehicle) (vehicle_of vehicle') → Falls (after s calls) (after s' calls') way.partner
  unfolding same_way
  falls_after way v =
      let h = last_held s calls survey vehicle l in
      let h' = last_held s' calls' survey' vehicle' l' in
      let f = held_files h in
      let f' = held_files h' in
      falls (after s calls) (after s' calls') survey vehicle survey' vehicle' h h' (same_way f.0 f'.0 way) (rw (f.2, f'.2) v)

  falls_in_place_after : SamePlaces (records_of survey) (records_of survey') → Heavier (vehicle_of vehicle) (vehicle_of vehicle') → Falls (after s calls) (after s' calls') (λ i. i)
  unfolding same_places
  falls_in_place_after p = falls_after (same_places p)

-- three sessions with one survey: each vehicle alone, and the two coupled
loads_held : (one two both : Session) (survey first second : List ℕ) (gap : ℕ) → MayBeCoupled first second gap → Holds one survey first → Holds two survey second → Holds both survey (coupled_file first second gap) → CoupledLoads one two both
loads_held one two both survey first second gap g h k m =
    let a : AllowedSurvey (survey_of survey) = subst (λ (s : Session). AllowedSurvey s.survey) (held_session h) (held_survey h) in
    rw (held_session h, held_session k, held_session m, file_is first second gap g) (loads_coupled (survey_of survey) a first second gap g)

-- after any calls from a new one: no survey was taken, or no vehicle, or both, the vehicle by one of the two calls that take one
module _ (calls : List Call) where
  abbrev Reached : Type 0
  Reached = let s = after new_session calls in (RefusedBoth s 11) ⊎ ((RefusedBoth s 12) ⊎ ((survey vehicle : List ℕ) × Holds s survey vehicle))

  with_vehicle : (survey : List ℕ) → LastTakes TakesSurvey (LoadSurvey survey) new_session calls → (c : Call) → LoadsVehicle c → LastTakes TakesVehicle c new_session calls → Reached
  with_vehicle survey l c (of_one vehicle) m = inr (inr (survey, vehicle, last_held new_session calls survey vehicle (record { last_survey = l; last_vehicle = m })))
  with_vehicle survey l c (of_two first second gap) m =
      inr (inr (survey, coupled_file first second gap, held_coupled new_session calls survey first second gap (record { last_survey = l; last_vehicle = m })))

  with_survey : (c : Call) → LoadsSurvey c → LastTakes TakesSurvey c new_session calls → Reached
  with_survey c (a_survey survey) l =
      ⊎_elim (λ none. inr (inl (no_vehicle_taken calls survey l none))) (λ (d, loads, m). with_vehicle survey l d loads m)
      (none_or_last TakesVehicle LoadsVehicle takes_vehicle new_session calls)

  held_or_refused : Reached
  held_or_refused =
      ⊎_elim (λ none. inl (no_survey_taken calls none)) (λ (c, loads, l). with_survey c loads l) (none_or_last TakesSurvey LoadsSurvey takes_survey new_session calls)

pub demand3 : Demand3
demand3 =
    record {
      said_of = λ s survey vehicle h. held_answers h;
      permitted_load = λ s survey vehicle h i l. permitted_load_exact (held_members h i l) s.vehicle.class s.vehicle.track.0;
      vehicle_load = λ s survey vehicle h i l. covered (held_members h i l) s.vehicle;
      falling = falls;
      falling_in_place = falls_in_place;
      held = last_held;
      held_in_turn = λ survey vehicle a b. in_turn_lem a b;
      held_in_reverse = λ survey vehicle a b. in_reverse a b;
      held_coupled = held_coupled;
      held_or_refused = held_or_refused;
      answered = λ s calls survey vehicle l. files_answered (after s calls) survey vehicle (last_held s calls survey vehicle l);
      held_answered = files_answered;
      falling_after = falls_after;
      falling_in_place_after = falls_in_place_after;
      between = between_bounds;
      coupled_loads = loads_held;
    }
