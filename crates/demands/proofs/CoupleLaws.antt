-- The call that couples two vehicles answers, or is refused, as its plain words have it; it is the load of the coupled vehicle's file; and the loads
-- of the two bound those of the two coupled.
-- Assumes nothing.
use Prim.Native.Nat.{ℕ, ◌≤◌, ◌<◌}
use mathlib.Core.Path.{◌≡◌, sym, ap, ◌∙◌}
use mathlib.Core.List.{List}
use mathlib.Core.Logic.{inl, inr, ⊎_elim}
use native.Mathlib.Omega.{arith}
use Rattle.influence.proofs.Coupled.{Coupled}
use Rattle.member.specs.Format.{AllowedMember, AllowedVehicle}
use Rattle.member.specs.declared.record.Member.{Member}
use Rattle.member.specs.declared.record.Vehicle.{Vehicle}
use Rattle.rating.specs.Judgement.{rating_of}
use Rattle.member.specs.declared.record.Survey.{Survey}
use Rattle.rating.specs.Surveyed.{AllowedSurvey, members_of, member_at}
use Rattle.rating.specs.VehicleLoad.{vehicle_load_on}
use Rattle.rating.proofs.Coupled.{load_at_most_sum, load_at_least_first, load_at_least_second, permitted_same, figure_same, member_refused, bridge_refused}
use Rattle.rating.proofs.Surveys.{members_counted, members_allowed}
use Rattle.vehicles.specs.VehicleFile.{VEHICLE_VERSIONS, vehicle_of}
use Rattle.vehicles.specs.Allowed.{AllowedVehicleFile}
use Rattle.vehicles.proofs.Vehicles as vehicles
use Rattle.convert.proofs.Written.{vehicle_file, file_read}
use Rattle.couple.specs.Claims.{Couples}
use Rattle.couple.specs.Couple.{coupled_vehicle}
use Rattle.couple.specs.Fault.{MayBeCoupled}
use Rattle.couple.proofs.Named.{good_or_fault, taken_good, vehicle_allowed}
use Rattle.couple.proofs.Vehicles.{padded_coupled, couples}
use Rattle.session.specs.Answers.{Outcome}
use Rattle.session.specs.Calls.{load_vehicle}
use Rattle.session.specs.Coupling.{couple}
use Rattle.session.specs.Loaded.{Session}
use Rattle.session.proofs.Loads.{vehicle_load, couple_read, couple_survey, couple_kept, couple_load, couple_refused}
use Rattle.demands.specs.CoupleCall.{coupled_file, load_answered, PartOf, Taken, with_both, CoupleAnswered, CoupleTaken, CoupledLoads}
use Rattle.demands.specs.Parts.{Answers}
use Rattle.demands.proofs.Answered.{all_answers}

module _ (first second : List ℕ) (gap : ℕ) where
  abbrev both : Vehicle
  both = coupled_vehicle (vehicle_of first) (vehicle_of second) gap

  joined : MayBeCoupled first second gap → Couples (vehicle_of first) (vehicle_of second) gap both
  joined g =
      couples (vehicle_of first) (vehicle_of second) gap g.allowed.first_allowed.vehicle g.allowed.second_allowed.vehicle g.fitting.class g.fitting.track

  -- the coupled vehicle has a file
  file_allowed : MayBeCoupled first second gap → AllowedVehicleFile (coupled_file first second gap)
  file_allowed g = vehicle_file both (vehicle_allowed first second gap g)

  pub file_is : MayBeCoupled first second gap → vehicle_of (coupled_file first second gap) ≡ both
  file_is g = file_read both (vehicle_allowed first second gap g) (padded_coupled (vehicle_of first) (vehicle_of second) gap)

  module _ (s : Session) where
    pub couple_answered : CoupleAnswered s first second gap
    couple_answered =
        record {
          answered = ⊎_elim (λ g. inl (ap (λ (o : Outcome). o.answer) (couple_load s first second gap g))) (λ (n, p, f). inr (n, p, couple_refused s first second gap n p f, f)) (good_or_fault first second gap);
          named = couple_refused s first second gap;
          session_kept = couple_kept s first second gap;
          survey_kept = couple_survey s first second gap;
        }

    -- a pair that is taken may be coupled
    good : Taken s first second gap → MayBeCoupled first second gap
    good t = taken_good first second gap (couple_read s first second gap t)

    held : Taken s first second gap → with_both s first second gap ≡ record { survey = s.survey; vehicle = both }
    held t = ap (λ (o : Outcome). o.session) (couple_load s first second gap (good t))

    -- the call is the load of the coupled vehicle's file
    pub file_loaded : Taken s first second gap → couple s first second gap ≡ load_vehicle s (coupled_file first second gap)
    file_loaded t =
        let g = good t in
        couple_load s first second gap g ∙ sym (vehicle_load s (coupled_file first second gap) (vehicles.allowed_taken VEHICLE_VERSIONS _ (file_allowed g)) ∙ rw (file_is g))

    pub couple_taken : CoupleTaken s first second gap
    couple_taken =
        record {
          taken = (good, λ g. ap (λ (o : Outcome). o.answer) (couple_load s first second gap g));
          holds = λ t.
              record {
                held = held t;
                couples = rw (held t) (joined (good t));
                allowed = rw (held t) (vehicle_allowed first second gap (good t));
                file_allowed = file_allowed (good t);
                file_loaded = file_loaded t;
              };
        }

-- the rows of axles, as the law of the loads has them
coupled_rows : (first second : Vehicle) (gap : ℕ) (v : Vehicle) → AllowedVehicle second → Couples first second gap v →
    Coupled first.weights first.distances first.axles second.weights second.distances second.axles v.weights v.distances
coupled_rows first second gap v b c =
    record {
      weight_ahead = c.weight_ahead;
      distance_ahead = c.distance_ahead;
      weight_after = c.weight_behind;
      distance_after = λ j l. c.distance_behind _ (omega arith) l;
      first = b.first;
    }

-- a survey with one vehicle and with another
module _ (survey : Survey) (a : AllowedSurvey survey) where
  abbrev with : Vehicle → Session
  with v = record { survey = survey; vehicle = v }

  answers : (v : Vehicle) → AllowedVehicle v → Answers (with v)
  answers v b = all_answers (with v) a.count.0 b.axles.0

  member : (i : ℕ) → i < survey.count → AllowedMember (member_at (members_of survey) i)
  member i l = members_allowed a i (omega (arith, members_counted a))

  -- rate answers the vehicle load
  load_is : (v : Vehicle) → AllowedVehicle v → (i : ℕ) → i < survey.count → load_answered (with v) i ≡ vehicle_load_on (member_at (members_of survey) i) v
  unfolding rating_of
  load_is v b i l = rw ((answers v b).rated i l)

  part_of : (v v' : Vehicle) → AllowedVehicle v → AllowedVehicle v' → v'.class ≡ v.class → v'.track ≡ v.track →
      ((m : Member) → AllowedMember m → vehicle_load_on m v ≤ vehicle_load_on m v') →
      PartOf (with v) (with v')
  part_of v v' b b' class track more =
      record {
        at_least = λ i l. rw (load_is v b i l, load_is v' b' i l) (more _ (member i l));
        permitted = λ i l. permitted_same v v' class track _;
        figure = figure_same v v' class track (members_of survey);
        member_verdict = λ i l. member_refused v v' class track more _ (member i l);
        bridge_verdict = bridge_refused v v' class track more (members_of survey) (members_allowed a);
      }

  -- two vehicles that may be coupled
  pub loads_coupled : (first second : List ℕ) (gap : ℕ) → MayBeCoupled first second gap →
      CoupledLoads (with (vehicle_of first)) (with (vehicle_of second)) (with (coupled_vehicle (vehicle_of first) (vehicle_of second) gap))
  loads_coupled first second gap g =
      let lorry = vehicle_of first in
      let trailer = vehicle_of second in
      let v = coupled_vehicle lorry trailer gap in
      let one = g.allowed.first_allowed.vehicle in
      let two = g.allowed.second_allowed.vehicle in
      let both = vehicle_allowed first second gap g in
      let c = joined first second gap g in
      let rows = coupled_rows lorry trailer gap v two c in
      record {
        said_of = (answers lorry one, answers trailer two, answers v both);
        at_most_sum = λ i l.
            rw (load_is lorry one i l, load_is trailer two i l, load_is v both i l) (load_at_most_sum lorry trailer v c.axles rows (member i l));
        first_part = part_of lorry v one both c.class.0 c.track.0 (λ m. load_at_least_first lorry trailer v c.axles rows);
        second_part = part_of trailer v two both c.class.1 c.track.1 (λ m. load_at_least_second lorry trailer v c.axles rows);
      }
