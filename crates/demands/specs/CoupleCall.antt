-- What is claimed of the call that couples two vehicles, each part under the sentence of document 02, request 13/13, that it states. `Demands` has it
-- of every session, all bytes and every gap.
use Rattle.std.specs.Prelude.{ℕ, ◌+◌, ◌≤◌, ◌<◌, ◌≡◌, List, [], ◌⊎◌, ◌↔◌, get_or}
use Rattle.member.specs.Format.{AllowedVehicle}
use Rattle.rating.specs.declared.judging.Verdict.TheVariants.{Refuse}
use Rattle.vehicles.specs.Allowed.{AllowedVehicleFile}
use Rattle.vehicles.specs.VehicleFile.{vehicle_of}
use Rattle.convert.specs.VehicleBytes.{vehicle_bytes}
use Rattle.couple.specs.Claims.{Couples}
use Rattle.couple.specs.Couple.{coupled_vehicle}
use Rattle.couple.specs.Fault.{CoupleFault, MayBeCoupled}
use Rattle.session.specs.Answers.{Values, RefusedAt, values_of}
use Rattle.session.specs.Calls.{load_vehicle, rate}
use Rattle.session.specs.Coupling.{couple}
use Rattle.session.specs.Loaded.{Session}
use Rattle.demands.specs.Parts.{Answers, permitted_at, rating_at, judgement_in}

-- the file of the coupled vehicle, in version 2, which holds every weight that a vehicle may have
abbrev pub coupled_file : (first second : List ℕ) (gap : ℕ) → List ℕ
coupled_file first second gap = vehicle_bytes 2 (coupled_vehicle (vehicle_of first) (vehicle_of second) gap)

-- the vehicle load that rate answers for the member of index i (its place less 1): the second of its values
abbrev pub load_answered : Session → (i : ℕ) → ℕ
load_answered s i = get_or (values_of (rate s (i + 1)).answer) 1 0

-- Of one of the two alone and of the two coupled: "at least each of them". The permitted loads are the same, so what is refused alone is refused
-- coupled.
pub record PartOf (part whole : Session) : Type 0 where
  pub at_least : (i : ℕ) → i < part.survey.count → load_answered part i ≤ load_answered whole i
  pub permitted : (i : ℕ) → i < part.survey.count → permitted_at whole i ≡ permitted_at part i
  pub figure : (judgement_in whole).figure.0 ≡ (judgement_in part).figure.0
  pub member_verdict : (i : ℕ) → i < part.survey.count → (rating_at part i).verdict ≡ Refuse → (rating_at whole i).verdict ≡ Refuse
  pub bridge_verdict : (judgement_in part).verdict ≡ Refuse → (judgement_in whole).verdict ≡ Refuse

module _ (s : Session) (first second : List ℕ) (gap : ℕ) where
  -- the call takes the two files
  abbrev pub Taken : Type 0
  Taken = (couple s first second gap).answer ≡ Values []

  -- the session that it hands back
  abbrev pub with_both : Session
  with_both = (couple s first second gap).session

  -- Of demand 1: the call takes the two files, or is refused by a number of the list, and nothing is touched then.
  pub record CoupleAnswered : Type 0 where
    pub answered : Taken ⊎ ((n p : ℕ) × ((couple s first second gap).answer ≡ RefusedAt n p) × CoupleFault first second gap n p)
    -- a refusal names one number and one place
    pub named : (n p : ℕ) → CoupleFault first second gap n p → (couple s first second gap).answer ≡ RefusedAt n p
    pub session_kept : (n p : ℕ) → (couple s first second gap).answer ≡ RefusedAt n p → with_both ≡ s
    -- taken or refused, the survey stays
    pub survey_kept : with_both.survey ≡ s.survey

  -- Of demand 2, where the two files are taken.
  pub record CoupledHeld : Type 0 where
    pub held : with_both ≡ record { survey = s.survey; vehicle = coupled_vehicle (vehicle_of first) (vehicle_of second) gap }
    -- "the second's axles behind the first's with one stated gap"
    pub couples : Couples (vehicle_of first) (vehicle_of second) gap with_both.vehicle
    -- it is what a vehicle may be
    pub allowed : AllowedVehicle with_both.vehicle
    -- "Join two vehicle files .., and load the result.": that vehicle has a file, and the call is the load of it
    pub file_allowed : AllowedVehicleFile (coupled_file first second gap)
    pub file_loaded : couple s first second gap ≡ load_vehicle s (coupled_file first second gap)

  -- they are taken exactly when no test fails, in plain words
  pub record CoupleTaken : Type 0 where
    pub taken : Taken ↔ MayBeCoupled first second gap
    pub holds : Taken → CoupledHeld

-- Of demand 3: three sessions with one survey, the first vehicle alone, the second alone, and the two coupled. Rate and judge answer in all three; each
-- load is rounded up once.
pub record CoupledLoads (one two both : Session) : Type 0 where
  pub said_of : Answers one × Answers two × Answers both
  -- "For every member the coupled load is at most the sum of the two loads, and at least each of them."
  pub at_most_sum : (i : ℕ) → i < both.survey.count → load_answered both i ≤ load_answered one i + load_answered two i
  pub first_part : PartOf one both
  pub second_part : PartOf two both
