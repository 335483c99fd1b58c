-- What is claimed of the call on a gauge's readings, each part under the sentence of document 02, request 11/13, that it states. `Demands` has it of
-- every session, every place and all readings.
use Rattle.std.specs.Prelude.{ℕ, ◌-◌, ◌<◌, ◌≡◌, ◌⊎◌, ◌↔◌}
use Rattle.member.specs.Format.{In, ◌‥◌}
use Rattle.rating.specs.Surveyed.{member_at}
use Rattle.gauge.specs.Claims.{Compared}
use Rattle.gauge.specs.Fault.{ReadingFault, MayBeGauged}
use Rattle.gauge.specs.declared.Deflection.{Deflection}
use Rattle.gauge.specs.declared.Readings.{Readings}
use Rattle.session.specs.Answers.{RefusedAt, deflection_answer}
use Rattle.session.specs.Calls.{members}
use Rattle.session.specs.Gauging.{gauge}
use Rattle.session.specs.Loaded.{Session}

-- a survey and a vehicle are loaded, and the place is one of the survey's
pub record Placed (s : Session) (place : ℕ) : Type 0 where
  pub survey : 0 < s.survey.count
  pub vehicle : 0 < s.vehicle.axles
  pub there : In (1 ‥ s.survey.count) place

module _ (s : Session) (place : ℕ) (r : Readings) where
  -- the call gives this deflection
  abbrev pub Measures : Deflection → Type 0
  Measures d = (gauge s place r).answer ≡ deflection_answer d

  -- "20: a reading not of that sort, or after above loaded; .. after 11, 12 and 13": that test fails, and those before it hold
  pub data GaugeFault : (number at : ℕ) → Type 0 where
    no_survey : s.survey.count ≡ 0 → GaugeFault 11 0
    no_vehicle : 0 < s.survey.count → s.vehicle.axles ≡ 0 → GaugeFault 12 0
    no_place : 0 < s.survey.count → 0 < s.vehicle.axles → ¬ (In (1 ‥ s.survey.count) place) → GaugeFault 13 0
    wrong_readings : Placed s place → (n p : ℕ) → ReadingFault r n p → GaugeFault n p

  -- Of demand 1: the call answers, or is refused by a number of the list, and the session stays.
  pub record GaugeAnswered : Type 0 where
    pub answered : ((d : Deflection) × Measures d) ⊎ ((n p : ℕ) × ((gauge s place r).answer ≡ RefusedAt n p) × GaugeFault n p)
    -- a refusal names one number and one place
    pub named : (n p : ℕ) → GaugeFault n p → (gauge s place r).answer ≡ RefusedAt n p
    pub session_kept : (gauge s place r).session ≡ s

  -- Of demand 2: a deflection is given exactly when no test fails, and is compared with the limit of the member at the place.
  pub record GaugeTaken : Type 0 where
    pub taken : ((d : Deflection) × Measures d) ↔ (Placed s place × MayBeGauged r)
    pub compared : (d : Deflection) → Measures d → Compared (member_at (members s) (place - 1)) s.vehicle.class r d
