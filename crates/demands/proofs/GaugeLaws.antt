-- The call on a gauge's readings answers, or is refused, as its plain words have it.
-- Assumes nothing.
use Prim.Native.Nat.{ℕ, ◌-◌}
use mathlib.Core.Path.{◌≡◌, refl, sym, ◌∙◌, subst}
use mathlib.Core.Bool.{true≢false}
use mathlib.Core.Logic.{◌⊎◌, inl, inr, ⊎_elim}
use native.Mathlib.Decide.{ℕ_discrete}
use native.Mathlib.Omega.{arith}
use Rattle.section.proofs.Choices.{decided}
use Rattle.member.specs.Format.{◌‥◌}
use Rattle.member.specs.declared.record.Member.{Member}
use Rattle.rating.specs.Surveyed.{member_at}
use Rattle.files.specs.Reading.{is_in}
use Rattle.files.proofs.Tests.{in_range, range_in}
use Rattle.gauge.specs.Claims.{Compared}
use Rattle.gauge.specs.Fault.{MayBeGauged}
use Rattle.gauge.specs.Gauge.{deflection_of}
use Rattle.gauge.specs.declared.Deflection.{Deflection}
use Rattle.gauge.specs.declared.Deflection.TheVariants.{Within, Over}
use Rattle.gauge.specs.declared.Readings.{Readings}
use Rattle.gauge.proofs.Claims.{compared, gauged_elastic, gauged_refused}
use Rattle.gauge.proofs.Refusals.{passed_or_fault}
use Rattle.session.specs.Answers.{RefusedAt, deflection_answer}
use Rattle.session.specs.Calls.{members, rate_fault}
use Rattle.session.specs.Gauging.{gauge}
use Rattle.session.specs.Loaded.{Session}
use Rattle.session.proofs.Loads.{no_refusal}
use Rattle.session.proofs.State.{rate_ready, no_survey_fault, no_vehicle_fault, no_place_fault}
use Rattle.demands.specs.GaugeCall.{Measures, Placed, GaugeFault, no_survey, no_vehicle, no_place, wrong_readings, GaugeAnswered, GaugeTaken}

-- a deflection is no refusal, and the answer tells which it is
no_deflection : (d : Deflection) (n p : ℕ) → deflection_answer d ≡ RefusedAt n p → ⊥
no_deflection (Within x) n p e = no_refusal _ n p refl e
no_deflection (Over x) n p e = no_refusal _ n p refl e

same_deflection : (d d' : Deflection) → deflection_answer d ≡ deflection_answer d' → d ≡ d'
same_deflection (Within x) (Within y) e = cc
same_deflection (Within x) (Over y) e = let z : ◌≡◌ {A = ℕ} 0 1 = cc in absurd (omega arith)
same_deflection (Over x) (Within y) e = let z : ◌≡◌ {A = ℕ} 0 1 = cc in absurd (omega arith)
same_deflection (Over x) (Over y) e = cc

module _ (s : Session) (place : ℕ) (r : Readings) where
  abbrev member : Member
  member = member_at (members s) (place - 1)

  ready : Placed s place → rate_fault s.survey.count s.vehicle.axles place ≡ 0
  ready p = rate_ready s.survey.count s.vehicle.axles place p.survey p.vehicle p.there

  -- a fault in plain words is the refusal
  fault_named : (n p : ℕ) → GaugeFault s place r n p → (gauge s place r).answer ≡ RefusedAt n p
  unfolding gauge
  fault_named n p (no_survey e) = rw (no_survey_fault s.survey.count s.vehicle.axles place e)
  fault_named n p (no_vehicle h e) = rw (no_vehicle_fault s.survey.count s.vehicle.axles place h e)
  fault_named n p (no_place h i o) = rw (no_place_fault s.survey.count s.vehicle.axles place h i o)
  fault_named n p (wrong_readings placed m q f) = rw (ready placed, gauged_refused member s.vehicle.class r m q f)

  -- where no test fails
  elastic : Placed s place → MayBeGauged r → Measures s place r (deflection_of member s.vehicle.class r)
  unfolding gauge
  elastic p g = rw (ready p, gauged_elastic member s.vehicle.class r g)

  abbrev Outcome : Type 0
  Outcome = (Placed s place × MayBeGauged r) ⊎ ((n p : ℕ) × GaugeFault s place r n p)

  -- every call passes all tests or has a fault
  passes_or_fault : Outcome
  passes_or_fault =
      elim (ℕ_discrete s.survey.count 0) [
        | yes e ↦ inr (11, 0, no_survey e)
        | no some ↦ elim (ℕ_discrete s.vehicle.axles 0) [
          | yes e ↦ inr (12, 0, no_vehicle (omega arith) e)
          | no axles ↦ elim (decided (is_in (1 ‥ s.survey.count) place)) [
            | inl e ↦ tested (record { survey = omega arith; vehicle = omega arith; there = in_range _ _ e })
            | inr e ↦ inr (13, 0, no_place (omega arith) (omega arith) (λ h. true≢false (sym (range_in _ _ h) ∙ e)))
          ]
        ]
      ]
    where
      tested : Placed s place → Outcome
      tested p = ⊎_elim (λ g. inl (p, g)) (λ (n, q, f). inr (n, q, wrong_readings p n q f)) (passed_or_fault r)

  pub gauge_answered : GaugeAnswered s place r
  unfolding gauge
  gauge_answered =
      record {
        answered = ⊎_elim (λ (p, g). inl (deflection_of member s.vehicle.class r, elastic p g)) (λ (n, q, f). inr (n, q, fault_named n q f, f)) passes_or_fault;
        named = fault_named;
        session_kept = refl;
      }

  -- a deflection is given where no test fails
  given : (d : Deflection) → Measures s place r d → Placed s place × MayBeGauged r
  given d e = ⊎_elim (λ passed. passed) (λ (n, q, f). absurd (no_deflection d n q (sym e ∙ fault_named n q f))) passes_or_fault

  pub gauge_taken : GaugeTaken s place r
  gauge_taken =
      record {
        taken = (λ (d, e). given d e, λ (p, g). (deflection_of member s.vehicle.class r, elastic p g));
        compared = λ d e.
            let passed = given d e in
            subst (Compared member s.vehicle.class r) (same_deflection _ _ (sym (elastic passed.0 passed.1) ∙ e)) (compared member s.vehicle.class r passed.1);
      }
