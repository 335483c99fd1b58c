-- The call on a gauge's readings. Document 02, request 11/13: "Gauges under a test load." What is answered is that of gauge/specs/Gauge.antt for the
-- member at the place and the loaded vehicle's class, "after 11, 12 and 13".
use Rattle.std.specs.Prelude.{ℕ, ◌-◌}
use Rattle.rating.specs.Surveyed.{member_at}
use Rattle.gauge.specs.Gauge.{gauged}
use Rattle.gauge.specs.declared.Readings.{Readings}
use Rattle.session.specs.Answers.{Outcome, gauge_answer}
use Rattle.session.specs.Calls.{members, rate_fault, unless_fault}
use Rattle.session.specs.Loaded.{Session}

-- the tests of the state are rate's
unfoldable pub gauge : Session → (place : ℕ) → Readings → Outcome
gauge s place r =
    record {
      session = s;
      answer =
          unless_fault (rate_fault s.survey.count s.vehicle.axles place)
          (gauge_answer (gauged (member_at (members s) (place - 1)) s.vehicle.class r));
    }
