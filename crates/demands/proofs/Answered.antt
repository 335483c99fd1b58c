-- Where both files are loaded rate and judge answer and write what demand 2 says.
-- Assumes nothing.
use Prim.Native.Nat.{◌+◌, ◌<◌}
use native.Mathlib.Nat.{add-sub_cancel}
use native.Mathlib.Omega.{arith}
use lib.ListN.{length}
use Rattle.session.specs.Calls.{rate, judge, judge_list}
use Rattle.session.specs.Loaded.{Session}
use Rattle.session.proofs.State.{rate_ready, judge_ready}
use Rattle.demands.specs.Parts.{Answers}

pub all_answers : (s : Session) → 0 < s.survey.count → 0 < s.vehicle.axles → Answers s
unfolding rate judge judge_list
all_answers s hm ha =
    record {
      rated = λ i h.
          rw (rate_ready s.survey.count s.vehicle.axles (i + 1) hm ha (omega arith), add-sub_cancel i 1);
      judged = λ list h. rw (judge_ready s.survey.count s.vehicle.axles (length list) hm ha h);
      listed = λ list h. rw (judge_ready s.survey.count s.vehicle.axles (length list) hm ha h);
    }
