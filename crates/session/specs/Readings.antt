-- The call on two readings. Document 02, request 5/13: "Rot between two readings." What is answered and written is that of
-- between/specs/Between.antt for the loaded vehicle.
use Rattle.std.specs.Prelude.{ℕ, List, length}
use Rattle.between.specs.Between.{answered_between, between_list}
use Rattle.session.specs.Answers.{Outcome, between_answer}
use Rattle.session.specs.Loaded.{Session}

-- "Neither is loaded. With the loaded vehicle, the answer .. gives a verdict"
unfoldable pub judge_between : Session → (first second list : List ℕ) → Outcome
judge_between s first second list = record { session = s; answer = between_answer (answered_between s.vehicle first second (length list)) }

-- what the lent list then holds: "each member's lowest and highest permitted load, entries beyond kept"
unfoldable pub bounds_list : Session → (first second list : List ℕ) → List ℕ
bounds_list s first second list = between_list s.vehicle first second list
