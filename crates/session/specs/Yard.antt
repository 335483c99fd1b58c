-- The call that judges a yard of vehicles. Document 02, request 3/13: "The whole yard in one go."
use Rattle.std.specs.Prelude.{ℕ, ◌+◌, Bool, not, List, [], ◌∷◌, ◌++◌, map, eqb, leb, length, get_or, drop}
use Rattle.section.specs.Choose.{choose}
use Rattle.member.specs.Format.{◌‥◌}
use Rattle.rating.specs.declared.judging.Judgement.{Judgement}
use Rattle.rating.specs.declared.judging.Verdict.TheVariants.{Pass}
use Rattle.files.specs.Reading.{◌unless◌, is_in}
use Rattle.vehicles.specs.YardFile.{MOST_VEHICLES, vehicles_of, vehicle_files, left_over}
use Rattle.session.specs.Answers.{Answer, Values, Outcome, values_of, verdict_number, judgement_answer}
use Rattle.session.specs.Calls.{load_vehicle, then_judge, unless_fault, unless_refused}
use Rattle.session.specs.Loaded.{Session}

-- An entry of the lent list: "figure, governing place, verdict", and request 6/13, "the governing member's" margin: what judge answers
-- where it succeeds.
abbrev pub Entry : Type 0
Entry = Answer

abbrev pub entries : List Judgement → List Entry
entries list = map judgement_answer list

-- "Every answer is that of loading that vehicle alone and judging."
unfoldable pub alone : Session → (vehicle : List ℕ) → Answer
alone s vehicle = (then_judge (load_vehicle s vehicle)).answer

-- of each vehicle, in the vehicles' order: "write one answer per vehicle"
abbrev pub vehicle_answers : Session → (yard : List ℕ) → List Answer
vehicle_answers s yard = map (alone s) (vehicle_files yard)

-- an entry whose verdict, its third value, is pass; and the number of such entries
abbrev pub passes : Entry → Bool
passes entry = eqb (get_or (values_of entry) 2 0) (verdict_number Pass)

abbrev pub passing : List Entry → ℕ
passing [] = 0
passing (entry ∷ list) = choose (passes entry) 1 0 + passing list

-- the first refusal of a row of answers, or else this one
abbrev pub first_refusal : List Answer → Answer → Answer
first_refusal [] answer = answer
first_refusal (a ∷ row) answer = unless_refused a a (first_refusal row answer)

-- "No count byte gives 1, a count outside 1..32 gives 3, bytes left over give 1, a list shorter than the count 14, all at place 0; 11
-- comes first, then the missing count byte, 3, the vehicles, bytes left over, 14." Before the vehicles
abbrev pub front_tests : (members : ℕ) (yard : List ℕ) → List ℕ
front_tests members yard =
    11 unless not (eqb members 0) ∷ 1 unless leb 1 (length yard) ∷ 3 unless is_in (1 ‥ MOST_VEHICLES) (vehicles_of yard) ∷ []

-- and behind them
abbrev pub end_tests : (left count room : ℕ) → List ℕ
end_tests left count room = 1 unless eqb left 0 ∷ 14 unless leb count room ∷ []

-- a fault at place 0, or none
abbrev pub test : ℕ → Answer
test fault = unless_fault fault (Values [])

abbrev pub yard_tests : Session → (yard : List ℕ) (room : ℕ) → List Answer
yard_tests s yard room =
    map test (front_tests s.survey.count yard) ++
    vehicle_answers s yard ++
    map test (end_tests (length (left_over yard)) (vehicles_of yard) room)

-- "The number of passing vehicles comes back too", where nothing is refused: with a list of so many entries
unfoldable pub answered_yard : Session → (yard : List ℕ) (room : ℕ) → Answer
answered_yard s yard room = first_refusal (yard_tests s yard room) (Values (passing (vehicle_answers s yard) ∷ []))

-- "The survey is the loaded one, and the loaded vehicle is kept."
unfoldable pub judge_yard : Session → (yard : List ℕ) (list : List Entry) → Outcome
judge_yard s yard list = record { session = s; answer = answered_yard s yard (length list) }

-- what the lent list then holds: "list entries beyond the count are kept"; where the lot is refused, "nothing is written"
unfoldable pub yard_list : Session → (yard : List ℕ) (list : List Entry) → List Entry
yard_list s yard list = unless_refused (answered_yard s yard (length list)) list (vehicle_answers s yard ++ drop (vehicles_of yard) list)
