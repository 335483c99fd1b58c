-- A whole yard on the bytes of its two files and a lent list of numbers: the survey is loaded into a new session, and the yard is judged
-- there. Document 02, request 3/13: "write one answer per vehicle into a lent list: figure, governing place, verdict".
use Rattle.std.specs.Prelude.{ℕ, ◌*◌, ◌/◌, List, ◌++◌, map, length, drop, get_or}
use Rattle.vehicles.specs.YardFile.{vehicles_of, joined}
use Rattle.session.specs.Answers.{Answer, Outcome, number_of, place_of, values_of}
use Rattle.session.specs.Calls.{new_session, load_survey, unless_refused, and_then}
use Rattle.session.specs.Yard.{Entry, vehicle_answers, answered_yard}
use Rattle.exports.specs.declared.yard.YardNumbers.{YardNumbers}

-- so many answers have room in a list, three numbers each
abbrev pub room_of : (list : List ℕ) → ℕ
room_of list = length list / 3

-- "The survey is the loaded one": its own refusals come before the yard's
abbrev pub yard_outcome : (survey yard list : List ℕ) → Outcome
yard_outcome survey yard list =
    and_then (load_survey new_session survey) (λ s. record { session = s; answer = answered_yard s yard (room_of list) })

-- Number and place of a refusal, 0 and 0 where there is none; the count of vehicles, and "the number of passing vehicles", the one value of
-- the answer; both 0 where there is a refusal
abbrev pub yard_numbers_of : Answer → (count : ℕ) → YardNumbers
yard_numbers_of a count =
    record { refusal = number_of a; place = place_of a; vehicles = unless_refused a 0 count; passes = get_or (values_of a) 0 0 }

-- the numbers of entries in a row, three each; document 02, request 6/13: "the host program .. no margin"
abbrev pub numbers_in : List Entry → List ℕ
numbers_in list = joined (map values_of list)

unfoldable pub yard_numbers : (survey yard list : List ℕ) → YardNumbers
yard_numbers survey yard list = yard_numbers_of (yard_outcome survey yard list).answer (vehicles_of yard)

-- what the lent list then holds: the answers' numbers in a row, and "list entries beyond the count are kept"; where anything is refused,
-- "nothing is written"
unfoldable pub yard_number_list : (survey yard list : List ℕ) → List ℕ
yard_number_list survey yard list =
    unless_refused (yard_outcome survey yard list).answer list
    (numbers_in (vehicle_answers (yard_outcome survey yard list).session yard) ++ drop (3 * vehicles_of yard) list)
