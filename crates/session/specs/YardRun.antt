-- What the code of the yard keeps between two vehicles, and what `yard_answers` hands to whoever writes the answers (`Answered`). No part of
-- the three demands.
use Rattle.std.specs.Prelude.{ℕ, ◌+◌, ◌≤◌, ◌≡◌, List, [], ◌∷◌, map, length, take, drop, set, Result, MatchResult}
use Rattle.vehicles.specs.YardFile.{MOST_VEHICLES, vehicles_of, files_in, left_after}
use Rattle.files.specs.declared.Refusal.{Refusal}
use Rattle.rating.specs.declared.judging.Judgement.{Judgement}
use Rattle.session.specs.Answers.{Answer, Values, verdict_number, refused_by}
use Rattle.session.specs.Yard.{alone, entries, vehicle_answers, passing, first_refusal, answered_yard}
use Rattle.session.specs.Loaded.{Session}
use Rattle.session.specs.declared.yard.Run.{Run}
use Rattle.session.specs.declared.yard.YardAnswers.{YardAnswers}

-- the answers of the first i vehicles
abbrev pub answers_to : Session → (yard : List ℕ) (i : ℕ) → List Answer
answers_to s yard i = map (alone s) (files_in i (drop 1 yard))

-- one vehicle more, by its answer
abbrev pub with_answer : Run → Judgement → (i end : ℕ) → Run
with_answer r j i end =
    record { at = end; passes = r.passes + verdict_number j.verdict; answers = set r.answers i j }

-- after i vehicles of which none is refused
pub record Going (s : Session) (yard : List ℕ) (i : ℕ) (r : Run) : Type 0 where
  pub clear : first_refusal (answers_to s yard i) (Values []) ≡ Values []
  pub sized : length r.answers ≡ MOST_VEHICLES
  pub within : r.at ≤ length yard
  pub rest : drop r.at yard ≡ left_after i (drop 1 yard)
  pub entries : entries (take i r.answers) ≡ answers_to s yard i
  pub passes : r.passes ≡ passing (answers_to s yard i)
  pub few : r.passes ≤ i

-- the first refusal of the first i vehicles
abbrev pub FirstRefused : (s : Session) (yard : List ℕ) (i : ℕ) (f : Refusal) → Type 0
FirstRefused s yard i f = first_refusal (answers_to s yard i) (Values []) ≡ refused_by f

-- after i vehicles
abbrev pub Ran : (s : Session) (yard : List ℕ) (i : ℕ) → Result Run Refusal → Type 0
Ran s yard i r = MatchResult r (Going s yard i) (FirstRefused s yard i)

-- what is handed to the writer of a yard in which none is refused
pub record Found (s : Session) (yard : List ℕ) (room : ℕ) (r : YardAnswers) : Type 0 where
  pub is : answered_yard s yard room ≡ Values (r.passes ∷ [])
  pub sized : length r.answers ≡ MOST_VEHICLES
  pub most : r.count ≤ MOST_VEHICLES
  pub fits : r.count ≤ room
  pub count : r.count ≡ vehicles_of yard
  pub entries : entries (take r.count r.answers) ≡ vehicle_answers s yard

-- what `yard_answers` gives: the answers, or the yard's refusal
abbrev pub Answered : (s : Session) (yard : List ℕ) (room : ℕ) → Result YardAnswers Refusal → Type 0
Answered s yard room r = MatchResult r (Found s yard room) (λ f. answered_yard s yard room ≡ refused_by f)
