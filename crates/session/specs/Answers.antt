-- The answers' numbers: a number and values for every case of each answer, those of the documents where they have them.
use Rattle.files.specs.Reading.{Reading}
use Rattle.std.specs.Prelude.{ℕ, List, [], ◌∷◌, Result, Ok, Err, ⊤}
pub use Rattle.files.specs.Answer.{Answer, Values, WithMargin, WithDeflection, RefusedAt, refused_by}
use Rattle.files.specs.Reading.{Reading}
use Rattle.files.specs.declared.Refusal.{Refusal}
use Rattle.rating.specs.declared.judging.Judgement.{Judgement}
use Rattle.rating.specs.declared.judging.Rating.{Rating}
use Rattle.rating.specs.declared.judging.Verdict.{Verdict}
use Rattle.rating.specs.declared.judging.Verdict.TheVariants.{Pass, Refuse}
use Rattle.between.specs.declared.Between.{Between}
use Rattle.between.specs.declared.Between.TheVariants.{All, None, Undecided}
use Rattle.gauge.specs.declared.Deflection.{Deflection}
use Rattle.gauge.specs.declared.Deflection.TheVariants.{Within, Over}
use Rattle.session.specs.Loaded.{Session}
use Rattle.session.specs.declared.After.{After}

-- the number of an answer, 0 where the call succeeds, and its place
abbrev pub number_of : Answer → ℕ
number_of (Values values) = 0
number_of (WithMargin values margin) = 0
number_of (WithDeflection values deflection) = 0
number_of (RefusedAt number place) = number

abbrev pub place_of : Answer → ℕ
place_of (Values values) = 0
place_of (WithMargin values margin) = 0
place_of (WithDeflection values deflection) = 0
place_of (RefusedAt number place) = place

-- its values without margin and deflection
abbrev pub values_of : Answer → List ℕ
values_of (Values values) = values
values_of (WithMargin values margin) = values
values_of (WithDeflection values deflection) = values
values_of (RefusedAt number place) = []

-- pass is 1, refuse is 0
abbrev pub verdict_number : Verdict → ℕ
verdict_number Pass = 1
verdict_number Refuse = 0

-- "Rate gives the member's two loads and pass or refuse."
abbrev pub rating_values : Rating → List ℕ
rating_values r = r.permitted.0 ∷ r.load.0 ∷ verdict_number r.verdict ∷ []

-- "rate's the member's own"
abbrev pub rating_answer : Rating → Answer
rating_answer r = WithMargin (rating_values r) r.margin

-- "Judge gives figure, governing place and verdict"
abbrev pub judgement_values : Judgement → List ℕ
judgement_values j = j.figure.0 ∷ j.governing ∷ verdict_number j.verdict ∷ []

-- "judge's and the yard's the governing member's"
abbrev pub judgement_answer : Judgement → Answer
judgement_answer j = WithMargin (judgement_values j) j.margin

-- a call that succeeds answers its values, and one that is refused its refusal
abbrev pub answer_of : {T : Type 0} → (T → Answer) → Result T Refusal → Answer
answer_of values (Ok x) = values x
answer_of values (Err r) = refused_by r

abbrev pub load_answer : Reading → Answer
load_answer = answer_of (λ _. Values [])

abbrev pub rate_answer : Result Rating Refusal → Answer
rate_answer = answer_of rating_answer

abbrev pub judge_answer : Result Judgement Refusal → Answer
judge_answer = answer_of judgement_answer

-- document 02, request 3/13: "The number of passing vehicles comes back too"
abbrev pub yard_answer : Result ℕ Refusal → Answer
yard_answer = answer_of (λ n. Values (n ∷ []))

-- document 02, request 5/13: "passes for all between, for none, or undecided"; the numbers of all and none are those of pass and refuse,
-- that of undecided the next one
abbrev pub between_number : Between → ℕ
between_number All = 1
between_number None = 0
between_number Undecided = 2

abbrev pub between_answer : Result Between Refusal → Answer
between_answer = answer_of (λ b. Values (between_number b ∷ []))

-- document 02, request 11/13: "within or over, each carrying the deflection"; their numbers are those of pass and refuse
abbrev pub deflection_answer : Deflection → Answer
deflection_answer (Within d) = WithDeflection (1 ∷ []) d
deflection_answer (Over d) = WithDeflection (0 ∷ []) d

abbrev pub gauge_answer : Result Deflection Refusal → Answer
gauge_answer = answer_of deflection_answer

-- what a call leaves and answers
pub record Outcome : Type 0 where
  pub session : Session
  pub answer : Answer

abbrev pub outcome : {T : Type 0} → (Result T Refusal → Answer) → After T → Outcome
outcome answer r = record { session = r.session; answer = answer r.answer }

abbrev pub loaded : After ⊤ → Outcome
loaded = outcome load_answer

abbrev pub rated : After Rating → Outcome
rated = outcome rate_answer

abbrev pub judged : After Judgement → Outcome
judged = outcome judge_answer

abbrev pub yard_judged : After ℕ → Outcome
yard_judged = outcome yard_answer

abbrev pub between_judged : After Between → Outcome
between_judged = outcome between_answer

abbrev pub gauge_read : After Deflection → Outcome
gauge_read = outcome gauge_answer
