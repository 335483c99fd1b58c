-- What is claimed of the call on two readings, each part under the sentence of document 02, request 5/13, that it states. `Demands` has it
-- of every session, all bytes and every list.
use Rattle.std.specs.Prelude.{ℕ, ◌+◌, ◌*◌, ◌≤◌, ◌<◌, ◌≡◌, List, [], ◌∷◌, ◌⊎◌, ◌↔◌, length, get_or}
use Rattle.rating.specs.declared.judging.Verdict.{Verdict}
use Rattle.rating.specs.declared.judging.Verdict.TheVariants.{Pass, Refuse}
use Rattle.surveys.specs.SurveyFile.{count_of}
use Rattle.between.specs.Order.{LiesBetween}
use Rattle.between.specs.Fault.{BetweenFault, MayBeJudged}
use Rattle.between.specs.declared.Between.{Between}
use Rattle.between.specs.declared.Between.TheVariants.{All, None, Undecided}
use Rattle.session.specs.Answers.{Values, RefusedAt, between_number}
use Rattle.session.specs.Calls.{load_survey}
use Rattle.demands.specs.Parts.{Answers, permitted_at, judgement_in}
use Rattle.session.specs.Readings.{judge_between, bounds_list}
use Rattle.session.specs.Loaded.{Session}

-- the session with a survey loaded: the vehicle stays
abbrev pub with : Session → (survey : List ℕ) → Session
with s survey = (load_survey s survey).session

abbrev pub verdict_with : Session → (survey : List ℕ) → Verdict
verdict_with s survey = (judgement_in (with s survey)).verdict

abbrev pub figure_with : Session → (survey : List ℕ) → ℕ
figure_with s survey = (judgement_in (with s survey)).figure.0

module _ (s : Session) (first second list : List ℕ) where
  -- the call gives this verdict
  abbrev pub Gives : Between → Type 0
  Gives b = (judge_between s first second list).answer ≡ Values (between_number b ∷ [])

  -- what it writes of the member of index i, from 0
  abbrev pub lowest_at : (i : ℕ) → ℕ
  lowest_at i = get_or (bounds_list s first second list) (2 * i) 0

  abbrev pub highest_at : (i : ℕ) → ℕ
  highest_at i = get_or (bounds_list s first second list) (2 * i + 1) 0

  -- Of demand 1: the call answers, or is refused by a number of the list, and nothing is touched then.
  pub record BetweenAnswered : Type 0 where
    pub answered : ((b : Between) × Gives b) ⊎
        ((n p : ℕ) × ((judge_between s first second list).answer ≡ RefusedAt n p) × BetweenFault s.vehicle first second (length list) n p)
    -- a refusal names one number and one place
    pub named : (n p : ℕ) → BetweenFault s.vehicle first second (length list) n p → (judge_between s first second list).answer ≡ RefusedAt n p
    -- "Neither is loaded."
    pub session_kept : (judge_between s first second list).session ≡ s
    pub list_kept : (n p : ℕ) → (judge_between s first second list).answer ≡ RefusedAt n p → bounds_list s first second list ≡ list

  -- Of demand 2, where a verdict is given: the figures are those of each end when it is loaded.
  pub record BetweenFigures (b : Between) : Type 0 where
    pub first_taken : (load_survey s first).answer ≡ Values []
    pub second_taken : (load_survey s second).answer ≡ Values []
    -- "each member's lowest and highest permitted load": they are reached, by the second survey and by the first
    pub lowest : (i : ℕ) → i < count_of first → lowest_at i ≡ permitted_at (with s second) i
    pub highest : (i : ℕ) → i < count_of first → highest_at i ≡ permitted_at (with s first) i
    -- "entries beyond kept"
    pub beyond : (i : ℕ) → 2 * count_of first ≤ i → get_or (bounds_list s first second list) i 0 ≡ get_or list i 0
    pub length_kept : length (bounds_list s first second list) ≡ length list
    -- "passes for all between, for none, or undecided"; "undecided exactly when the two ends' verdicts differ"
    pub all : (b ≡ All) ↔ ((verdict_with s first ≡ Pass) × (verdict_with s second ≡ Pass))
    pub none : (b ≡ None) ↔ ((verdict_with s first ≡ Refuse) × (verdict_with s second ≡ Refuse))
    pub undecided : (b ≡ Undecided) ↔ (¬ (verdict_with s first ≡ verdict_with s second))

  -- a verdict is given exactly when no test fails, in plain words
  pub record BetweenTaken : Type 0 where
    pub taken : ((b : Between) × Gives b) ↔ MayBeJudged s.vehicle first second (length list)
    pub figures : (b : Between) → Gives b → BetweenFigures b

  -- Of demand 3: what rate and judge answer of a third survey, where a verdict is given.
  pub record WithinBounds (b : Between) (third : List ℕ) : Type 0 where
    pub said_of : Answers (with s third)
    pub permitted : (i : ℕ) → i < count_of first → (lowest_at i ≤ permitted_at (with s third) i) × (permitted_at (with s third) i ≤ highest_at i)
    pub figure : (figure_with s second ≤ figure_with s third) × (figure_with s third ≤ figure_with s first)
    pub all : b ≡ All → verdict_with s third ≡ Pass
    pub none : b ≡ None → verdict_with s third ≡ Refuse

  -- "Every survey between the two, field by field, must have its figures within those bounds"
  pub record BetweenBounds (b : Between) : Type 0 where
    pub within : (third : List ℕ) → (load_survey s third).answer ≡ Values [] → LiesBetween first third second → WithinBounds b third
    -- the two ends are two of these surveys
    pub first_between : LiesBetween first first second
    pub second_between : LiesBetween first second second
