-- Why the call is refused, in plain words beside the ordered tests of `Between`.
use Rattle.std.specs.Prelude.{ℕ, ◌+◌, ◌*◌, ◌≤◌, ◌<◌, ◌≡◌, List}
use Rattle.member.specs.declared.record.Vehicle.{Vehicle}
use Rattle.surveys.specs.Allowed.{AllowedSurveyFile}
use Rattle.surveys.specs.Refused.{SurveyRefusal}
use Rattle.surveys.specs.SurveyFile.{count_of, record_at}
use Rattle.files.specs.declared.Refusal.{Refusal}
use Rattle.between.specs.Order.{Ordered, OrderedBefore, InOrder}

-- a vehicle is loaded, and the documents allow both files
pub record BothAllowed (v : Vehicle) (first second : List ℕ) : Type 0 where
  pub vehicle : 0 < v.axles
  pub first_allowed : AllowedSurveyFile first
  pub second_allowed : AllowedSurveyFile second

-- "12 comes first, then the first survey's own refusals, the second's, 15, and 14": that test fails, and those before it hold
pub data BetweenFault (v : Vehicle) (first second : List ℕ) (room : ℕ) : (number place : ℕ) → Type 0 where
  no_vehicle : v.axles ≡ 0 → BetweenFault v first second room 12 0
  first_refused : 0 < v.axles → (r : Refusal) → SurveyRefusal first r → BetweenFault v first second room r.number r.place
  second_refused : 0 < v.axles → AllowedSurveyFile first → (r : Refusal) → SurveyRefusal second r →
      BetweenFault v first second room r.number r.place
  -- "15: a different count, place 0"
  other_count : BothAllowed v first second → ¬ (count_of first ≡ count_of second) → BetweenFault v first second room 15 0
  -- "else the first record that is not so ordered or, for kind 7, not so equal"
  not_ordered : BothAllowed v first second → count_of first ≡ count_of second → (i : ℕ) → i < count_of first → OrderedBefore first second i →
      ¬ (Ordered (record_at first i) (record_at second i)) →
      BetweenFault v first second room 15 (i + 1)
  -- "14 for a list shorter than two entries a member"
  short_list : BothAllowed v first second → InOrder first second → room < 2 * count_of first → BetweenFault v first second room 14 0

-- no test fails: a vehicle is loaded, both files are allowed, "the second with rot, losses and dead load as great or greater and all else
-- equal", and the list is long enough
pub record MayBeJudged (v : Vehicle) (first second : List ℕ) (room : ℕ) : Type 0 where
  pub allowed : BothAllowed v first second
  pub order : InOrder first second
  pub room_enough : 2 * count_of first ≤ room
