-- Why two surveys are not joined, in plain words beside the ordered tests of `Join`.
use Rattle.std.specs.Prelude.{ℕ, ◌+◌, ◌*◌, ◌≤◌, ◌<◌, ◌≡◌, List}
use Rattle.member.specs.Fields.{FIELDS, field}
use Rattle.member.specs.declared.record.Member.{Member}
use Rattle.surveys.specs.Allowed.{AllowedSurveyFile}
use Rattle.surveys.specs.Refused.{SurveyRefusal}
use Rattle.surveys.specs.SurveyFile.{SURVEY_HEADER, RECORD, count_of, record_at}
use Rattle.files.specs.declared.Refusal.{Refusal}
use Rattle.join.specs.Join.{rule_at}
use Rattle.join.specs.declared.rule.Rule.{Rule}
use Rattle.join.specs.declared.rule.Rule.TheVariants.{MustAgree, MeanUp, MeanDown, AnyMeanUp}

-- two readings x and y of a field: those that "must agree" are equal, and of the others nothing is asked here
abbrev pub Agree : Rule → (x y : ℕ) → Type 0
Agree MustAgree x y = x ≡ y
Agree (MeanUp apart) x y = Unit
Agree (MeanDown apart) x y = Unit
Agree AnyMeanUp x y = Unit

-- those that "may differ by" so much differ by no more
abbrev pub Near : Rule → (x y : ℕ) → Type 0
Near MustAgree x y = Unit
Near (MeanUp apart) x y = (x ≤ y + apart) × (y ≤ x + apart)
Near (MeanDown apart) x y = (x ≤ y + apart) × (y ≤ x + apart)
Near AnyMeanUp x y = Unit

module _ (m n : Member) where
  -- all fields that must agree do
  abbrev pub Agreed : Type 0
  Agreed = (f : ℕ) → f < FIELDS → Agree (rule_at m f) (field m f) (field n f)

  -- no sizes are "too far apart"
  abbrev pub Close : Type 0
  Close = (f : ℕ) → f < FIELDS → Near (rule_at m f) (field m f) (field n f)

  -- two readings of one record that may be joined
  pub record Joinable : Type 0 where
    pub agreed : Agreed
    pub close : Close

-- how many bytes the joined survey has, by the first survey's count
abbrev pub output_length : (first : List ℕ) → ℕ
output_length first = SURVEY_HEADER + RECORD * count_of first

module _ (first second : List ℕ) where
  -- the documents allow both files
  pub record BothAllowed : Type 0 where
    pub first_allowed : AllowedSurveyFile first
    pub second_allowed : AllowedSurveyFile second

  -- the pairs of records before index i may be joined
  abbrev pub JoinableBefore : (i : ℕ) → Type 0
  JoinableBefore i = (k : ℕ) → k < i → Joinable (record_at first k) (record_at second k)

  -- "First record at fault": the tests come as far as the two records of index i, since no pair before them has a fault
  pub record Reached (i : ℕ) : Type 0 where
    pub allowed : BothAllowed
    pub counts : count_of first ≡ count_of second
    pub there : i < count_of first
    pub before : JoinableBefore i

  -- a case for each test, in their order: it fails, and those before it hold. The output has so many bytes
  pub data JoinFault (room : ℕ) : (number place : ℕ) → Type 0 where
    -- "after both are read, the first's own refusals before the second's"
    first_refused : (r : Refusal) → SurveyRefusal first r → JoinFault room r.number r.place
    second_refused : AllowedSurveyFile first → (r : Refusal) → SurveyRefusal second r → JoinFault room r.number r.place
    -- "18: counts differ, place 0, tested first"
    other_count : BothAllowed → ¬ (count_of first ≡ count_of second) → JoinFault room 18 0
    -- "or fields that must agree do [differ]"
    not_agreed : (i : ℕ) → Reached i → ¬ (Agreed (record_at first i) (record_at second i)) → JoinFault room 18 (i + 1)
    -- "19: sizes too far apart. .. 18 before 19 in it"
    too_far : (i : ℕ) → Reached i → Agreed (record_at first i) (record_at second i) → ¬ (Close (record_at first i) (record_at second i)) →
        JoinFault room 19 (i + 1)
    -- "then 14 if the output is too short"
    short_output : BothAllowed → count_of first ≡ count_of second → JoinableBefore (count_of first) → room < output_length first → JoinFault room 14 0

  -- no test fails
  pub record MayBeJoined (room : ℕ) : Type 0 where
    pub allowed : BothAllowed
    pub counts : count_of first ≡ count_of second
    pub joinable : JoinableBefore (count_of first)
    pub room_enough : output_length first ≤ room
