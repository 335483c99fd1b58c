-- What is claimed of the join, each part under the sentence of document 02, request 10/13, that it states. demands/specs/Demands.antt has it of all
-- bytes and every output.
use Rattle.std.specs.Prelude.{ℕ, ◌+◌, ◌/◌, ◌≤◌, ◌<◌, ◌≡◌, true, List, [], ◌∷◌, ◌⊎◌, ◌↔◌, length, take, drop}
use Rattle.member.specs.Fields.{KIND, CODE, FIELDS, LAST_KIND, field}
use Rattle.section.specs.Choose.{choose}
use Rattle.member.specs.Format.{◌‥◌, In, holds, used, suits, AllowedMember}
use Rattle.member.specs.declared.record.Member.{Member}
use Rattle.surveys.specs.Allowed.{AllowedSurveyFile}
use Rattle.files.specs.Answer.{Values, RefusedAt}
use Rattle.files.specs.Header.{version_of}
use Rattle.surveys.specs.SurveyFile.{count_of, record_at}
use Rattle.join.specs.Fault.{Agree, Agreed, output_length, JoinFault, MayBeJoined}
use Rattle.join.specs.Join.{join_fault, joined_member, joined_at, joined, joined_out}
use Rattle.join.specs.Rule.{rule_of, goes_up, agreeing, joined_number}
use Rattle.join.specs.declared.rule.Rule.TheVariants.{MustAgree}

-- a field that a record of this kind and code uses
pub record UsedField (kind code f : ℕ) : Type 0 where
  pub kind_known : In (1 ‥ LAST_KIND) kind
  pub section : suits kind code ≡ true
  pub there : f < FIELDS
  pub uses : used kind code f ≡ true

-- "Kinds, species, codes, x, tiers, pieces, cuts, dowel type and diameter, A and B (deck rot too) must agree; for kind 7 h must too.": of the fields
-- that a record uses, these and no others
abbrev pub ListedMustAgree : Type 0
ListedMustAgree = (kind code f : ℕ) → UsedField kind code f → (rule_of kind code f ≡ MustAgree) ↔ (holds f (agreeing kind code) ≡ true)

-- "and the mean is taken. An odd half goes up for span, spacing, rot, loss and dead load, and down otherwise.": of every field that a record uses; of one
-- that must agree it is the number that both have
abbrev pub MeanTaken : Type 0
MeanTaken = (kind code f x y : ℕ) → UsedField kind code f → Agree (rule_of kind code f) x y →
    joined_number (rule_of kind code f) x y ≡ choose (holds f (goes_up code)) ((x + y + 1) / 2) ((x + y) / 2)

-- "A mean outside its range cannot arise, and this is to be shown.": of two allowed records that agree where they must, however far apart
abbrev pub MeanInRange : Type 0
MeanInRange = (m n : Member) → AllowedMember m → AllowedMember n → Agreed m n → AllowedMember (joined_member m n)

-- "Kinds, .. codes .. must agree", "18 before 19 in it": records whose kinds or codes differ are 18, whatever else differs
abbrev pub OtherMember : Type 0
OtherMember = (m n : Member) → (¬ (field m KIND ≡ field n KIND)) ⊎ (¬ (field m CODE ≡ field n CODE)) → join_fault m n ≡ 18

-- a number lies between two readings, whichever is the greater
abbrev pub LiesBetween : (x y number : ℕ) → Type 0
LiesBetween x y number = ((x ≤ number) × (number ≤ y)) ⊎ ((y ≤ number) × (number ≤ x))

module _ (first second out : List ℕ) where
  -- the call's answer: so many bytes are written, and these are they
  abbrev pub Writes : (n : ℕ) → Type 0
  Writes n = joined first second (length out) ≡ Values (n ∷ [])

  abbrev pub written : (n : ℕ) → List ℕ
  written n = take n (joined_out first second out)

  -- Of demand 1: the call answers, or is refused by a number of the list, and nothing is touched then.
  pub record JoinAnswered : Type 0 where
    pub answered : ((n : ℕ) × Writes n) ⊎
        ((n p : ℕ) × (joined first second (length out) ≡ RefusedAt n p) × JoinFault first second (length out) n p)
    -- a refusal names one number and one place
    pub named : (n p : ℕ) → JoinFault first second (length out) n p → joined first second (length out) ≡ RefusedAt n p
    -- "a refusal writes nothing"
    pub out_kept : (n p : ℕ) → joined first second (length out) ≡ RefusedAt n p → joined_out first second out ≡ out

  -- Of demand 2, where bytes are written.
  pub record JoinedFile (n : ℕ) : Type 0 where
    -- "The number of bytes written comes back, bytes beyond are kept"
    pub count : n ≡ output_length first
    pub beyond : drop n (joined_out first second out) ≡ drop n out
    pub length_kept : length (joined_out first second out) ≡ length out
    -- "A mean outside its range cannot arise": what is written is a survey file that the documents allow, so the load call takes it
    pub allowed : AllowedSurveyFile (written n)
    -- "The joined survey is written as version 1, so its order is the first survey's.": whatever the versions of the two, the record at each place is
    -- what the two at that place give
    pub version : version_of (written n) ≡ 1
    pub members : count_of (written n) ≡ count_of first
    pub records : (i : ℕ) → i < count_of first → record_at (written n) i ≡ joined_at first second i
    -- the mean lies between the two readings, field by field
    pub between : (i f : ℕ) → i < count_of first → f < FIELDS →
        LiesBetween (field (record_at first i) f) (field (record_at second i) f) (field (record_at (written n) i) f)

  -- bytes are written exactly when no test fails, in plain words
  pub record JoinTaken : Type 0 where
    pub taken : ((n : ℕ) × Writes n) ↔ MayBeJoined first second (length out)
    pub files : (n : ℕ) → Writes n → JoinedFile n
