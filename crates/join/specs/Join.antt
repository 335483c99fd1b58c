-- Two survey files of one bridge joined. Document 02, request 10/13: "Two measurers."
use Rattle.std.specs.Prelude.{ℕ, Bool, List, [], ◌∷◌, eqb, leb, length}
use Rattle.section.specs.Choose.{all}
use Rattle.member.specs.Fields.{KIND, CODE, FIELDS, field}
use Rattle.member.specs.declared.record.Member.{Member}
use Rattle.files.specs.Answer.{Answer}
use Rattle.files.specs.Reading.{Reading, ◌unless◌, first_of, first_fault, test, first_refusal}
use Rattle.surveys.specs.SurveyFile.{count_of, record_at, read_survey}
use Rattle.files.specs.Words.{each}
use Rattle.files.specs.Writing.{answer_by, bytes_by, onto}
use Rattle.join.specs.Rule.{rule_of, agrees, near, joined_number}
use Rattle.join.specs.SurveyBytes.{survey_bytes}
use Rattle.join.specs.declared.rule.Rule.{Rule}

-- the rule of a field, by the record's own kind and code
abbrev pub rule_at : Member → (f : ℕ) → Rule
rule_at m f = rule_of (field m KIND) (field m CODE) f

-- two readings of one record, by the rules of the first; where the second has another kind or code that is 18, whatever the rest
module _ (m n : Member) where
  -- the fields that must agree do
  abbrev pub field_agrees : (f : ℕ) → Bool
  field_agrees f = agrees (rule_at m f) (field m f) (field n f)

  abbrev pub agreed : Bool
  agreed = all field_agrees FIELDS

  -- no sizes are too far apart
  abbrev pub field_near : (f : ℕ) → Bool
  field_near f = near (rule_at m f) (field m f) (field n f)

  abbrev pub close : Bool
  close = all field_near FIELDS

  -- "18 before 19 in it"
  unfoldable pub join_fault : ℕ
  join_fault = first_of (18 unless agreed ∷ 19 unless close ∷ [])

  -- "and the mean is taken", field by field
  abbrev pub joined_field : (f : ℕ) → ℕ
  joined_field f = joined_number (rule_at m f) (field m f) (field n f)

  unfoldable pub joined_member : Member
  joined_member = record { fields = each joined_field FIELDS }

module _ (first second : List ℕ) where
  -- the fault of the two records of index i, from 0, and those of the first n pairs
  abbrev pub pair_fault : (i : ℕ) → ℕ
  pair_fault i = join_fault (record_at first i) (record_at second i)

  abbrev pub pair_faults : (n : ℕ) → List ℕ
  pair_faults n = each pair_fault n

  -- "18: counts differ, place 0, tested first .. First record at fault"
  unfoldable pub pair_answer : Reading
  pair_answer = first_fault 0 (18 unless eqb (count_of first) (count_of second) ∷ pair_faults (count_of first))

  -- the record that the two of index i give
  abbrev pub joined_at : (i : ℕ) → Member
  joined_at i = joined_member (record_at first i) (record_at second i)

  -- "The joined survey is written as version 1, so its order is the first survey's."
  abbrev pub output : List ℕ
  output = survey_bytes (count_of first) joined_at

  -- "after both are read, the first's own refusals before the second's; then 14 if the output is too short"
  abbrev pub join_tests : (room : ℕ) → List Reading
  join_tests room =
      (read_survey first).answer ∷
      (read_survey second).answer ∷
      pair_answer ∷
      test 14 (leb (length output) room) ∷
      []

  -- for an output of so many bytes: "The number of bytes written comes back"
  unfoldable pub joined : (room : ℕ) → Answer
  joined room = answer_by (first_refusal (join_tests room)) (length output)

  -- what is written: "a refusal writes nothing"
  unfoldable pub joined_bytes : (room : ℕ) → List ℕ
  joined_bytes room = bytes_by (first_refusal (join_tests room)) output

  -- what the output then holds: "bytes beyond are kept"
  abbrev pub joined_out : (out : List ℕ) → List ℕ
  joined_out out = onto (joined_bytes (length out)) out
