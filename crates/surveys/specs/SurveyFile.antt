-- Reading a survey file, with the tests in document 01's order. 'Files': "Survey: the letters TBR, u16 version 1, u8 count
-- 1..64, then per member 16 u16". From document 02 version 2 and refusal 16, request 8/13, and counts up to 255, request 12/13.
use Rattle.std.specs.Prelude.{ℕ, ◌+◌, ◌-◌, ◌*◌, List, [], ◌∷◌, ◌++◌, Bool, not, ◌&&◌, ◌||◌, replicate, eqb, leb, Ok, Err}
use Rattle.member.specs.declared.record.Member.{Member}
use Rattle.member.specs.declared.record.Survey.{Survey}
use Rattle.member.specs.Blank.{blank_member, blank_survey}
use Rattle.member.specs.Fields.{KIND, SPECIES, SPAN, CODE, MU_A, MU_B, FIELDS, LAST_KIND, MOST_MEMBERS, field}
use Rattle.member.specs.Format.{Range, ◌‥◌, used, range_of, suits}
use Rattle.files.specs.Words.{byte_at, words, each}
use Rattle.section.specs.Choose.{choose, all}
use Rattle.files.specs.Reading.{Reading, ◌unless◌, first_of, first_fault, or_else, is_in}
use Rattle.files.specs.Header.{version_of, header_fault}
use Rattle.surveys.specs.Sequence.{before_predecessor}

-- TBR, version and count
abbrev pub SURVEY_HEADER : ℕ
SURVEY_HEADER = 6

-- 16 u16
abbrev pub RECORD : ℕ
RECORD = 32

abbrev pub count_of : List ℕ → ℕ
count_of bytes = byte_at bytes 5

-- "u16 version 1", and version 2
abbrev pub SURVEY_VERSIONS : Range
SURVEY_VERSIONS = 1 ‥ 2

-- "From survey version 2 the records stand by kind, then span, then spacing .. Version 1 keeps free order."
abbrev pub SEQUENCE_FROM : ℕ
SEQUENCE_FROM = 2

-- the mark is TBR
abbrev pub survey_header : List ℕ → ℕ
survey_header bytes = header_fault 82 SURVEY_VERSIONS SURVEY_HEADER MOST_MEMBERS RECORD bytes

-- the record of index i, from 0
abbrev pub record_at : List ℕ → ℕ → Member
record_at bytes i = record { fields = words bytes (SURVEY_HEADER + RECORD * i) FIELDS }

-- the records of a file, as many as its count says
abbrev pub records_of : List ℕ → List Member
records_of bytes = each (record_at bytes) (count_of bytes)

-- a field is 0 where the record does not use it
unfoldable pub zeroed : Member → ℕ → Bool
zeroed m f = used (field m KIND) (field m CODE) f || eqb (field m f) 0

-- a field is in its range where the record uses it
unfoldable pub within : Member → ℕ → Bool
within m f = not (used (field m KIND) (field m CODE) f) || is_in (range_of (field m KIND) (field m CODE) (field m SPAN) f) (field m f)

-- "4 kind; 5 species, where used; 6 section code does not suit the kind"
unfoldable pub code_fault : Member → ℕ
code_fault m =
    first_of
    (4 unless is_in (1 ‥ LAST_KIND) (field m KIND) ∷
    5 unless within m SPECIES ∷
    6 unless suits (field m KIND) (field m CODE) ∷
    [])

-- "A at most B"; of kind 7 "A may exceed B"
unfoldable pub ordered : Member → Bool
ordered m = eqb (field m KIND) 7 || leb (field m MU_A) (field m MU_B)

-- "8 an unused field is not 0 (lost area in bending too); 7 a used number outside its range, as A above B"
unfoldable pub field_fault : Member → ℕ
field_fault m =
    first_of (8 unless all (zeroed m) FIELDS ∷ 7 unless (ordered m && all (within m) FIELDS) ∷ [])

-- "then the records: in each 4, 5, 6, 8, 7"
unfoldable pub member_fault : Member → ℕ
member_fault m = first_of (code_fault m ∷ field_fault m ∷ [])

-- the faults of the first n records
abbrev pub record_faults : List ℕ → ℕ → List ℕ
record_faults bytes n = each (λ i. member_fault (record_at bytes i)) n

-- "16: a record before its predecessor; place of the later one"
unfoldable pub sequence_fault : List ℕ → (i : ℕ) → ℕ
sequence_fault bytes i = 16 unless not (before_predecessor (record_at bytes) i)

-- of the first n records
unfoldable pub sequence_answer : List ℕ → (n : ℕ) → Reading
sequence_answer bytes n = choose (leb SEQUENCE_FROM (version_of bytes)) (first_fault 1 (each (sequence_fault bytes) n)) (Ok tt)

-- the header's fault has place 0, the records' places start at 1; 16 "after all records are otherwise good"
abbrev pub answer_after : (header : ℕ) → List ℕ → Reading
answer_after header bytes =
    or_else (first_fault 0 (header ∷ record_faults bytes (count_of bytes))) (sequence_answer bytes (count_of bytes))

unfoldable pub survey_answer : List ℕ → Reading
survey_answer bytes = answer_after (survey_header bytes) bytes

-- the file's records, and blank ones after them
abbrev pub survey_of : List ℕ → Survey
survey_of bytes =
    record { count = count_of bytes; members = records_of bytes ++ replicate (MOST_MEMBERS - count_of bytes) blank_member }

-- a refused file gives a blank survey
abbrev pub survey_by : Reading → List ℕ → Survey
survey_by (Ok tt) bytes = survey_of bytes
survey_by (Err r) bytes = blank_survey

-- what a file gives
pub record SurveyRead : Type 0 where
  pub answer : Reading
  pub survey : Survey

unfoldable pub read_survey : List ℕ → SurveyRead
read_survey bytes = record { answer = survey_answer bytes; survey = survey_by (survey_answer bytes) bytes }
