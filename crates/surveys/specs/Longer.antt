-- Longer trestles, in what is claimed of them. Document 02, request 12/13: "Raise the survey's limit from 64 to 255. The count byte holds it and
-- old files read as before. A file of more than 64 records, once refusal 3, is taken where it is otherwise good, and else gets its own refusal; a
-- count of 0 still gives 3." The limit is MOST-MEMBERS (member/specs/Fields.antt), and that the byte holds it in member/specs/Counts.antt.
use Rattle.files.specs.Reading.{Reading}
use Rattle.std.specs.Prelude.{ℕ, ◌≤◌, ◌<◌, ◌≡◌, List, length, Err}
use Rattle.files.specs.Words.{Bytes}
use Rattle.files.specs.Header.{header_fault}
use Rattle.files.specs.Refused.{Marked}
use Rattle.files.specs.declared.Refusal.{Refusal}
use Rattle.surveys.specs.SurveyFile.{SURVEY_HEADER, SURVEY_VERSIONS, RECORD, count_of, answer_after, read_survey}

-- the limit that there was, the header's fault by it, and the answer that a file got
abbrev pub OLD_LIMIT : ℕ
OLD_LIMIT = 64

abbrev pub old_header : List ℕ → ℕ
old_header bytes = header_fault 82 SURVEY_VERSIONS SURVEY_HEADER OLD_LIMIT RECORD bytes

abbrev pub old_answer : List ℕ → Reading
old_answer bytes = answer_after (old_header bytes) bytes

pub record LongerTrestles : Type 0 where
  -- "old files read as before"
  pub as_before : (bytes : List ℕ) → count_of bytes ≤ OLD_LIMIT → (read_survey bytes).answer ≡ old_answer bytes
  -- "A file of more than 64 records, once refusal 3": whatever its length and its records
  pub once_3 : (bytes : List ℕ) → SURVEY_HEADER ≤ length bytes → Marked bytes 82 SURVEY_VERSIONS → OLD_LIMIT < count_of bytes →
      old_answer bytes ≡ Err (record { number = 3; place = 0 })
  -- "and else gets its own refusal": 3 is that of a count of 0 alone
  pub own_refusal : (bytes : List ℕ) → Bytes bytes → (r : Refusal) → (read_survey bytes).answer ≡ Err r → r.number ≡ 3 → count_of bytes ≡ 0
  -- "a count of 0 still gives 3"
  pub still_3 : (bytes : List ℕ) → SURVEY_HEADER ≤ length bytes → Marked bytes 82 SURVEY_VERSIONS → count_of bytes ≡ 0 →
      (read_survey bytes).answer ≡ Err (record { number = 3; place = 0 })
