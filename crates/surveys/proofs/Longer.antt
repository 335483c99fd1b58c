-- What is claimed of longer trestles.
-- Assumes nothing.
use Rattle.std.specs.Prelude.{Err}
use Prim.Native.Nat.{ℕ, ◌≤◌, ◌<◌}
use mathlib.Core.Path.{◌≡◌}
use mathlib.Core.List.{List}
use lib.ListN.{length}
use native.Mathlib.Decide.{dec_lt}
use native.Mathlib.Omega.{arith}
use borrow.Author.Tests.{le-leb}
use Rattle.member.specs.Fields.{MOST_MEMBERS}
use Rattle.member.specs.Format.{In, ◌‥◌}
use Rattle.member.proofs.Counts.{count_byte_holds}
use Rattle.files.specs.Header.{header_fault}
use Rattle.files.specs.Refused.{Marked, HeaderFault, too_short, wrong_mark, wrong_count, wrong_length}
use Rattle.files.proofs.Faults.{head_first}
use Rattle.files.proofs.Headers.{header_is}
use Rattle.surveys.specs.SurveyFile.{SURVEY_HEADER, SURVEY_VERSIONS, RECORD, count_of, survey_header, record_faults, survey_answer, read_survey}
use Rattle.surveys.specs.Longer.{OLD_LIMIT, old_header, old_answer, LongerTrestles}
use Rattle.surveys.proofs.Surveys.{headed_first, refused_named}

-- a count that is in both ranges, or in neither
same_header : (bytes : List ℕ) → count_of bytes ≤ OLD_LIMIT → survey_header bytes ≡ old_header bytes
unfolding header_fault
same_header bytes few = rw (le-leb (count_of bytes) MOST_MEMBERS (omega arith), le-leb (count_of bytes) OLD_LIMIT few)

same_answer : (bytes : List ℕ) → count_of bytes ≤ OLD_LIMIT → (read_survey bytes).answer ≡ old_answer bytes
unfolding read_survey survey_answer
same_answer bytes few = rw (same_header bytes few)

-- 3 is the fault of the count
module _ (bytes : List ℕ) where
  count_fault : (n : ℕ) → HeaderFault 82 SURVEY_VERSIONS SURVEY_HEADER MOST_MEMBERS RECORD bytes n → n ≡ 3 → ¬ (In (1 ‥ MOST_MEMBERS) (count_of bytes))
  count_fault n (too_short l) e = absurd (omega arith)
  count_fault n (wrong_mark l m) e = absurd (omega arith)
  count_fault n (wrong_count l m c) e = c
  count_fault n (wrong_length l m c s) e = absurd (omega arith)

  no_members : count_of bytes < 256 → ¬ (In (1 ‥ MOST_MEMBERS) (count_of bytes)) → count_of bytes ≡ 0
  no_members byte outside =
      elim (dec_lt 0 (count_of bytes)) [ yes some ↦ absurd (outside ((count_byte_holds (count_of bytes)).1 (some, byte))) | no none ↦ omega arith ]

  still_refused : SURVEY_HEADER ≤ length bytes → Marked bytes 82 SURVEY_VERSIONS → count_of bytes ≡ 0 → (read_survey bytes).answer ≡ Err (record { number = 3; place = 0 })
  unfolding read_survey
  still_refused long marked none =
      headed_first bytes 3 (header_is 82 SURVEY_VERSIONS SURVEY_HEADER MOST_MEMBERS RECORD bytes (omega arith) (wrong_count long marked (λ within. omega (arith, within)))) (omega arith)

  once_refused : SURVEY_HEADER ≤ length bytes → Marked bytes 82 SURVEY_VERSIONS → OLD_LIMIT < count_of bytes → old_answer bytes ≡ Err (record { number = 3; place = 0 })
  once_refused long marked many =
      rw (head_first 0 3 (old_header bytes) (record_faults bytes (count_of bytes)) (header_is 82 SURVEY_VERSIONS SURVEY_HEADER OLD_LIMIT RECORD bytes (omega arith) (wrong_count long marked (λ within. omega (arith, within)))) (omega arith))

pub longer_trestles : LongerTrestles
longer_trestles =
    record {
      as_before = same_answer;
      once_3 = λ bytes long marked many. once_refused bytes long marked (omega arith);
      own_refusal =
          λ bytes byte r e three.
          let named = refused_named bytes r e in
          no_members bytes (byte 5) (count_fault bytes r.number (named.header_fault (named.header (omega arith))) three);
      still_3 = still_refused;
    }
