-- What the documents allow a survey file to be, with no order of tests in it.
use Rattle.std.specs.Prelude.{ℕ, ◌+◌, ◌*◌, ◌≤◌, ◌<◌, ◌≡◌, List, [], ◌∷◌, length, take}
use Rattle.member.specs.Format.{◌‥◌, In, AllowedMember}
use Rattle.files.specs.Header.{version_of}
use Rattle.surveys.specs.Sequence.{InSequence}
use Rattle.member.specs.Fields.{MOST_MEMBERS}
use Rattle.surveys.specs.SurveyFile.{SURVEY_HEADER, RECORD, SURVEY_VERSIONS, SEQUENCE_FROM, count_of, record_at}

-- "Survey: the letters TBR, u16 version 1, u8 count 1..64, then per member 16 u16"; from document 02 version 2, request 8/13, and counts up to
-- 255, request 12/13
pub record AllowedSurveyFile (bytes : List ℕ) : Type 0 where
  pub mark : take 3 bytes ≡ 84 ∷ 66 ∷ 82 ∷ []
  pub version : In SURVEY_VERSIONS (version_of bytes)
  pub count : In (1 ‥ MOST_MEMBERS) (count_of bytes)
  pub size : length bytes ≡ SURVEY_HEADER + RECORD * count_of bytes
  pub members : (i : ℕ) → i < count_of bytes → AllowedMember (record_at bytes i)
  -- "From survey version 2 the records stand by kind, then span, then spacing, each rising .. Version 1 keeps free order."
  pub order : SEQUENCE_FROM ≤ version_of bytes → InSequence (record_at bytes) (count_of bytes)
