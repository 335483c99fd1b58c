-- What version 2 is for. Document 02, request 8/13: "Two clerks export one bridge and the files differ." In version 2 they do not, unless
-- two of the records are equals.
use Rattle.std.specs.Prelude.{ℕ, ◌<◌, ◌≡◌, List, ◌⊎◌}
use Rattle.member.specs.declared.record.Member.{Member}
use Rattle.files.specs.Words.{Bytes}
use Rattle.files.specs.Header.{version_of}
use Rattle.surveys.specs.Sequence.{sequence_fields, Before, InSequence}
use Rattle.surveys.specs.SurveyFile.{count_of, record_at}
use Rattle.surveys.specs.Allowed.{AllowedSurveyFile}

-- of the first n records no two are equals: of any two one stands before the other
abbrev pub NoEquals : (at : ℕ → Member) (n : ℕ) → Type 0
NoEquals at n = (i k : ℕ) → i < k → k < n → Before sequence_fields (at i) (at k) ⊎ Before sequence_fields (at k) (at i)

-- each of the first clerk's n records is one of the second's n; where no two are equals, both have the same records
abbrev pub SameRecords : (at at' : ℕ → Member) (n : ℕ) (partner : ℕ → ℕ) → Type 0
SameRecords at at' n partner = (i : ℕ) → i < n → (partner i < n) × (at i ≡ at' (partner i))

-- where both stand in order, they stand at the same places
abbrev pub OneOrder : Type 0
OneOrder =
    (at at' : ℕ → Member) (n : ℕ) (partner : ℕ → ℕ) → InSequence at n → InSequence at' n → NoEquals at n →
    SameRecords at at' n partner →
    (i : ℕ) → i < n → at i ≡ at' i

-- so their files of version 2 are the same, byte by byte
abbrev pub OneFile : Type 0
OneFile =
    (bytes bytes' : List ℕ) (partner : ℕ → ℕ) → Bytes bytes → Bytes bytes' → AllowedSurveyFile bytes → AllowedSurveyFile bytes' →
    version_of bytes ≡ 2 →
    version_of bytes' ≡ 2 →
    count_of bytes ≡ count_of bytes' →
    NoEquals (record_at bytes) (count_of bytes) →
    SameRecords (record_at bytes) (record_at bytes') (count_of bytes) partner →
    bytes ≡ bytes'
