-- The bytes of a survey's file of version 1. Document 01, 'Files': "Little-endian. Survey: the letters TBR, u16 version 1, u8 count 1..64, then
-- per member 16 u16"; by document 02, request 12/13, up to 255.
use Rattle.std.specs.Prelude.{ℕ, List, [], ◌∷◌, ◌++◌}
use Rattle.member.specs.Fields.{FIELDS, field}
use Rattle.member.specs.declared.record.Member.{Member}
use Rattle.files.specs.Words.{bytes_of, in_row}

-- "the letters TBR, u16 version 1, u8 count"
abbrev pub head_bytes : (count : ℕ) → List ℕ
head_bytes count = (84 ∷ 66 ∷ 82 ∷ []) ++ bytes_of 2 1 ++ bytes_of 1 count

-- "16 u16"
abbrev pub record_bytes : Member → List ℕ
record_bytes m = in_row (λ f. bytes_of 2 (field m f)) FIELDS

-- "then per member": of the records by index, from 0
unfoldable pub survey_bytes : (count : ℕ) (at : ℕ → Member) → List ℕ
survey_bytes count at = head_bytes count ++ in_row (λ i. record_bytes (at i)) count
