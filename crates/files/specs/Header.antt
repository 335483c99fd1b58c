-- The head of a file. Document 01, 'Calls': "A file shorter than its header gives 1, then 2, 3, 1 are tested". Both files
-- have a mark, a version, and in the last byte of the header the count of their records.
use Rattle.std.specs.Prelude.{ℕ, ◌+◌, ◌-◌, ◌*◌, List, [], ◌∷◌, Bool, ◌&&◌, length, eqb, leb}
use Rattle.member.specs.Format.{Range, ◌‥◌}
use Rattle.files.specs.Words.{byte_at, word_at}
use Rattle.files.specs.Reading.{◌unless◌, first_of, is_in}

-- "u16 version", behind the letters
abbrev pub version_of : List ℕ → ℕ
version_of bytes = word_at bytes 3

-- the letters TB and a third one, and one of these versions
unfoldable pub marked : List ℕ → (letter : ℕ) (versions : Range) → Bool
marked bytes letter versions =
    eqb (byte_at bytes 0) 84 && eqb (byte_at bytes 1) 66 && eqb (byte_at bytes 2) letter && is_in versions (version_of bytes)

-- "1 length is not what the counts say (or too short to hold them); 2 mark or version; 3 count of members or axles", for a
-- file of this third letter, versions, header, most records, and bytes of a record
unfoldable pub header_fault : (letter : ℕ) (versions : Range) (header most size : ℕ) → List ℕ → ℕ
header_fault letter versions header most size bytes =
    first_of
    (1 unless leb header (length bytes) ∷
    2 unless marked bytes letter versions ∷
    3 unless is_in (1 ‥ most) (byte_at bytes (header - 1)) ∷
    1 unless eqb (length bytes) (header + size * byte_at bytes (header - 1)) ∷
    [])
