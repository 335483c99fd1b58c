-- What a refusal says of a file's head, in plain words beside the ordered tests of `Header`: what it names has the fault of its number, and
-- nothing before that has any. proofs/Headers shows that the ordered tests come to just this.
use Rattle.std.specs.Prelude.{ℕ, ◌+◌, ◌-◌, ◌*◌, ◌≤◌, ◌<◌, ◌≡◌, List, [], ◌∷◌, length, take}
use Rattle.member.specs.Format.{Range, ◌‥◌, In}
use Rattle.files.specs.Words.{byte_at}
use Rattle.files.specs.Header.{version_of}

-- the letters TB and a third one, and one of these versions
abbrev pub Marked : List ℕ → (letter : ℕ) (versions : Range) → Type 0
Marked bytes letter versions = (take 3 bytes ≡ 84 ∷ 66 ∷ letter ∷ []) × In versions (version_of bytes)

-- a file of this third letter (R is 82, V is 86), versions, header, most records, and bytes of a record
module _ (letter : ℕ) (versions : Range) (header most size : ℕ) (bytes : List ℕ) where
  -- a header with no fault
  pub record Headed : Type 0 where
    pub long : header ≤ length bytes
    pub marked : Marked bytes letter versions
    pub count : In (1 ‥ most) (byte_at bytes (header - 1))
    pub sized : length bytes ≡ header + size * byte_at bytes (header - 1)

  -- "A file shorter than its header gives 1, then 2, 3, 1 are tested": that test fails, and those before it hold
  pub data HeaderFault : ℕ → Type 0 where
    -- "or too short to hold them"
    too_short : length bytes < header → HeaderFault 1
    -- "2 mark or version"
    wrong_mark : header ≤ length bytes → ¬ (Marked bytes letter versions) → HeaderFault 2
    -- "3 count of members or axles"
    wrong_count : header ≤ length bytes → Marked bytes letter versions → ¬ (In (1 ‥ most) (byte_at bytes (header - 1))) → HeaderFault 3
    -- "1 length is not what the counts say"
    wrong_length : header ≤ length bytes → Marked bytes letter versions → In (1 ‥ most) (byte_at bytes (header - 1)) →
        ¬ (length bytes ≡ header + size * byte_at bytes (header - 1)) →
        HeaderFault 1
