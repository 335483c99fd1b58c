-- The numbers of a file. Document 01, 'Files': "Little-endian."
use Rattle.std.specs.Prelude.{ℕ, zero, suc, ◌+◌, ◌*◌, ◌/◌, ◌%◌, ◌<◌, List, [], ◌∷◌, ◌++◌, get_or}

-- the byte at a place
abbrev pub byte_at : List ℕ → ℕ → ℕ
byte_at bytes at = get_or bytes at 0

-- a list of bytes
abbrev pub Bytes : List ℕ → Type 0
Bytes bytes = (i : ℕ) → byte_at bytes i < 256

-- the u16 at a place, its low byte first
abbrev pub word_at : List ℕ → ℕ → ℕ
word_at bytes at = byte_at bytes at + 256 * byte_at bytes (at + 1)

-- the number in so many bytes from a place on, its low byte first
abbrev pub number_at : (width : ℕ) → List ℕ → (at : ℕ) → ℕ
number_at zero bytes at = 0
number_at (suc width) bytes at = byte_at bytes at + 256 * number_at width bytes (at + 1)

-- a number in so many bytes, its low byte first
abbrev pub bytes_of : (width number : ℕ) → List ℕ
bytes_of zero number = []
bytes_of (suc width) number = number % 256 ∷ bytes_of width (number / 256)

-- f 0, f 1, .. up to f (n - 1)
abbrev pub each {ℓ} : {X : Type ℓ} → (ℕ → X) → ℕ → List X
each f zero = []
each f (suc n) = each f n ++ f n ∷ []

-- the lists f 0, f 1, .. up to f (n - 1), one behind the other
abbrev pub in_row : (ℕ → List ℕ) → ℕ → List ℕ
in_row f zero = []
in_row f (suc n) = in_row f n ++ f n

-- n words in a row
abbrev pub words : List ℕ → (at n : ℕ) → List ℕ
words bytes at n = each (λ i. word_at bytes (at + 2 * i)) n
