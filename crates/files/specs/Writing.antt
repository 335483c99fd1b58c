-- A call that writes bytes into a lent output. Document 02, requests 9/13 and 10/13: "The number of bytes written comes back, bytes beyond are
-- kept, a refusal writes nothing".
use Rattle.std.specs.Prelude.{ℕ, List, [], ◌∷◌, ◌++◌, length, drop, Result, Ok, Err}
use Rattle.files.specs.Answer.{Answer, Values, refused_by}
use Rattle.files.specs.Reading.{Reading}
use Rattle.files.specs.declared.Refusal.{Refusal}

-- the answer's numbers: "The number of bytes written comes back", or a refusal's number and place
abbrev pub written_answer : Result ℕ Refusal → Answer
written_answer (Ok n) = Values (n ∷ [])
written_answer (Err r) = refused_by r

-- by the tests: how many bytes, or the refusal; and the bytes, or none: "a refusal writes nothing"
abbrev pub answer_by : Reading → (bytes : ℕ) → Answer
answer_by (Ok tt) bytes = Values (bytes ∷ [])
answer_by (Err r) bytes = refused_by r

abbrev pub bytes_by : Reading → (bytes : List ℕ) → List ℕ
bytes_by (Ok tt) bytes = bytes
bytes_by (Err r) bytes = []

-- what the output then holds: "bytes beyond are kept"
abbrev pub onto : (bytes out : List ℕ) → List ℕ
onto bytes out = bytes ++ drop (length bytes) out
