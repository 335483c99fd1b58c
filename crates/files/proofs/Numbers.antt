-- A number in so many bytes: writing it and reading it give each other back. One law each way, over the number of bytes.
-- Assumes nothing.
use Prim.Native.Nat.{ℕ, zero, suc, ◌+◌, ◌*◌, ◌/◌, ◌%◌, ◌≤◌, ◌<◌}
use mathlib.Core.Path.{◌≡◌, refl, sym, ap, ◌∙◌}
use mathlib.Core.List.{List, [], ◌∷◌, ◌++◌, append_assoc}
use native.Mathlib.Omega.{arith}
use lib.ListN.{length, get_or, take, drop, length-append}
use lib.Seq.{drop-cons, get_or_at, append_snoc, take-add, drop-drop}
use Rattle.files.specs.Words.{byte_at, Bytes, word_at, number_at, bytes_of}

pub length_bytes : (width number : ℕ) → length (bytes_of width number) ≡ width
length_bytes zero number = refl
length_bytes (suc width) number = ap suc (length_bytes width (number / 256))

-- a turn of the loop that writes them: the next byte, and what is left of the number
pub next_byte : (bytes : List ℕ) (i left rest : ℕ) → i < length bytes → bytes_of (suc left) rest ≡ drop i bytes →
    (get_or bytes i 0 ≡ rest % 256) × (bytes_of left (rest / 256) ≡ drop (suc i) bytes)
next_byte bytes i left rest h e =
    let cons : bytes_of (suc left) rest ≡ get_or bytes i 0 ∷ drop (suc i) bytes = e ∙ drop-cons bytes i 0 h in
    (sym (ap (λ (l : List ℕ). get_or l 0 0) cons), ap (drop 1) cons)

-- a word is a number of two bytes
pub two_bytes_at : (bytes : List ℕ) (at : ℕ) → number_at 2 bytes at ≡ word_at bytes at
two_bytes_at bytes at = omega arith

-- so many bytes hold the number
abbrev pub FitsIn : (width number : ℕ) → Type 0
FitsIn zero number = number ≡ 0
FitsIn (suc width) number = FitsIn width (number / 256)

-- what was written is read
pub number_written : (width number : ℕ) → FitsIn width number → (before behind : List ℕ) (at : ℕ) → length before ≡ at →
    number_at width (before ++ bytes_of width number ++ behind) at ≡ number
number_written zero number fits before behind at e = sym fits
number_written (suc width) number fits before behind at e =
    let low = number % 256 in
    let rest = bytes_of width (number / 256) in
    let moved : before ++ low ∷ rest ++ behind ≡ before ++ (low ∷ []) ++ rest ++ behind = ap (λ (l : List ℕ). l ++ behind) (sym (append_snoc before low rest)) in
    let first : byte_at (before ++ low ∷ rest ++ behind) at ≡ low = ap (λ (l : List ℕ). byte_at l at) (append_assoc before (low ∷ rest) behind) ∙ get_or_at before low (rest ++ behind) 0 at e in
    let behind_it : length (before ++ low ∷ []) ≡ at + 1 = simp length-append (omega (arith, e)) in
    let high = number_written width (number / 256) fits (before ++ low ∷ []) behind (at + 1) behind_it in
    rw (first, moved, high) (omega arith)

-- so many bytes from a place on
abbrev pub window : List ℕ → (at n : ℕ) → List ℕ
window bytes at n = take n (drop at bytes)

-- two windows side by side are one
pub windows : (bytes : List ℕ) (at n m : ℕ) → window bytes at n ++ window bytes (at + n) m ≡ window bytes at (n + m)
windows bytes at n m = ap (λ (l : List ℕ). window bytes at n ++ take m l) (sym (drop-drop n at bytes)) ∙ sym (take-add n m (drop at bytes))

pub beside : (bytes : List ℕ) (at n m : ℕ) (first last : List ℕ) → first ≡ window bytes at n → last ≡ window bytes (at + n) m → first ++ last ≡ window bytes at (n + m)
beside bytes at n m first last e f = rw (e, f) (windows bytes at n m)

-- what was read is written
pub number_read : (bytes : List ℕ) → Bytes bytes → (width at : ℕ) → at + width ≤ length bytes → bytes_of width (number_at width bytes at) ≡ window bytes at width
number_read bytes small zero at h = refl
number_read bytes small (suc width) at h =
    let low = byte_at bytes at in
    let high = number_at width bytes (at + 1) in
    let first : (low + 256 * high) % 256 ≡ low = omega (arith, small at) in
    let rest : (low + 256 * high) / 256 ≡ high = omega (arith, small at) in
    let behind : bytes_of width high ≡ window bytes (at + 1) width = number_read bytes small width (at + 1) (omega arith) in
    let next : suc at ≡ at + 1 = omega arith in
    rw (first, rest, behind, drop-cons bytes at 0 (omega arith), next)
