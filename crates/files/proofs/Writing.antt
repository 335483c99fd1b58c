-- Bytes into an output: what is put behind what was put, what the output then holds, and what the answer says of the tests.
-- Assumes nothing.
use Prim.Native.Nat.{ℕ, zero, suc, ◌+◌, ◌*◌, ◌≤◌, ◌<◌}
use mathlib.Core.Path.{◌≡◌, refl, sym, ap, ◌∙◌}
use mathlib.Core.List.{List, [], ◌∷◌, ◌++◌, append_assoc, append-nil}
use native.Mathlib.Decide.{dec_lt}
use native.Mathlib.Omega.{arith}
use lib.ListN.{length, take, drop, length-append, length-drop}
use lib.Seq.{paste, take-paste, take_all, take_at, drop_at, drop-paste, drop-drop}
use Rattle.files.specs.Answer.{Answer, Values, WithMargin, WithDeflection, RefusedAt}
use Rattle.files.specs.Words.{in_row}
use Rattle.files.specs.Writing.{answer_by, bytes_by, onto}
use Rattle.files.specs.Reading.{Reading}
use Rattle.std.specs.Prelude.{Ok, Err}

-- what is put behind what was put
pub paste_behind : (row : List ℕ) (at : ℕ) (a b : List ℕ) (n m : ℕ) → at ≤ length row → length a ≡ n → length b ≡ m →
    paste (paste row at a n) (at + n) b m ≡ paste row at (a ++ b) (n + m)
paste_behind row at a b n m long e f =
    let start : take (at + n) (paste row at a n) ≡ take at row ++ a = take-paste row at a n long (omega (arith, e)) ∙ rw (take_all n a (omega (arith, e))) in
    let same : at + n + m ≡ at + (n + m) = omega arith in
    let rest : drop (at + n + m) (paste row at a n) ≡ drop (at + (n + m)) row =
    sym (drop-drop m (at + n) (paste row at a n)) ∙ ap (drop m) (drop-paste row at a n long (omega (arith, e))) ∙ drop-drop m (at + n) row ∙ ap (λ (k : ℕ). drop k row) same in
    let both : take (n + m) (a ++ b) ≡ a ++ b = take_all (n + m) (a ++ b) (omega (arith, length-append a b, e, f)) in
    rw (start, take_all m b (omega (arith, f)), rest, both) (ap (λ (l : List ℕ). l ++ drop (at + (n + m)) row) (append_assoc (take at row) a b))

-- what the output then holds
module _ (bytes out : List ℕ) where
  pub onto_first : (n : ℕ) → n ≡ length bytes → take n (onto bytes out) ≡ bytes
  onto_first n e = take_at bytes _ n (sym e)

  pub onto_beyond : (n : ℕ) → n ≡ length bytes → drop n (onto bytes out) ≡ drop n out
  onto_beyond n e = drop_at bytes (drop (length bytes) out) n (sym e) ∙ rw e

  pub onto_length : length bytes ≤ length out → length (onto bytes out) ≡ length out
  onto_length h = length-append bytes (drop (length bytes) out) ∙ omega (arith, h, length-drop (length bytes) out)

-- an answer with bytes is no refusal
abbrev bytes_in : Answer → ℕ
bytes_in (Values (n ∷ ns)) = suc n
bytes_in (Values []) = 0
bytes_in (WithMargin values margin) = 0
bytes_in (WithDeflection values deflection) = 0
bytes_in (RefusedAt number place) = 0

pub written_tests : (a : Reading) (m n : ℕ) → answer_by a m ≡ Values (n ∷ []) → (a ≡ (Ok tt)) × (n ≡ m)
written_tests (Ok tt) m n e = (refl, omega (arith, ap bytes_in e))
written_tests (Err r) m n e = absurd (omega (arith, ap bytes_in e))

pub refused_tests : (a : Reading) (m n p : ℕ) (bytes : List ℕ) → answer_by a m ≡ RefusedAt n p → bytes_by a bytes ≡ []
refused_tests (Ok tt) m n p bytes e = absurd (omega (arith, ap bytes_in e))
refused_tests (Err r) m n p bytes e = refl

-- lists one behind the other, each of the same length
module _ (f : ℕ → List ℕ) (size : ℕ) (long : (i : ℕ) → length (f i) ≡ size) where
  pub length_row : (n : ℕ) → length (in_row f n) ≡ size * n
  length_row zero = omega arith
  length_row (suc n) =
      let step : size * suc n ≡ size * n + size = omega arith in
      simp length-append (omega (arith, length_row n, long n, step))

-- those up to n have f i behind those up to i
pub row_split : (f : ℕ → List ℕ) (i n : ℕ) → i < n → (rest : List ℕ) × (in_row f n ≡ in_row f i ++ f i ++ rest)
row_split f i zero h = absurd (omega arith)
row_split f i (suc n) h =
    elim (dec_lt i n) [
      | yes l ↦
          let (rest, e) = row_split f i n l in
          (rest ++ f n, ap (λ (bytes : List ℕ). bytes ++ f n) e ∙ append_assoc (in_row f i ++ f i) rest (f n))
      | no g ↦ let same : n ≡ i = omega arith in ([], rw (same, append-nil))
    ]
