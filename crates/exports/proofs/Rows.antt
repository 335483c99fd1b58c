-- A list in which the numbers of the first i answers stand before what was there: one answer more is three stores, and the list keeps
-- its length.
use Prim.Native.Nat.{ℕ, zero, suc, ◌+◌, ◌*◌, ◌≤◌, ◌<◌}
use mathlib.Core.Path.{◌≡◌, refl, ap}
use mathlib.Core.List.{List, [], ◌∷◌, ◌++◌}
use native.Mathlib.Numerals.{add-one}
use native.Mathlib.Omega.{arith}
use lib.ListN.{length, take, drop, get_or, set, length-append, length-drop}
use lib.Seq.{length-take-le}
use Rattle.rating.specs.declared.judging.Judgement.{Judgement}
use Rattle.session.specs.Answers.{verdict_number}
use Rattle.session.specs.Yard.{entries}
use Rattle.exports.specs.YardNumbers.{numbers_in}

abbrev pub rows : List Judgement → List ℕ → ℕ → List ℕ
rows js list i = numbers_in (entries (take i js)) ++ drop (3 * i) list

numbers_length : (js : List Judgement) → length (numbers_in (entries js)) ≡ 3 * length js
numbers_length [] = refl
numbers_length (j ∷ js) = omega (arith, numbers_length js)

pub rows_length : (js : List Judgement) (list : List ℕ) (i : ℕ) → i ≤ length js → 3 * i ≤ length list → length (rows js list i) ≡ length list
rows_length js list i l h =
    simp (length-append, length-drop) (omega (arith, numbers_length (take i js), length-take-le i js l))

-- three numbers stored from entry k on
abbrev stored : List ℕ → (k a b c : ℕ) → List ℕ
stored list k a b c = set (set (set list k a) (k + 1) b) (k + 2) c

next_row :
    (js : List Judgement) (list : List ℕ) (i : ℕ) (d : Judgement) → i < length js → 3 * i + 3 ≤ length list →
    stored (rows js list i) (3 * i) (get_or js i d).figure.0 (get_or js i d).governing (verdict_number (get_or js i d).verdict) ≡ rows js list (suc i)
next_row [] list i d l h = absurd (omega arith)
next_row (j ∷ js) [] i d l h = absurd (omega arith)
next_row (j ∷ js) (x ∷ []) i d l h = absurd (omega arith)
next_row (j ∷ js) (x ∷ y ∷ []) i d l h = absurd (omega arith)
next_row (j ∷ js) (x ∷ y ∷ z ∷ list) zero d l h = refl
next_row (j ∷ js) (x ∷ y ∷ z ∷ list) (suc i) d l h =
    let first : 3 * suc i ≡ suc (suc (suc (3 * i))) = omega arith in
    let second : 3 * suc i + 1 ≡ suc (suc (suc (3 * i + 1))) = omega arith in
    let third : 3 * suc i + 2 ≡ suc (suc (suc (3 * i + 2))) = omega arith in
    let after : 3 * suc (suc i) ≡ suc (suc (suc (3 * suc i))) = omega arith in
    rw (second, third, first, after)
    (ap (λ (rest : List ℕ). j.figure.0 ∷ j.governing ∷ verdict_number j.verdict ∷ rest) (next_row js list i d (omega arith) (omega arith)))

-- a turn of the loop
pub turn :
    (js : List Judgement) (list : List ℕ) (i : ℕ) (d : Judgement) {now : List ℕ} {verdict : ℕ} → i < length js → 3 * i + 3 ≤ length list →
    now ≡ rows js list i → verdict ≡ verdict_number (get_or js i d).verdict →
    stored now (3 * i) (get_or js i d).figure.0 (get_or js i d).governing verdict ≡ rows js list (i + 1)
turn js list i d l h e v = rw (e, v, add-one i) (next_row js list i d l h)
