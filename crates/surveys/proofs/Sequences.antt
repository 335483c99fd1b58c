-- The order of a survey's records: the test decides it, and it is enough to test each record against its predecessor, since of records m, n
-- and k m stands before k only where m stands before n or n before k.
-- Assumes nothing.
use Rattle.std.specs.Prelude.{Ok, Err, Option, Some, cond}
use Rattle.std.proofs.Common.{Ordering}
use Rattle.std.specs.Ordering.{nat_cmp, partial_ordering_then, is_lt, is_some_and}
use Rattle.std.specs.declared.cmp.Ordering.TheVariants.{Less, Equal, Greater}
use Prim.Native.Nat.{ℕ, zero, suc, ◌+◌, ◌-◌, ◌*◌, ◌≤◌, ◌<◌}
use mathlib.Core.Path.{◌≡◌, refl, sym, ap, ◌∙◌}
use mathlib.Core.Bool.{Bool, true, false, not, false≢true}
use mathlib.Core.List.{List, [], ◌∷◌}
use mathlib.Core.Logic.{◌⊎◌, inl, inr, ⊎_elim}
use native.Mathlib.Decide.{dec_lt}
use native.Mathlib.Omega.{arith}
use lib.Dec.{eqb, ltb}
use borrow.Author.Tests.{eqb-true, eq-eqb, ne_eqb, leb-true, le-leb, lt-leb}
use Rattle.section.specs.Choose.{choose}
use Rattle.member.specs.Fields.{KIND, SPAN, SPACING, FIELDS, field}
use Rattle.member.specs.declared.record.Member.{Member}
use Rattle.surveys.specs.Sequence.{sequence_fields, before, Before, before_predecessor, BeforePredecessor, InSequence}
use Rattle.files.specs.Reading.{◌unless◌, first_fault}
use Rattle.files.specs.Words.{word_at, each}
use Rattle.files.specs.Header.{version_of}
use Rattle.surveys.specs.SurveyFile.{SURVEY_HEADER, RECORD, SEQUENCE_FROM, record_at, sequence_fault, sequence_answer}
use Rattle.files.specs.declared.Refusal.{Refusal}
use Rattle.files.proofs.Each.{getD_each}
use Rattle.files.proofs.Faults.{refusal, refused_not, fault_at, taken_none, none_taken, FaultAt, refused_at}
use Rattle.files.proofs.Tests.{both, refutes}

-- a record's numbers are words of the file
pub record_field : (bytes : List ℕ) (i f : ℕ) → f < FIELDS → field (record_at bytes i) f ≡ word_at bytes (SURVEY_HEADER + RECORD * i + 2 * f)
record_field bytes i f h = getD_each (λ k. word_at bytes (SURVEY_HEADER + RECORD * i + 2 * k)) FIELDS f 0 h

-- the program compares the three numbers as a tuple: the first in which two differ decides
module _ (x y : ℕ) where
  by_order : (P : Bool → Bool → Type 0) → (x < y → P true false) → (x ≡ y → P false true) → (y < x → P false false) → P (ltb x y) (eqb x y)
  by_order P less same more = elim (dec_lt x y) [ yes l ↦ rw (le-leb (suc x) y l, ne_eqb x y (omega arith)) (less l) | no n ↦ elim (dec_lt y x) [ yes m ↦ rw (lt-leb (suc x) y (omega arith), ne_eqb x y (omega arith)) (more m) | no k ↦ let e : x ≡ y = omega arith in rw (lt-leb (suc x) y (omega arith), eq-eqb x y e) (same e) ] ]

  first_decides : (then : Ordering → Option Ordering) → then Less ≡ Some Less → then Greater ≡ Some Greater →
      is_some_and is_lt (then (nat_cmp x y)) ≡ choose (eqb x y) (is_some_and is_lt (then Equal)) (ltb x y)
  first_decides then l g =
      by_order (λ less same. is_some_and is_lt (then (cond less Less (cond same Equal Greater))) ≡ choose same (is_some_and is_lt (then Equal)) less)
      (λ _. rw l) (λ _. refl) (λ _. rw g)

pub tuple_before : (m m' : Member) {a b c a' b' c' : ℕ} → a ≡ field m KIND → b ≡ field m SPAN → c ≡ field m SPACING → a' ≡ field m' KIND → b' ≡ field m' SPAN → c' ≡ field m' SPACING →
    is_some_and is_lt (partial_ordering_then (partial_ordering_then (Some (nat_cmp a a')) (Some (nat_cmp b b'))) (Some (nat_cmp c c'))) ≡ before sequence_fields m m'
unfolding before
tuple_before m m' {a = a} {b = b} {c = c} {a' = a'} {b' = b'} {c' = c'} p q r p' q' r' =
    rw (← p, ← q, ← r, ← p', ← q', ← r')
    (first_decides a a' (λ o. partial_ordering_then (partial_ordering_then (Some o) (Some (nat_cmp b b'))) (Some (nat_cmp c c'))) refl refl ∙
    ap (λ (t : Bool). choose (eqb a a') t (ltb a a')) (first_decides b b' (λ o. partial_ordering_then (Some o) (Some (nat_cmp c c'))) refl refl ∙
    ap (λ (t : Bool). choose (eqb b b') t (ltb b b')) (first_decides c c' (λ o. Some o) refl refl)))

-- the test and the words
module _ (m m' : Member) where
  before_read : (fs : List ℕ) → before fs m m' ≡ true → Before fs m m'
  unfolding before
  before_read [] e = false≢true e
  before_read (f ∷ fs) e = go (eqb (field m f) (field m' f)) refl e (before_read fs)
    where
      go : (b : Bool) → eqb (field m f) (field m' f) ≡ b → choose b (before fs m m') (ltb (field m f) (field m' f)) ≡ true → (before fs m m' ≡ true → Before fs m m') → Before (f ∷ fs) m m'
      go true t e more = inr (eqb-true _ _ t, more e)
      go false t e more = inl (leb-true (suc (field m f)) (field m' f) e)

  before_given : (fs : List ℕ) → Before fs m m' → before fs m m' ≡ true
  unfolding before
  before_given [] h = absurd h
  before_given (f ∷ fs) (inl l) = rw (ne_eqb (field m f) (field m' f) (omega arith)) (le-leb (suc (field m f)) (field m' f) l)
  before_given (f ∷ fs) (inr (e, h)) = rw (eq-eqb (field m f) (field m' f) e) (before_given fs h)

module _ (at : ℕ → Member) (i : ℕ) where
  predecessor_read : before_predecessor at i ≡ true → BeforePredecessor at i
  predecessor_read e =
      let h = both (ltb 0 i) (before sequence_fields (at i) (at (i - 1))) e in
      (leb-true 1 i h.0, before_read (at i) (at (i - 1)) sequence_fields h.1)

  predecessor_given : BeforePredecessor at i → before_predecessor at i ≡ true
  predecessor_given h = rw (le-leb 1 i h.0) (before_given (at i) (at (i - 1)) sequence_fields h.1)

-- of three records
compared : (fs : List ℕ) (m n k : Member) → Before fs m k → Before fs m n ⊎ Before fs n k
compared [] m n k h = absurd h
compared (f ∷ fs) m n k (inl l) = elim (dec_lt (field m f) (field n f)) [ yes h ↦ inl (inl h) | no h ↦ inr (inl (omega arith)) ]
compared (f ∷ fs) m n k (inr (e, h)) = go (dec_lt (field m f) (field n f)) (dec_lt (field n f) (field m f)) (compared fs m n k h)
  where
    go : Dec (field m f < field n f) → Dec (field n f < field m f) → Before fs m n ⊎ Before fs n k → Before (f ∷ fs) m n ⊎ Before (f ∷ fs) n k
    go (yes l) d more = inl (inl l)
    go (no a) (yes l) more = inr (inl (omega arith))
    go (no a) (no b) (inl x) = inl (inr (omega arith, x))
    go (no a) (no b) (inr x) = inr (inr (omega arith, x))

-- 16 is the fault of a record before its predecessor
module _ (bytes : List ℕ) (i : ℕ) where
  -- a record that has a predecessor is compared with it
  pub fault_is : {b : Bool} → 0 < i → b ≡ before sequence_fields (record_at bytes i) (record_at bytes (i - 1)) → sequence_fault bytes i ≡ 16 unless not b
  unfolding sequence_fault
  fault_is later e = rw (le-leb 1 i later, e)

  pub fault_given : BeforePredecessor (record_at bytes) i → sequence_fault bytes i ≡ 16
  unfolding sequence_fault
  fault_given h = rw (predecessor_given (record_at bytes) i h)

  no_fault : ¬ (BeforePredecessor (record_at bytes) i) → sequence_fault bytes i ≡ 0
  unfolding sequence_fault
  no_fault h = rw (refutes (before_predecessor (record_at bytes) i) (predecessor_read (record_at bytes) i) h)

  pub fault_read : (n : ℕ) → sequence_fault bytes i ≡ n → ¬ (n ≡ 0) → (n ≡ 16) × BeforePredecessor (record_at bytes) i
  unfolding sequence_fault
  fault_read n e some = go (before_predecessor (record_at bytes) i) refl e
    where
      go : (b : Bool) → before_predecessor (record_at bytes) i ≡ b → 16 unless not b ≡ n → (n ≡ 16) × BeforePredecessor (record_at bytes) i
      go true t e = (sym e, predecessor_read (record_at bytes) i t)
      go false t e = absurd (some (sym e))

-- no record stands before its predecessor exactly where none stands before any earlier one
module _ (at : ℕ → Member) (n : ℕ) where
  neighbours : ((i : ℕ) → i < n → ¬ (BeforePredecessor at i)) → InSequence at n
  neighbours h i zero l w = absurd (omega arith)
  neighbours h i (suc k) l w = go (dec_lt i k) (neighbours h i k)
    where
      ahead : ¬ (Before sequence_fields (at (suc k)) (at k))
      ahead c = let same : suc k - 1 ≡ k = omega arith in h (suc k) w (omega arith, rw same c)

      go : Dec (i < k) → (i < k → k < n → ¬ (Before sequence_fields (at k) (at i))) → ¬ (Before sequence_fields (at (suc k)) (at i))
      go (yes s) more b = ⊎_elim ahead (more s (omega arith)) (compared sequence_fields (at (suc k)) (at k) (at i) b)
      go (no s) more b = let e : i ≡ k = omega arith in ahead (rw e at b)

  in_sequence : InSequence at n → (i : ℕ) → i < n → ¬ (BeforePredecessor at i)
  in_sequence h i l b = h (i - 1) i (omega (arith, b.0)) l b.1

-- the answer for the first n records of a file
module _ (bytes : List ℕ) (n : ℕ) where
  pub free_order : version_of bytes < SEQUENCE_FROM → sequence_answer bytes n ≡ (Ok tt)
  unfolding sequence_answer
  free_order v = rw (lt-leb SEQUENCE_FROM (version_of bytes) v)

  pub ordered_version : SEQUENCE_FROM ≤ version_of bytes → sequence_answer bytes n ≡ first_fault 1 (each (sequence_fault bytes) n)
  unfolding sequence_answer
  ordered_version v = rw (le-leb SEQUENCE_FROM (version_of bytes) v)

  -- it takes them exactly where they stand in order, or the version keeps free order
  pub sequence_read : sequence_answer bytes n ≡ (Ok tt) → SEQUENCE_FROM ≤ version_of bytes → InSequence (record_at bytes) n
  sequence_read e v =
      let none = taken_none 1 (each (sequence_fault bytes) n) (sym (ordered_version v) ∙ e) in
      neighbours (record_at bytes) n
      (λ i l b. omega (arith, fault_given bytes i b, getD_each (sequence_fault bytes) n i 0 l, none i))

  pub sequence_given : (SEQUENCE_FROM ≤ version_of bytes → InSequence (record_at bytes) n) → sequence_answer bytes n ≡ (Ok tt)
  sequence_given h =
      elim (dec_lt (version_of bytes) SEQUENCE_FROM) [
        | yes v ↦ free_order v
        | no v ↦
            let from : SEQUENCE_FROM ≤ version_of bytes = omega arith in
            ordered_version from ∙
            none_taken 1 (sequence_fault bytes) n (λ i l. no_fault bytes i (in_sequence (record_at bytes) n (h from) i l))
      ]

  -- a refusal is the first fault
  pub sequence_first : (r : Refusal) → sequence_answer bytes n ≡ Err r → (SEQUENCE_FROM ≤ version_of bytes) × FaultAt 1 (each (sequence_fault bytes) n) r
  sequence_first r e =
      elim (dec_lt (version_of bytes) SEQUENCE_FROM) [
        | yes v ↦ absurd (refused_not r.number r.place (sym e ∙ free_order v))
        | no v ↦
            let from : SEQUENCE_FROM ≤ version_of bytes = omega arith in
            (from, refused_at 1 (each (sequence_fault bytes) n) r (sym (ordered_version from) ∙ e))
      ]

  -- the first record before its predecessor is refused
  pub sequence_refused : (i : ℕ) → SEQUENCE_FROM ≤ version_of bytes → i < n → BeforePredecessor (record_at bytes) i →
      ((k : ℕ) → k < i → ¬ (BeforePredecessor (record_at bytes) k)) →
      sequence_answer bytes n ≡ refusal 16 (i + 1)
  sequence_refused i v l b first =
      ordered_version v ∙
      fault_at (sequence_fault bytes) 1 i n 16 l (none_taken 1 (sequence_fault bytes) i (λ k s. no_fault bytes k (first k s))) (fault_given bytes i b) (omega arith)
