-- The yard's vehicles one after the other: what the code has kept of the first ones, and one more by its answer, is kept of that one too.
-- Assumes nothing.
use Prim.Native.Nat.{ℕ, zero, suc, ◌+◌, ◌-◌, ◌≤◌, ◌<◌, min}
use mathlib.Core.Path.{◌≡◌, refl, sym, ap, subst, ◌∙◌}
use mathlib.Core.List.{List, [], ◌∷◌, ◌++◌, map, map-append}
use native.Mathlib.Numerals.{add-one}
use native.Mathlib.Nat.{add-zero}
use native.Mathlib.Omega.{arith}
use lib.ListN.{length, take, drop, set, length-set, length-drop}
use lib.Seq.{take_all, take-suc-set, drop-drop}
use Rattle.vehicles.specs.YardFile.{MOST_VEHICLES, own_length, files_in, left_after}
use Rattle.files.specs.declared.Refusal.{Refusal}
use Rattle.vehicles.proofs.Yards.{take_most, drop_most, one_more_file, left_after_one}
use Rattle.rating.specs.declared.judging.Judgement.{Judgement}
use Rattle.rating.specs.declared.judging.Verdict.{Verdict}
use Rattle.rating.specs.declared.judging.Verdict.TheVariants.{Pass, Refuse}
use Rattle.session.specs.Answers.{Answer, Values, WithMargin, WithDeflection, RefusedAt, verdict_number, judgement_answer, refused_by}
use Rattle.session.specs.Calls.{unless_refused}
use Rattle.session.specs.Yard.{Entry, entries, alone, passing, first_refusal}
use Rattle.session.specs.YardRun.{answers_to, with_answer, Going, FirstRefused}
use Rattle.session.specs.Loaded.{Session}
use Rattle.session.specs.declared.yard.Run.{Run}
use Rattle.session.proofs.Loads.{never_both}

-- the first refusal of two rows
pub first_append : (xs ys : List Answer) (x : Answer) → first_refusal (xs ++ ys) x ≡ first_refusal xs (first_refusal ys x)
first_append [] ys x = refl
first_append (Values v ∷ xs) ys x = first_append xs ys x
first_append (WithMargin v m ∷ xs) ys x = first_append xs ys x
first_append (WithDeflection v d ∷ xs) ys x = first_append xs ys x
first_append (RefusedAt n p ∷ xs) ys x = refl

-- a row with no refusal leaves what stands behind it, and one with a refusal does not come to it
pub first_none : (xs : List Answer) (x : Answer) → first_refusal xs (Values []) ≡ Values [] → first_refusal xs x ≡ x
first_none [] x e = refl
first_none (Values v ∷ xs) x e = first_none xs x e
first_none (WithMargin v m ∷ xs) x e = first_none xs x e
first_none (WithDeflection v d ∷ xs) x e = first_none xs x e
first_none (RefusedAt n p ∷ xs) x e = never_both [] n p (sym e)

pub first_some : (xs : List Answer) (x : Answer) (n p : ℕ) → first_refusal xs (Values []) ≡ RefusedAt n p → first_refusal xs x ≡ RefusedAt n p
first_some [] x n p e = never_both [] n p e
first_some (Values v ∷ xs) x n p e = first_some xs x n p e
first_some (WithMargin v m ∷ xs) x n p e = first_some xs x n p e
first_some (WithDeflection v d ∷ xs) x n p e = first_some xs x n p e
first_some (RefusedAt m q ∷ xs) x n p e = e

-- the answers with one vehicle more
module _ (s : Session) (yard : List ℕ) (i : ℕ) where
  abbrev rest : List ℕ
  rest = left_after i (drop 1 yard)

  abbrev next_file : List ℕ
  next_file = take (own_length rest) rest

  answers_more : answers_to s yard (i + 1) ≡ answers_to s yard i ++ alone s next_file ∷ []
  answers_more =
      ap (answers_to s yard) (add-one i) ∙ ap (map (alone s)) (one_more_file i (drop 1 yard)) ∙ map-append (alone s) (files_in i (drop 1 yard)) (next_file ∷ [])

  -- the first refusal is that of the vehicles before it, else its own
  first_more : first_refusal (answers_to s yard (i + 1)) (Values []) ≡ first_refusal (answers_to s yard i) (unless_refused (alone s next_file) (alone s next_file) (Values []))
  first_more =
      ap (λ (row : List Answer). first_refusal row (Values [])) answers_more ∙ first_append (answers_to s yard i) (alone s next_file ∷ []) (Values [])

-- the number of passes in two rows; of one entry it is judge's verdict
pub passing_append : (xs ys : List Entry) → passing (xs ++ ys) ≡ passing xs + passing ys
passing_append [] ys = omega arith
passing_append (a ∷ xs) ys = omega (arith, passing_append xs ys)

passing_one : (j : Judgement) → passing (judgement_answer j ∷ []) ≡ verdict_number j.verdict
passing_one j = go j.verdict
  where
    go : (v : Verdict) → passing (WithMargin (j.figure.0 ∷ j.governing ∷ verdict_number v ∷ []) j.margin ∷ []) ≡ verdict_number v
    go Pass = refl
    go Refuse = refl

pub verdict_small : (v : Verdict) → verdict_number v ≤ 1
verdict_small Pass = omega arith
verdict_small Refuse = omega arith

-- no vehicle yet
pub going_none : (s : Session) (yard : List ℕ) (r : Run) → 1 ≤ length yard → r.at ≡ 1 → r.passes ≡ 0 → length r.answers ≡ MOST_VEHICLES → Going s yard 0 r
going_none s yard r h at p sized =
    record { clear = refl; sized = sized; within = omega arith; rest = rw at; entries = refl; passes = p; few = omega arith }

-- a refusal stays, however many vehicles come after it
pub refusal_stays : (s : Session) (yard : List ℕ) (i n : ℕ) (f : Refusal) → FirstRefused s yard i f → FirstRefused s yard (i + n) f
refusal_stays s yard i zero f e = rw add-zero e
refusal_stays s yard i (suc n) f e =
    let one : i + suc n ≡ i + n + 1 = omega arith in
    rw one (first_more s yard (i + n) ∙ first_some (answers_to s yard (i + n)) _ f.number f.place (refusal_stays s yard i n f e))

-- one vehicle more, whose file is cut off what is left
module _ (s : Session) (yard : List ℕ) (i : ℕ) (r : Run) (h : Going s yard i r) where
  abbrev size : ℕ
  size = min (own_length (drop r.at yard)) (length (drop r.at yard))

  -- it is the next file
  cut : take size (drop r.at yard) ≡ next_file s yard i
  cut = take_most (own_length (drop r.at yard)) (drop r.at yard) ∙ ap (λ (l : List ℕ). take (own_length l) l) h.rest

  first_is : (a : Answer) → a ≡ alone s (take size (drop r.at yard)) → first_refusal (answers_to s yard (i + 1)) (Values []) ≡ unless_refused a a (Values [])
  first_is a e =
      first_more s yard i ∙ first_none (answers_to s yard i) _ h.clear ∙ ap (λ (a : Answer). unless_refused a a (Values [])) (sym (e ∙ ap (alone s) cut))

  abbrev end : ℕ
  end = r.at + size

  left : drop end yard ≡ left_after (i + 1) (drop 1 yard)
  left =
      sym (drop-drop size r.at yard) ∙ drop_most (own_length (drop r.at yard)) (drop r.at yard) ∙ ap (λ (l : List ℕ). drop (own_length l) l) h.rest ∙ sym (left_after_one i (drop 1 yard)) ∙ ap (λ (n : ℕ). left_after n (drop 1 yard)) (sym (add-one i))

  within : end ≤ length yard
  within = omega (arith, length-drop r.at yard, h.within)

  going_more : (j : Judgement) → i < MOST_VEHICLES → judgement_answer j ≡ alone s (take size (drop r.at yard)) →
      Going s yard (i + 1) (with_answer r j i end)
  going_more j few e =
      let own : answers_to s yard (i + 1) ≡ answers_to s yard i ++ judgement_answer j ∷ [] = answers_more s yard i ∙ ap (λ (a : Answer). answers_to s yard i ++ a ∷ []) (sym (e ∙ ap (alone s) cut)) in
      record {
        clear = first_is (judgement_answer j) e;
        sized = length-set r.answers i j ∙ h.sized;
        within = within;
        rest = left;
        entries =
            ap (λ (n : ℕ). entries (take n (set r.answers i j))) (add-one i) ∙ ap entries (take-suc-set r.answers i j (omega (arith, h.sized))) ∙ map-append judgement_answer (take i r.answers) (j ∷ []) ∙ ap (λ (l : List Entry). l ++ judgement_answer j ∷ []) h.entries ∙ sym own;
        passes =
            sym (ap passing own ∙ passing_append (answers_to s yard i) (judgement_answer j ∷ []) ∙ rw (passing_one j, ← h.passes));
        few = omega (arith, h.few, verdict_small j.verdict);
      }

  -- the same with the parts of the bytes as the code has them
  abbrev behind : List ℕ
  behind = take (length yard - r.at) (drop r.at yard)

  behind_is : behind ≡ drop r.at yard
  behind_is = take_all (length yard - r.at) (drop r.at yard) (omega (arith, length-drop r.at yard))

  module _ (n : ℕ) (e : n ≡ min (own_length behind) (length behind)) where
    same : n ≡ size
    same = e ∙ ap (λ (l : List ℕ). min (own_length l) (length l)) behind_is

    pub file_within : r.at + n ≤ length yard
    file_within = omega (arith, within, same)

    abbrev file : List ℕ
    file = take (r.at + n - r.at) (drop r.at yard)

    file_is : file ≡ take size (drop r.at yard)
    file_is = let length_is : r.at + n - r.at ≡ size = omega (arith, same) in ap (λ (m : ℕ). take m (drop r.at yard)) length_is

    pub judged_more : (j : Judgement) → i < MOST_VEHICLES → judgement_answer j ≡ alone s file → Going s yard (i + 1) (with_answer r j i (r.at + n))
    judged_more j few a =
        subst (λ (m : ℕ). Going s yard (i + 1) (with_answer r j i (r.at + m))) (sym same) (going_more j few (a ∙ ap (alone s) file_is))

    pub refused_more : (f : Refusal) → refused_by f ≡ alone s file → FirstRefused s yard (i + 1) f
    refused_more f a = first_is (refused_by f) (a ∙ ap (alone s) file_is)
