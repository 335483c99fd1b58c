-- What a yard's call ensures, as plain facts: `yard_answers` says what it found and `put_all` what the list then holds, and the clauses
-- follow from the two.
-- Assumes nothing.
use Prim.Native.Nat.{ℕ, zero, suc}
use mathlib.Core.Path.{◌≡◌, refl, ◌∙◌}
use mathlib.Core.List.{List, [], ◌∷◌, ◌++◌, map, map-append}
use lib.ListN.{length, take, drop, length-map}
use Rattle.rating.specs.declared.judging.Judgement.{Judgement}
use Rattle.files.specs.declared.Refusal.{Refusal}
use Rattle.session.specs.Answers.{Values, refused_by, judgement_answer}
use Rattle.session.specs.Yard.{entries, answered_yard, judge_yard, yard_list}
use Rattle.session.specs.YardRun.{Found}
use Rattle.session.specs.Loaded.{Session}
use Rattle.session.specs.declared.yard.YardAnswers.{YardAnswers}

map_drop : {A B : Type 0} (f : A → B) (n : ℕ) (l : List A) → map f (drop n l) ≡ drop n (map f l)
map_drop f zero l = refl
map_drop f (suc n) [] = refl
map_drop f (suc n) (x ∷ l) = map_drop f n l

both_parts : (found ys : List Judgement) (count : ℕ) → entries (take count found ++ drop count ys) ≡ entries (take count found) ++ drop count (entries ys)
both_parts found ys count = map-append judgement_answer (take count found) (drop count ys) ∙ rw (map_drop judgement_answer count ys)

-- the answers in front of what the list held, where none is refused; and the list as it was, where one is
module _ (s : Session) (yard : List ℕ) (ys : List Judgement) where
  pub yard_written : (found : YardAnswers) (zs : List Judgement) → Found s yard (length ys) found → zs ≡ take found.count found.answers ++ drop found.count ys →
      (Values (found.passes ∷ []) ≡ (judge_yard s yard (entries ys)).answer) × (entries zs ≡ yard_list s yard (entries ys))
  unfolding judge_yard yard_list
  yard_written found zs h e =
      let same = length-map ys judgement_answer in (
        rw (same, h.is),
        rw (e, same, h.is) (both_parts found.answers ys found.count ∙ rw (h.entries, h.count)),
      )

  pub yard_refused : (f : Refusal) → answered_yard s yard (length ys) ≡ refused_by f →
      (refused_by f ≡ (judge_yard s yard (entries ys)).answer) × (entries ys ≡ yard_list s yard (entries ys))
  unfolding judge_yard yard_list
  yard_refused f h = let same = length-map ys judgement_answer in (rw (same, h), rw (same, h))
