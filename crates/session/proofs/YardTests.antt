-- The tests of a yard in their order: those before the vehicles, the vehicles, those behind them. What the code finds there is the answer.
-- Assumes nothing.
use Prim.Native.Nat.{ℕ, ◌-◌, ◌≤◌, ◌<◌}
use mathlib.Core.Path.{◌≡◌, refl, sym, ap, subst, ◌∙◌}
use mathlib.Core.Bool.{Bool, true, false, not}
use mathlib.Core.List.{List, [], ◌∷◌, ◌++◌, map, append-nil}
use native.Mathlib.Omega.{arith}
use lib.Dec.{eqb, leb}
use lib.ListN.{length, length-drop}
use borrow.Author.Tests.{eq-eqb, ne_eqb, eqb-true, leb-true}
use Rattle.section.specs.Choose.{choose}
use Rattle.member.specs.Format.{In, ◌‥◌}
use Rattle.files.specs.Reading.{◌unless◌, first_of, is_in}
use Rattle.vehicles.specs.YardFile.{MOST_VEHICLES, vehicles_of, left_over}
use Rattle.files.proofs.Tests.{not_none, none, passed, in_range}
use Rattle.session.specs.Answers.{Answer, Values, RefusedAt}
use Rattle.session.specs.Yard.{vehicle_answers, passing, first_refusal, front_tests, end_tests, test, answered_yard}
use Rattle.session.specs.YardRun.{Going, Found}
use Rattle.session.specs.Loaded.{Session}
use Rattle.session.specs.declared.yard.Run.{Run}
use Rattle.session.proofs.YardRuns.{first_append, first_none, first_some}

-- a row of tests is the first fault that it has
tests_first : (ns : List ℕ) (row : List Answer) (x : Answer) →
    first_refusal (map test ns ++ row) x ≡ choose (eqb (first_of ns) 0) (first_refusal row x) (RefusedAt (first_of ns) 0)
tests_first [] row x = refl
tests_first (n ∷ ns) row x = go (eqb n 0) refl (tests_first ns row x)
  where
    go : (b : Bool) → eqb n 0 ≡ b → first_refusal (map test ns ++ row) x ≡ choose (eqb (first_of ns) 0) (first_refusal row x) (RefusedAt (first_of ns) 0) →
        first_refusal (map test (n ∷ ns) ++ row) x ≡ choose (eqb (first_of (n ∷ ns)) 0) (first_refusal row x) (RefusedAt (first_of (n ∷ ns)) 0)
    go true e h = rw e h
    go false e h = rw (e, e)

tests_last : (ns : List ℕ) (x : Answer) → first_refusal (map test ns) x ≡ choose (eqb (first_of ns) 0) x (RefusedAt (first_of ns) 0)
tests_last ns x = subst (λ (row : List Answer). first_refusal row x ≡ choose (eqb (first_of ns) 0) x (RefusedAt (first_of ns) 0)) (append-nil (map test ns)) (tests_first ns [] x)

module _ (s : Session) (yard : List ℕ) (room : ℕ) where
  abbrev front : ℕ
  front = first_of (front_tests s.survey.count yard)

  abbrev ends : List ℕ
  ends = end_tests (length (left_over yard)) (vehicles_of yard) room

  abbrev taken : Answer
  taken = Values (passing (vehicle_answers s yard) ∷ [])

  -- the answer by its three parts
  by_parts : answered_yard s yard room ≡ choose (eqb front 0) (first_refusal (vehicle_answers s yard) (choose (eqb (first_of ends) 0) taken (RefusedAt (first_of ends) 0))) (RefusedAt front 0)
  unfolding answered_yard
  by_parts =
      tests_first (front_tests s.survey.count yard) (vehicle_answers s yard ++ map test ends) taken ∙ ap (λ (a : Answer). choose (eqb front 0) a (RefusedAt front 0)) (first_append (vehicle_answers s yard) (map test ends) taken ∙ ap (first_refusal (vehicle_answers s yard)) (tests_last ends taken))

  -- by the first part that has a fault
  pub front_refused : (n : ℕ) → n ≡ front → ¬ (n ≡ 0) → answered_yard s yard room ≡ RefusedAt n 0
  front_refused n e h = rw (by_parts, ← e, ne_eqb n 0 h)

  module _ (clear : front ≡ 0) where
    pub vehicle_refused : (n p : ℕ) → first_refusal (vehicle_answers s yard) (Values []) ≡ RefusedAt n p → answered_yard s yard room ≡ RefusedAt n p
    vehicle_refused n p e = rw (by_parts, eq-eqb front 0 clear) (first_some (vehicle_answers s yard) _ n p e)

    module _ (good : first_refusal (vehicle_answers s yard) (Values []) ≡ Values []) where
      pub end_refused : (n : ℕ) → n ≡ first_of ends → ¬ (n ≡ 0) → answered_yard s yard room ≡ RefusedAt n 0
      end_refused n e h = rw (by_parts, eq-eqb front 0 clear, ← e, ne_eqb n 0 h) (first_none (vehicle_answers s yard) _ good)

      pub not_refused : first_of ends ≡ 0 → answered_yard s yard room ≡ taken
      not_refused e = rw (by_parts, eq-eqb front 0 clear, eq-eqb (first_of ends) 0 e) (first_none (vehicle_answers s yard) _ good)

  -- what the tests before the vehicles say where they find no fault, and those behind them
  pub front_clear : front ≡ 0 → (0 < s.survey.count) × (1 ≤ length yard) × (In (1 ‥ MOST_VEHICLES) (vehicles_of yard))
  front_clear e =
      let first = none (11 unless not (eqb s.survey.count 0)) (1 unless leb 1 (length yard) ∷ 3 unless is_in (1 ‥ MOST_VEHICLES) (vehicles_of yard) ∷ []) e in
      let second = none (1 unless leb 1 (length yard)) (3 unless is_in (1 ‥ MOST_VEHICLES) (vehicles_of yard) ∷ []) first.1 in
      let third = none (3 unless is_in (1 ‥ MOST_VEHICLES) (vehicles_of yard)) [] second.1 in
      (not_none s.survey.count (passed 11 _ (omega arith) first.0), leb-true 1 (length yard) (passed 1 _ (omega arith) second.0), in_range (1 ‥ MOST_VEHICLES) (vehicles_of yard) (passed 3 _ (omega arith) third.0))

  pub end_clear : first_of ends ≡ 0 → (length (left_over yard) ≡ 0) × (vehicles_of yard ≤ room)
  end_clear e =
      let first = none (1 unless eqb (length (left_over yard)) 0) (14 unless leb (vehicles_of yard) room ∷ []) e in
      let second = none (14 unless leb (vehicles_of yard) room) [] first.1 in
      (eqb-true (length (left_over yard)) 0 (passed 1 _ (omega arith) first.0), leb-true (vehicles_of yard) room (passed 14 _ (omega arith) second.0))

  -- what the code has left is what is left over
  pub end_is : (r : Run) → Going s yard (vehicles_of yard) r →
      first_of (end_tests (length yard - r.at) (vehicles_of yard) room) ≡ first_of ends
  end_is r h =
      ap (λ (n : ℕ). first_of (end_tests n (vehicles_of yard) room)) (sym (length-drop r.at yard) ∙ ap length h.rest)

  -- what the code hands to the writer
  pub found_answers : (r : Run) → Going s yard (vehicles_of yard) r → front ≡ 0 → first_of ends ≡ 0 →
      Found s yard room (record { passes = r.passes; count = vehicles_of yard; answers = r.answers })
  found_answers r h clear e =
      record {
        is = rw h.passes (not_refused clear h.clear e);
        sized = h.sized;
        most = (front_clear clear).2.1;
        fits = (end_clear e).1;
        count = refl;
        entries = h.entries;
      }
