-- A refusal of the join names its fault, and a fault its refusal: the tests in their order come to the plain words.
-- Assumes nothing.
use Rattle.std.specs.Prelude.{Ok, Err}
use Prim.Native.Nat.{ℕ, ◌+◌, ◌-◌, ◌<◌}
use mathlib.Core.Path.{◌≡◌, sym, ◌∙◌}
use mathlib.Core.List.{List}
use mathlib.Core.Logic.{◌⊎◌, inl, inr, ⊎_elim}
use native.Mathlib.Decide.{ℕ_discrete, dec_le}
use native.Mathlib.Omega.{arith}
use lib.ListN.{length}
use borrow.Author.Tests.{lt-leb}
use Rattle.files.specs.Reading.{first_refusal}
use Rattle.surveys.specs.SurveyFile.{count_of, record_at}
use Rattle.files.specs.declared.Refusal.{Refusal}
use Rattle.files.proofs.Each.{length_each, getD_each}
use Rattle.files.proofs.Faults.{refusal, reading_case, fault_at, taken_none, none_taken, refused_at}
use Rattle.surveys.proofs.Surveys.{taken_allowed, allowed_taken, named_refused, either_file}
use Rattle.join.specs.Join.{pair_fault, pair_faults, pair_answer, output, join_tests}
use Rattle.join.specs.Fault.{BothAllowed, JoinableBefore, output_length, Reached, JoinFault, first_refused, second_refused, other_count, not_agreed, too_far, short_output, MayBeJoined}
use Rattle.join.proofs.Records.{joinable_clear, clear_joinable, not_agreed_fault, too_far_fault, Readings, may_join, do_not_agree, are_far, readings_case}
use Rattle.join.proofs.Pairs.{count_differs, count_alike, pair_count, length_output, Passed}

module _ (first second : List ℕ) where
  abbrev fault : (i : ℕ) → ℕ
  fault = pair_fault first second

  -- the pairs may be joined exactly where the tests find nothing
  pair_joinable : pair_answer first second ≡ (Ok tt) → JoinableBefore first second (count_of first)
  pair_joinable e i l =
      clear_joinable _ _ (sym (getD_each fault (count_of first) i 0 l) ∙ taken_none 1 (pair_faults first second (count_of first)) (sym (count_alike first second (pair_count first second e)) ∙ e) i)

  clear_before : (n : ℕ) → JoinableBefore first second n → (i : ℕ) → i < n → fault i ≡ 0
  clear_before n h i l = joinable_clear _ _ (h i l)

  joinable_pair : count_of first ≡ count_of second → JoinableBefore first second (count_of first) → pair_answer first second ≡ (Ok tt)
  joinable_pair same h = count_alike first second same ∙ none_taken 1 fault (count_of first) (clear_before (count_of first) h)

  -- the first pair at fault is the refusal
  first_fault_lem : (i number : ℕ) → Reached first second i → fault i ≡ number → 0 < number → pair_answer first second ≡ refusal number (i + 1)
  first_fault_lem i number f e some =
      count_alike first second f.counts ∙ fault_at fault 1 i (count_of first) number f.there (none_taken 1 fault i (clear_before i f.before)) e (omega arith)

  module _ (room : ℕ) where
    -- both files are allowed, and this is the pair's answer
    after_both : BothAllowed first second → (n p : ℕ) → pair_answer first second ≡ refusal n p → first_refusal (join_tests first second room) ≡ refusal n p
    after_both b n p e = rw (allowed_taken first b.first_allowed, allowed_taken second b.second_allowed, e)

    -- a fault in plain words is the refusal
    pub fault_refused : (n p : ℕ) → JoinFault first second room n p → first_refusal (join_tests first second room) ≡ refusal n p
    fault_refused n p (first_refused r f) = rw (named_refused first r f)
    fault_refused n p (second_refused a r f) = rw (allowed_taken first a, named_refused second r f)
    fault_refused n p (other_count b d) = after_both b 18 0 (count_differs first second d)
    fault_refused n p (not_agreed i f h) = after_both f.allowed 18 (i + 1) (first_fault_lem i 18 f (not_agreed_fault _ _ h) (omega arith))
    fault_refused n p (too_far i f a h) = after_both f.allowed 19 (i + 1) (first_fault_lem i 19 f (too_far_fault _ _ a h) (omega arith))
    fault_refused n p (short_output b same h s) =
        let short : room < length (output first second) = omega (arith, length_output first second) in
        rw (allowed_taken first b.first_allowed, allowed_taken second b.second_allowed, joinable_pair same h, lt-leb _ _ short)

    -- what passes every test, in plain words
    pub passed_good : Passed first second room → MayBeJoined first second room
    passed_good p =
        record {
          allowed = record { first_allowed = taken_allowed first p.first_taken; second_allowed = taken_allowed second p.second_taken };
          counts = pair_count first second p.pair;
          joinable = pair_joinable p.pair;
          room_enough = omega (arith, p.room_enough, length_output first second);
        }

    pub good_passed : MayBeJoined first second room → Passed first second room
    good_passed g =
        record {
          first_taken = allowed_taken first g.allowed.first_allowed;
          second_taken = allowed_taken second g.allowed.second_allowed;
          pair = joinable_pair g.counts g.joinable;
          room_enough = omega (arith, g.room_enough, length_output first second);
        }

    abbrev Outcome : Type 0
    Outcome = Passed first second room ⊎ ((n p : ℕ) × JoinFault first second room n p)

    -- every call passes all tests or has a fault
    pub passed_or_fault : Outcome
    passed_or_fault =
        ⊎_elim (λ a. ⊎_elim (λ b. compared (record { first_allowed = a; second_allowed = b })) (λ (r, f). inr (r.number, r.place, second_refused a r f)) (either_file second))
        (λ (r, f). inr (r.number, r.place, first_refused r f))
        (either_file first)
      where
        roomy : BothAllowed first second → count_of first ≡ count_of second → pair_answer first second ≡ (Ok tt) → Outcome
        roomy b same e =
            elim (dec_le (output_length first) room) [
              | yes l ↦ inl (good_passed (record { allowed = b; counts = same; joinable = pair_joinable e; room_enough = l }))
              | no s ↦ inr (14, 0, short_output b same (pair_joinable e) (omega arith))
            ]

        at_fault : (i : ℕ) → Reached first second i → (fault i ≡ 0 → ⊥) → Readings (record_at first i) (record_at second i) → Outcome
        at_fault i f some (may_join j) = absurd (some (joinable_clear _ _ j))
        at_fault i f some (do_not_agree h) = inr (18, i + 1, not_agreed i f h)
        at_fault i f some (are_far a h) = inr (19, i + 1, too_far i f a h)

        first_pair : BothAllowed first second → count_of first ≡ count_of second → (r : Refusal) → pair_answer first second ≡ Err r → Outcome
        first_pair b same r e =
            let found = refused_at 1 (pair_faults first second (count_of first)) r (sym (count_alike first second same) ∙ e) in
            let i : ℕ = r.place - 1 in
            let inside : i < count_of first = omega (arith, found.below, found.from, length_each fault (count_of first)) in
            let before : JoinableBefore first second i = λ k l. clear_joinable _ _ (sym (getD_each fault (count_of first) k 0 (omega arith)) ∙ found.first k l) in
            at_fault i (record { allowed = b; counts = same; there = inside; before = before }) (λ z. found.fault (sym found.number ∙ getD_each fault (count_of first) i 0 inside ∙ z)) (readings_case _ _)

        compared : BothAllowed first second → Outcome
        compared b =
            elim (ℕ_discrete (count_of first) (count_of second)) [
              | yes same ↦ reading_case (pair_answer first second) (λ x. Outcome) (roomy b same) (first_pair b same)
              | no d ↦ inr (18, 0, other_count b d)
            ]
