-- A refusal names its fault, and a fault its refusal: the tests in their order come to the plain words.
-- Assumes nothing.
use Rattle.std.specs.Prelude.{Ok, Err}
use Prim.Native.Nat.{ℕ, ◌+◌, ◌*◌}
use mathlib.Core.Path.{◌≡◌, sym, ap, ◌∙◌}
use mathlib.Core.Bool.{false≢true}
use mathlib.Core.List.{List}
use mathlib.Core.Logic.{◌⊎◌, inl, inr, ⊎_elim}
use native.Mathlib.Decide.{ℕ_discrete, dec_le}
use native.Mathlib.Omega.{arith}
use lib.ListN.{length}
use borrow.Author.Tests.{ne_eqb, lt-leb}
use Rattle.member.specs.declared.record.Vehicle.{Vehicle}
use Rattle.surveys.specs.SurveyFile.{count_of, record_at}
use Rattle.files.specs.Reading.{first_refusal}
use Rattle.files.specs.declared.Refusal.{Refusal}
use Rattle.files.proofs.Faults.{refusal, reading_case, failing_named}
use Rattle.surveys.proofs.Surveys.{taken_allowed, allowed_taken, named_refused, either_file}
use Rattle.between.specs.Order.{order_of}
use Rattle.between.specs.Between.{between_tests, between_list}
use Rattle.between.specs.Fault.{BothAllowed, MayBeJudged, BetweenFault, no_vehicle, first_refused, second_refused, other_count, not_ordered, short_list}
use Rattle.between.proofs.Orders.{count_differs, count_alike, test_ordered, ordered_test, ordered_at, taken_in_order, in_order_taken, first_unordered}
use Rattle.between.proofs.Lists.{bounds_length}
use Rattle.between.proofs.Pairs.{Passed, passed_all, list_kept}

module _ (v : Vehicle) (first second : List ℕ) (room : ℕ) where
  -- a fault in plain words is the refusal
  pub fault_refused : (n p : ℕ) → BetweenFault v first second room n p → first_refusal (between_tests v first second room) ≡ refusal n p
  fault_refused n p (no_vehicle e) = rw e
  fault_refused n p (first_refused h r f) = rw (ne_eqb v.axles 0 (omega arith), named_refused first r f)
  fault_refused n p (second_refused h a r f) = rw (ne_eqb v.axles 0 (omega arith), allowed_taken first a, named_refused second r f)
  fault_refused n p (other_count b d) =
      rw (ne_eqb v.axles 0 (omega (arith, b.vehicle)), allowed_taken first b.first_allowed, allowed_taken second b.second_allowed, count_differs _ _ (record_at first) (record_at second) d)
  fault_refused n p (not_ordered b same i l before o) =
      rw (ne_eqb v.axles 0 (omega (arith, b.vehicle)), allowed_taken first b.first_allowed, allowed_taken second b.second_allowed, first_unordered first second same i l before o)
  fault_refused n p (short_list b o s) =
      rw (ne_eqb v.axles 0 (omega (arith, b.vehicle)), allowed_taken first b.first_allowed, allowed_taken second b.second_allowed, in_order_taken first second o, lt-leb _ _ s)

  -- what passes every test, in plain words
  pub passed_good : Passed v first second room → MayBeJudged v first second room
  passed_good p =
      record {
        allowed = record { vehicle = p.vehicle; first_allowed = taken_allowed first p.first_taken; second_allowed = taken_allowed second p.second_taken };
        order = taken_in_order first second p.order;
        room_enough = p.room_enough;
      }

  pub good_passed : MayBeJudged v first second room → Passed v first second room
  good_passed g =
      record {
        vehicle = g.allowed.vehicle;
        first_taken = allowed_taken first g.allowed.first_allowed;
        second_taken = allowed_taken second g.allowed.second_allowed;
        order = in_order_taken first second g.order;
        room_enough = g.room_enough;
      }

  abbrev Outcome : Type 0
  Outcome = Passed v first second room ⊎ ((n p : ℕ) × BetweenFault v first second room n p)

  -- the first record that is not in order
  unordered : BothAllowed v first second → count_of first ≡ count_of second → (r : Refusal) → order_of first second ≡ Err r → Outcome
  unordered b same r e =
      let (i, inside, before, fails) = failing_named 15 (omega arith) (ordered_at first second) (count_of first) r (sym (count_alike _ _ _ _ same) ∙ e) in
      inr (15, i + 1, not_ordered b same i inside (λ k l. test_ordered _ _ (before k l)) (λ o. false≢true (sym fails ∙ ordered_test _ _ o)))

  -- every call passes all tests or has a fault
  pub passed_or_fault : Outcome
  passed_or_fault =
      elim (ℕ_discrete v.axles 0) [
        | yes e ↦ inr (12, 0, no_vehicle e)
        | no h ↦
            ⊎_elim (λ a. ⊎_elim (λ a'. compared (record { vehicle = omega arith; first_allowed = a; second_allowed = a' })) (λ (r, f). inr (r.number, r.place, second_refused (omega arith) a r f)) (either_file second))
            (λ (r, f). inr (r.number, r.place, first_refused (omega arith) r f))
            (either_file first)
      ]
    where
      roomy : (b : BothAllowed v first second) → order_of first second ≡ (Ok tt) → Outcome
      roomy b e =
          elim (dec_le (2 * count_of first) room) [
            | yes l ↦ inl (good_passed (record { allowed = b; order = taken_in_order first second e; room_enough = l }))
            | no s ↦ inr (14, 0, short_list b (taken_in_order first second e) (omega arith))
          ]

      compared : BothAllowed v first second → Outcome
      compared b =
          elim (ℕ_discrete (count_of first) (count_of second)) [
            | yes same ↦ reading_case (order_of first second) (λ a. Outcome) (roomy b) (unordered b same)
            | no d ↦ inr (15, 0, other_count b d)
          ]

-- the list keeps its length
pub between_length : (v : Vehicle) (first second list : List ℕ) → length (between_list v first second list) ≡ length list
unfolding between_list
between_length v first second list =
    ⊎_elim (λ p. rw (passed_all v first second (length list) p) (bounds_length _ _ (count_of first) list p.room_enough))
    (λ (n, p, f). ap length (sym (list_kept v first second list _ (fault_refused v first second (length list) n p f))))
    (passed_or_fault v first second (length list))
