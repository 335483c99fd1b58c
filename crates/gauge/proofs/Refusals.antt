-- The tests of the readings, in their order, come to the plain words, and the plain words to the tests.
-- Assumes nothing.
use Rattle.std.specs.Prelude.{Ok}
use Prim.Native.Nat.{ℕ, ◌+◌, ◌<◌}
use mathlib.Core.Path.{◌≡◌, refl, sym, ◌∙◌}
use mathlib.Core.Bool.{Bool, true, false, true≢false}
use mathlib.Core.Logic.{◌⊎◌, inl, inr}
use native.Mathlib.Omega.{arith}
use Rattle.section.specs.Fraction.{at_most}
use Rattle.section.proofs.Choices.{decided}
use Rattle.section.proofs.Order.{at_most_lem, is_at_most, above, is_above}
use Rattle.files.specs.Reading.{Reading, first_fault, or_else, test}
use Rattle.files.specs.Words.{each}
use Rattle.files.proofs.Tests.{refutes}
use Rattle.files.proofs.Faults.{refusal, reading_case, both_taken, test_holds, failing, all_hold, hold_all, first_failing, failing_named}
use Rattle.gauge.specs.Value.{value_of, is_reading}
use Rattle.gauge.specs.Gauge.{reading_tests}
use Rattle.gauge.specs.Fault.{reading_at, AllReadings, ReadingFault, bad_reading, after_above, MayBeGauged}
use Rattle.gauge.specs.declared.Readings.{Readings}
use Rattle.gauge.proofs.Values.{reading_is, is_reading_lem}

module _ (r : Readings) where
  abbrev good : (i : ℕ) → Bool
  good i = is_reading (reading_at r i)

  abbrev order : Bool
  order = at_most (value_of r.after) (value_of r.loaded)

  -- the readings' own tests
  abbrev row : Reading
  row = first_fault 1 (each (failing 20 (omega arith) good) 3)

  tests : reading_tests r ≡ or_else row (test 20 order)
  unfolding reading_tests
  tests = refl

  row_good : row ≡ (Ok tt) → AllReadings r
  row_good e i l = reading_is _ (all_hold 20 (omega arith) good 3 e i l)

  good_row : AllReadings r → row ≡ (Ok tt)
  good_row h = hold_all 20 (omega arith) good 3 (λ i l. is_reading_lem _ (h i l))

  -- no test fails
  pub taken_good : reading_tests r ≡ (Ok tt) → MayBeGauged r
  taken_good e =
      let both = both_taken row (test 20 order) (sym tests ∙ e) in
      record { readings = row_good both.0; order = at_most_lem _ _ (test_holds 20 order both.1) }

  pub good_taken : MayBeGauged r → reading_tests r ≡ (Ok tt)
  good_taken g = tests ∙ rw (good_row g.readings, is_at_most g.order)

  -- a fault in plain words is the refusal
  pub fault_refused : (n p : ℕ) → ReadingFault r n p → reading_tests r ≡ refusal n p
  fault_refused n p (bad_reading i l before bad) = tests ∙ rw (first_failing 20 (omega arith) good i 3 l (λ k m. is_reading_lem _ (before k m)) (refutes (good i) (reading_is _) bad))
  fault_refused n p (after_above all over) = tests ∙ rw (good_row all, is_above over)

  -- the readings pass every test, or have a fault
  abbrev Outcome : Type 0
  Outcome = MayBeGauged r ⊎ ((n p : ℕ) × ReadingFault r n p)

  pub passed_or_fault : Outcome
  passed_or_fault = reading_case row (λ a. Outcome) (λ e. ordered (row_good e)) (λ q e. named (failing_named 20 (omega arith) good 3 q e))
    where
      ordered : AllReadings r → Outcome
      ordered all =
          elim (decided order) [
            | inl e ↦ inl (record { readings = all; order = at_most_lem _ _ e })
            | inr e ↦ inr (20, 0, after_above all (above _ _ e))
          ]

      named : (i : ℕ) × (i < 3) × ((k : ℕ) → k < i → good k ≡ true) × (good i ≡ false) → Outcome
      named (i, l, before, bad) = inr (20, i + 1, bad_reading i l (λ k m. reading_is _ (before k m)) (λ h. true≢false (sym (is_reading_lem _ h) ∙ bad)))
