-- `readings_answer` meets its contract: the readings are tested one after the other, and where none is bad the order of two of them is that of
-- their numbers of 64ths.
-- Assumes nothing.
use Rattle.std.proofs.lemmas.Result.{err_from_is_err_and}
use Rattle.std.specs.Prelude.{Option, Ok, Err}
use Rattle.std.specs.Option.{ok_or}
use Prim.Native.Nat.{ℕ}
use mathlib.Core.Path.{◌≡◌, ap}
use mathlib.Core.Bool.{true, false}
use mathlib.Core.Logic.{inl, inr}
use lib.Ieee.{Float}
use Rattle.section.proofs.Choices.{decided}
use Rattle.files.specs.Reading.{test}
use Rattle.files.specs.declared.Refusal.{Refusal}
use Rattle.gauge.specs.Whole.{count_of, counted_of}
use Rattle.gauge.specs.Gauge.{reading_tests}
use Rattle.gauge.specs.Value.{is_reading}
use Rattle.gauge.proofs.Values.{reading_counted, counts_in_order}
use Rattle.gauge.proofs.readings_answer.Goals as goal

-- what a reading's count gives where it is asked for: a refusal of what is none, or the number of 64ths
module _ (x : Float) (o : Option ℕ) (r : Refusal) (is : o ≡ counted_of x) where
  refused : (e : Refusal) → Err e ≡ ok_or o r → (is_reading x ≡ false) × (e ≡ r)
  refused e h =
      elim (decided (is_reading x)) [
        | inl good ↦ absurd (let z = rw (is, good) at h in cc)
        | inr bad ↦ let z = rw (is, bad) at h in (bad, cc)
      ]

  passed : (n : ℕ) → Ok n ≡ ok_or o r → (is_reading x ≡ true) × (n ≡ count_of x)
  passed n h =
      elim (decided (is_reading x)) [
        | inl good ↦ let z = rw (is, good) at h in (good, cc)
        | inr bad ↦ absurd (let z = rw (is, bad) at h in cc)
      ]

pub returns-in_err-ok_or : goal.returns-in_err-ok_or
unfolding reading_tests
returns-in_err-ok_or c =
    let p = err_from_is_err_and c.from_residual.result c.from_residual.ensures.1 in
    let first = refused _ _ _ c.sixty_fourths.ensures _ c.in_err-ok_or.ensures.value in
    rw (p.1, p.2, first.1, c.at.ensures, first.0)

pub returns-in_err-loaded : goal.returns-in_err-loaded
unfolding reading_tests
returns-in_err-loaded c =
    let p = err_from_is_err_and c.from_residual-in_err-loaded.result c.from_residual-in_err-loaded.ensures.1 in
    let first = passed _ _ _ c.sixty_fourths.ensures _ c.in_ok-ok_or.ensures.value in
    let second = refused _ _ _ c.sixty_fourths-2.ensures _ c.in_err-loaded.ensures.value in
    rw (p.1, p.2, second.1, c.at-2.ensures, first.0, second.0)

pub returns-in_err-after : goal.returns-in_err-after
unfolding reading_tests
returns-in_err-after c =
    let p = err_from_is_err_and c.from_residual-in_err-after.result c.from_residual-in_err-after.ensures.1 in
    let first = passed _ _ _ c.sixty_fourths.ensures _ c.in_ok-ok_or.ensures.value in
    let second = passed _ _ _ c.sixty_fourths-2.ensures _ c.in_ok-loaded.ensures.value in
    let third = refused _ _ _ c.sixty_fourths-3.ensures _ c.in_err-after.ensures.value in
    rw (p.1, p.2, third.1, c.at-3.ensures, first.0, second.0, third.0)

pub returns : goal.returns
unfolding reading_tests
returns c =
    let r = c.args.readings in
    let first = passed _ _ _ c.sixty_fourths.ensures _ c.in_ok-ok_or.ensures.value in
    let second = passed _ _ _ c.sixty_fourths-2.ensures _ c.in_ok-loaded.ensures.value in
    let third = passed _ _ _ c.sixty_fourths-3.ensures _ c.in_ok-after.ensures.value in
    rw (c.unless.ensures, first.0, second.0, third.0, second.1, third.1) (ap (test 20) (counts_in_order r.after r.loaded (reading_counted _ third.0) (reading_counted _ second.0)))
