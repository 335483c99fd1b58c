-- A refusal of the converter names its fault, and a fault its refusal: the tests in their order come to the plain words.
-- Assumes nothing.
use Rattle.std.specs.Prelude.{Ok, Err}
use Prim.Native.Nat.{ℕ, ◌+◌, ◌≤◌, ◌<◌}
use mathlib.Core.Path.{◌≡◌, refl, sym}
use mathlib.Core.Bool.{Bool, true, false, false≢true}
use mathlib.Core.List.{List}
use mathlib.Core.Logic.{◌⊎◌, inl, inr}
use native.Mathlib.Decide.{dec_le}
use native.Mathlib.Omega.{arith}
use lib.ListN.{length}
use borrow.Author.Tests.{leb-true, leb-false, le-leb, lt-leb}
use Rattle.section.specs.Units.{weight}
use Rattle.member.specs.Format.{In}
use Rattle.files.specs.Header.{version_of}
use Rattle.files.specs.Reading.{first_refusal}
use Rattle.files.specs.Refused.{wrong_mark}
use Rattle.files.specs.declared.Refusal.{Refusal}
use Rattle.files.proofs.Faults.{refusal, reading_case, all_hold, hold_all, first_failing, failing_named}
use Rattle.vehicles.specs.VehicleFile.{axles_of, vehicle_of}
use Rattle.vehicles.specs.Allowed.{AllowedVehicleOf}
use Rattle.vehicles.specs.Refused.{wrong_header}
use Rattle.vehicles.proofs.Vehicles.{weight_is, taken_allowed, allowed_taken, refused_named, named_refused}
use Rattle.convert.specs.Convert.{wanted_version, given_version, only, weight_fits, heavy_answer, output, convert_tests}
use Rattle.convert.specs.Fault.{Accepted, WeightsFit, output_length, ConvertFault, file_refused, too_heavy, short_output, MayBeConverted}
use Rattle.convert.specs.declared.Wanted.{Wanted}
use Rattle.convert.specs.declared.Wanted.TheVariants.{Version1, Version2}
use Rattle.convert.proofs.Files.{length_vehicle}
use Rattle.convert.proofs.Converting.{given_read, Passed}

module _ (wanted : Wanted) (file : List ℕ) where
  -- the weight of the axle of index i fits, by the test
  abbrev fits : (i : ℕ) → Bool
  fits i = weight_fits wanted (weight (vehicle_of file).weights i)

  pub fits_all : heavy_answer wanted (vehicle_of file) ≡ (Ok tt) → (i : ℕ) → i < axles_of file → fits i ≡ true
  unfolding heavy_answer
  fits_all e = all_hold 17 (omega arith) fits (axles_of file) e

  pub all_fit : ((i : ℕ) → i < axles_of file → fits i ≡ true) → heavy_answer wanted (vehicle_of file) ≡ (Ok tt)
  unfolding heavy_answer
  all_fit h = hold_all 17 (omega arith) fits (axles_of file) h

  first_heavy : (i : ℕ) → i < axles_of file → ((k : ℕ) → k < i → fits k ≡ true) → fits i ≡ false → heavy_answer wanted (vehicle_of file) ≡ refusal 17 (i + 1)
  unfolding heavy_answer
  first_heavy i l before f = first_failing 17 (omega arith) fits i (axles_of file) l before f

  heavy_named : (r : Refusal) → heavy_answer wanted (vehicle_of file) ≡ Err r → (i : ℕ) × (i < axles_of file) × ((k : ℕ) → k < i → fits k ≡ true) × (fits i ≡ false)
  unfolding heavy_answer
  heavy_named r e = failing_named 17 (omega arith) fits (axles_of file) r e

-- the two ways are two
differ : Version2 ≡ Version1 → ⊥
differ e = let z : ◌≡◌ {A = ℕ} 0 1 = cc in omega arith

-- the test of a weight, in plain words: going back it is at most 60,000
light_fits : (w : Wanted) (n : ℕ) → (w ≡ Version1 → n ≤ 60000) → weight_fits w n ≡ true
light_fits Version1 n h = le-leb _ _ (h refl)
light_fits Version2 n h = refl

fits_light : (w : Wanted) (n : ℕ) → weight_fits w n ≡ true → w ≡ Version1 → n ≤ 60000
fits_light Version1 n e back = leb-true _ _ e
fits_light Version2 n e back = absurd (differ back)

heavy_fails : (w : Wanted) (n : ℕ) → w ≡ Version1 → 60000 < n → weight_fits w n ≡ false
heavy_fails Version1 n back h = lt-leb _ _ h
heavy_fails Version2 n back h = absurd (differ back)

fails_heavy : (w : Wanted) (n : ℕ) → weight_fits w n ≡ false → (w ≡ Version1) × (60000 < n)
fails_heavy Version1 n e = (refl, leb-false n 60000 e)
fails_heavy Version2 n e = absurd (false≢true (sym e))

module _ (wanted : Wanted) (file : List ℕ) where
  -- the weights fit exactly where the test of them finds nothing
  pub fit_light : (n : ℕ) → n ≤ axles_of file → WeightsFit wanted file n → (i : ℕ) → i < n → weight_fits wanted (weight (vehicle_of file).weights i) ≡ true
  fit_light n h fit i l = light_fits wanted _ (λ back. rw (weight_is file i (omega arith)) (fit back i l))

  light_fit : (n : ℕ) → n ≤ axles_of file → ((i : ℕ) → i < n → weight_fits wanted (weight (vehicle_of file).weights i) ≡ true) → WeightsFit wanted file n
  light_fit n h e back i l = rw (weight_is file i (omega arith)) at (fits_light wanted _ (e i l) back)

  size_is : length (output wanted file) ≡ output_length wanted file
  size_is = length_vehicle (wanted_version wanted) (vehicle_of file)

  module _ (room : ℕ) where
    -- a fault in plain words is the refusal
    pub fault_refused : (n p : ℕ) → ConvertFault wanted file room n p → first_refusal (convert_tests wanted file room) ≡ refusal n p
    fault_refused n p (file_refused r f) = rw (named_refused _ file r f)
    fault_refused n p (too_heavy a back i l before h) =
        let heavy = heavy_fails wanted (weight (vehicle_of file).weights i) back (rw (weight_is file i l) h) in
        rw (allowed_taken _ file a, first_heavy wanted file i l (fit_light i (omega arith) before) heavy)
    fault_refused n p (short_output a fit s) =
        let short : room < length (output wanted file) = omega (arith, s, size_is) in
        rw (allowed_taken _ file a, all_fit wanted file (fit_light (axles_of file) (omega arith) fit), lt-leb _ _ short)

    -- what passes every test, in plain words
    pub passed_good : Passed wanted file room → MayBeConverted wanted file room
    passed_good p = record { accepted = taken_allowed _ file p.taken; weights = light_fit (axles_of file) (omega arith) (fits_all wanted file p.light); room_enough = omega (arith, p.room_enough, size_is) }

    pub good_passed : MayBeConverted wanted file room → Passed wanted file room
    good_passed g =
        record {
          taken = allowed_taken _ file g.accepted;
          light = all_fit wanted file (fit_light (axles_of file) (omega arith) g.weights);
          room_enough = omega (arith, g.room_enough, size_is);
        }

    abbrev Outcome : Type 0
    Outcome = Passed wanted file room ⊎ ((n p : ℕ) × ConvertFault wanted file room n p)

    -- every call passes all tests or has a fault
    pub passed_or_fault : Outcome
    passed_or_fault =
        reading_case (given_read wanted file).answer (λ x. Outcome) (λ e. accepted (taken_allowed _ file e)) (λ r e. inr (r.number, r.place, file_refused r (refused_named _ file r e)))
      where
        roomy : Accepted wanted file → WeightsFit wanted file (axles_of file) → Outcome
        roomy a fit =
            elim (dec_le (output_length wanted file) room) [
              | yes l ↦ inl (good_passed (record { accepted = a; weights = fit; room_enough = l }))
              | no s ↦ inr (14, 0, short_output a fit (omega arith))
            ]

        heavy : Accepted wanted file → (r : Refusal) → heavy_answer wanted (vehicle_of file) ≡ Err r → Outcome
        heavy a r e =
            let (i, l, before, fails) = heavy_named wanted file r e in
            let (back, above) = fails_heavy wanted _ fails in
            inr (17, i + 1, too_heavy a back i l (light_fit i (omega arith) before) (rw (weight_is file i l) at above))

        accepted : Accepted wanted file → Outcome
        accepted a =
            reading_case (heavy_answer wanted (vehicle_of file)) (λ x. Outcome) (λ e. roomy a (light_fit (axles_of file) (omega arith) (fits_all wanted file e))) (heavy a)

    -- a file that has the wanted version already
    pub already : AllowedVehicleOf (only (wanted_version wanted)) file → ConvertFault wanted file room 2 0
    already a =
        file_refused (record { number = 2; place = 0 })
        (record {
          number = inl (omega arith, omega arith);
          header = λ l. refl;
          place = omega arith;
          front_fault = λ e. wrong_header (wrong_mark (omega (arith, a.size)) (λ m. other wanted a.version m.1));
          axle_fault = λ l. absurd (omega arith);
        })
      where
        other : (w : Wanted) → In (only (wanted_version w)) (version_of file) → In (only (given_version w)) (version_of file) → ⊥
        other Version1 a b = omega (arith, a.1, b.0)
        other Version2 a b = omega (arith, a.0, b.1)
