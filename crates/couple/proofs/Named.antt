-- A refusal of the coupling names its fault, and a fault its refusal: the tests in their order come to the plain words. What is coupled then is the
-- files' vehicles.
-- Assumes nothing.
use Rattle.std.specs.Prelude.{Ok}
use Prim.Native.Nat.{ℕ, ◌+◌}
use mathlib.Core.Path.{◌≡◌, sym, ◌∙◌}
use mathlib.Core.Bool.{Bool, true, ◌&&◌}
use mathlib.Core.List.{List, [], ◌∷◌}
use mathlib.Core.Logic.{◌⊎◌, inl, inr, ⊎_elim}
use native.Mathlib.Decide.{dec_le}
use native.Mathlib.Omega.{arith}
use lib.Dec.{eqb}
use borrow.Author.Tests.{eqb-true, eq-eqb, le-leb, lt-leb}
use Rattle.section.proofs.Choices.{decided}
use Rattle.member.specs.Fields.{MOST_AXLES}
use Rattle.member.specs.Format.{AllowedVehicle}
use Rattle.files.specs.Reading.{is_in, test, first_refusal}
use Rattle.files.proofs.Faults.{refusal, refused_not}
use Rattle.files.proofs.Tests.{both, refutes, in_range, range_in}
use Rattle.vehicles.specs.VehicleFile.{VEHICLE_VERSIONS, class_of, track_of, axles_of, vehicle_of, read_vehicle}
use Rattle.vehicles.specs.Allowed.{AllowedVehicleFile}
use Rattle.vehicles.specs.VehicleFile.{VehicleRead}
use Rattle.vehicles.proofs.Vehicles as vehicles
use Rattle.couple.specs.Couple.{gap_range, may_follow, few_enough, coupled_vehicle, couple_tests, couple}
use Rattle.couple.proofs.Vehicles.{coupled_allowed}
use Rattle.couple.specs.Fault.{BothAllowed, Fitting, CoupleFault, first_refused, second_refused, not_fitting, too_many, MayBeCoupled}

module _ (first second : List ℕ) (gap : ℕ) where
  -- an allowed file is read, and is the vehicle that is coupled
  taken : (file : List ℕ) → AllowedVehicleFile file → (read_vehicle file).answer ≡ (Ok tt)
  taken file = vehicles.allowed_taken VEHICLE_VERSIONS file

  read : (file : List ℕ) → AllowedVehicleFile file → (read_vehicle file).vehicle ≡ vehicle_of file
  read file a = vehicles.taken_vehicle VEHICLE_VERSIONS file (taken file a)

  -- the pair's two tests, of the files' numbers
  abbrev fits : Bool
  fits = may_follow (vehicle_of first) (vehicle_of second) gap

  abbrev few : Bool
  few = few_enough (vehicle_of first) (vehicle_of second)

  fits_fitting : fits ≡ true → Fitting first second gap
  fits_fitting e =
      let all = both (eqb (class_of first) (class_of second) && eqb (track_of first) (track_of second)) (is_in gap_range gap) e in
      let alike = both (eqb (class_of first) (class_of second)) (eqb (track_of first) (track_of second)) all.0 in
      record { class = eqb-true _ _ alike.0; track = eqb-true _ _ alike.1; gap_stated = in_range gap_range gap all.1 }

  fitting_fits : Fitting first second gap → fits ≡ true
  fitting_fits f = rw (eq-eqb _ _ f.class, eq-eqb _ _ f.track, range_in gap_range gap f.gap_stated)

  -- where both files are allowed the pair's tests decide
  pair_decides : BothAllowed first second → first_refusal (couple_tests first second gap) ≡ first_refusal (test 7 fits ∷ test 3 few ∷ [])
  pair_decides b =
      rw (taken first b.first_allowed, taken second b.second_allowed, read first b.first_allowed, read second b.second_allowed)

  -- a fault in plain words is the refusal
  pub fault_refused : (n p : ℕ) → CoupleFault first second gap n p → first_refusal (couple_tests first second gap) ≡ refusal n p
  fault_refused n p (first_refused r f) = rw (vehicles.named_refused VEHICLE_VERSIONS first r f)
  fault_refused n p (second_refused a r f) = rw (taken first a, vehicles.named_refused VEHICLE_VERSIONS second r f)
  fault_refused n p (not_fitting b f) = pair_decides b ∙ rw (refutes fits fits_fitting f)
  fault_refused n p (too_many b f l) = pair_decides b ∙ rw (fitting_fits f, lt-leb (axles_of first + axles_of second) MOST_AXLES l)

  pub good_taken : MayBeCoupled first second gap → first_refusal (couple_tests first second gap) ≡ (Ok tt)
  good_taken g = pair_decides g.allowed ∙ rw (fitting_fits g.fitting, le-leb (axles_of first + axles_of second) MOST_AXLES g.axles)

  abbrev Outcome : Type 0
  Outcome = MayBeCoupled first second gap ⊎ ((n p : ℕ) × CoupleFault first second gap n p)

  -- every pair passes all tests or has a fault
  pub good_or_fault : Outcome
  good_or_fault =
      ⊎_elim (λ a. ⊎_elim (λ b. paired (record { first_allowed = a; second_allowed = b })) (λ (r, f). inr (r.number, r.place, second_refused a r f)) (vehicles.either_file VEHICLE_VERSIONS second))
      (λ (r, f). inr (r.number, r.place, first_refused r f))
      (vehicles.either_file VEHICLE_VERSIONS first)
    where
      counted : BothAllowed first second → Fitting first second gap → Outcome
      counted b f =
          elim (dec_le (axles_of first + axles_of second) MOST_AXLES) [
            | yes l ↦ inl (record { allowed = b; fitting = f; axles = l })
            | no l ↦ inr (3, 0, too_many b f (omega arith))
          ]

      paired : BothAllowed first second → Outcome
      paired b = ⊎_elim (λ e. counted b (fits_fitting e)) (λ e. inr (7, 0, not_fitting b (λ f. mathlib.Core.Bool.true≢false (sym (fitting_fits f) ∙ e)))) (decided fits)

  -- what is then read
  pub coupled_read : MayBeCoupled first second gap → ◌≡◌ {A = VehicleRead} (couple first second gap) (record { answer = (Ok tt); vehicle = coupled_vehicle (vehicle_of first) (vehicle_of second) gap })
  unfolding couple
  coupled_read g = rw (good_taken g, read first g.allowed.first_allowed, read second g.allowed.second_allowed)

  -- a pair that is taken may be coupled, and gives what a vehicle may be
  pub taken_good : (couple first second gap).answer ≡ (Ok tt) → MayBeCoupled first second gap
  unfolding couple
  taken_good e =
      ⊎_elim (λ g. g) (λ (n, p, f). absurd (refused_not n p (sym (fault_refused n p f) ∙ e))) good_or_fault

  pub vehicle_allowed : MayBeCoupled first second gap → AllowedVehicle (coupled_vehicle (vehicle_of first) (vehicle_of second) gap)
  vehicle_allowed g =
      coupled_allowed (vehicle_of first) (vehicle_of second) gap g.allowed.first_allowed.vehicle g.allowed.second_allowed.vehicle g.fitting.class g.fitting.track g.fitting.gap_stated g.axles

  pub taken_allowed : (couple first second gap).answer ≡ (Ok tt) → AllowedVehicle (couple first second gap).vehicle
  taken_allowed e = rw (coupled_read (taken_good e)) (vehicle_allowed (taken_good e))
