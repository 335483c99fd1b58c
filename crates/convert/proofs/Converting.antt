-- The converter's tests: those that the code makes come to the definition's, and what passes them all is written.
-- Assumes nothing.
use Rattle.std.specs.Prelude.{Ok, Err}
use Prim.Native.Nat.{ℕ, ◌+◌, ◌*◌, ◌≤◌}
use mathlib.Core.Path.{◌≡◌, ap}
use native.Mathlib.Omega.{arith}
use mathlib.Core.List.{List, [], ◌∷◌, ◌++◌}
use lib.ListN.{length, take, drop}
use lib.Seq.{paste}
use borrow.Author.Tests.{leb-true, le-leb}
use Rattle.section.proofs.Products.{product_cap}
use Rattle.member.specs.Fields.{MOST_AXLES}
use Rattle.member.specs.declared.record.Vehicle.{Vehicle}
use Rattle.files.specs.Writing.{written_answer}
use Rattle.files.specs.Reading.{first_refusal}
use Rattle.files.specs.declared.Refusal.{Refusal}
use Rattle.files.specs.Answer.{Values, refused_by}
use Rattle.files.proofs.Faults.{both_taken, test_holds}
use Rattle.vehicles.specs.VehicleFile.{VEHICLE_HEADER, LONGEST_AXLE, axle_size, vehicle_of, read_vehicle_of}
use Rattle.vehicles.proofs.Axles.{longest_axle}
use Rattle.vehicles.proofs.Vehicles.{few_axles, taken_vehicle}
use Rattle.convert.specs.VehicleBytes.{LONGEST_FILE}
use Rattle.convert.proofs.Files.{length_vehicle}
use Rattle.vehicles.specs.VehicleFile.{VehicleRead}
use Rattle.convert.specs.Convert.{wanted_version, given_version, only, heavy_answer, output, convert_tests, converted, converted_bytes, converted_out}
use Rattle.convert.specs.declared.Wanted.{Wanted}

module _ (wanted : Wanted) (file : List ℕ) where
  -- the file, read in the version that it is to have
  abbrev pub given_read : VehicleRead
  given_read = read_vehicle_of (only (given_version wanted)) file

  -- what holds where no test fails
  pub record Passed (room : ℕ) : Type 0 where
    pub taken : given_read.answer ≡ (Ok tt)
    pub light : heavy_answer wanted (vehicle_of file) ≡ (Ok tt)
    pub room_enough : length (output wanted file) ≤ room

  module _ (room : ℕ) where
    pub all_passed : first_refusal (convert_tests wanted file room) ≡ (Ok tt) → Passed room
    all_passed e =
        let (own, rest) = both_taken _ _ e in
        let (light, end) = both_taken _ _ rest in
        let (enough, none) = both_taken _ _ end in
        record { taken = own; light = light; room_enough = leb-true _ _ (test_holds 14 _ enough) }

    pub passed_all : Passed room → first_refusal (convert_tests wanted file room) ≡ (Ok tt)
    passed_all p = rw (p.taken, p.light, le-leb _ _ p.room_enough)

    -- what is written where none fails
    pub work_written : Passed room → (bytes : List ℕ) {n : ℕ} → n ≡ length (output wanted file) → take (length (output wanted file)) bytes ≡ output wanted file →
        (written_answer (Ok n) ≡ converted wanted file room) × ((take n bytes ≡ converted_bytes wanted file room) × ((n ≡ length (converted_bytes wanted file room)) × ((n ≤ LONGEST_FILE) × (n ≤ room))))
    unfolding converted converted_bytes
    work_written p bytes e b =
        let axles : (vehicle_of file).axles ≤ MOST_AXLES = rw (← ap (λ (v : Vehicle). v.axles) (taken_vehicle _ file p.taken)) (few_axles _ file) in
        let cap = product_cap LONGEST_AXLE MOST_AXLES (longest_axle (wanted_version wanted)) axles in
        let size = length_vehicle (wanted_version wanted) (vehicle_of file) in
        (rw (passed_all p, e), (rw (passed_all p, e) b, (rw (passed_all p) e, (omega (arith, e, size, cap), omega (arith, e, p.room_enough)))))

    -- where none fails so many bytes are answered, and where one does its refusal
    pub taken_is : Passed room → Values (length (output wanted file) ∷ []) ≡ converted wanted file room
    unfolding converted
    taken_is p = rw (passed_all p)

    pub refused_is : (r : Refusal) → first_refusal (convert_tests wanted file room) ≡ Err r → refused_by r ≡ converted wanted file room
    unfolding converted
    refused_is r e = rw e

  -- what the output then holds
  pub out_is : (out bytes : List ℕ) (n : ℕ) → take n bytes ≡ converted_bytes wanted file (length out) → n ≡ length (converted_bytes wanted file (length out)) → paste out 0 bytes n ≡ converted_out wanted file out
  out_is out bytes n b e =
      let end : 0 + n ≡ length (converted_bytes wanted file (length out)) = omega (arith, e) in
      rw (b, end)

  module _ (out : List ℕ) where
    pub taken_out : Passed (length out) → output wanted file ++ drop (length (output wanted file)) out ≡ converted_out wanted file out
    unfolding converted_bytes
    taken_out p = rw (passed_all (length out) p)

    pub refused_out : (r : Refusal) → first_refusal (convert_tests wanted file (length out)) ≡ Err r → out ≡ converted_out wanted file out
    unfolding converted_bytes
    refused_out r e = rw e
