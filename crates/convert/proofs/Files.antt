-- The bytes of a vehicle's file: how many they are, and that they stand where the loop puts them.
-- Assumes nothing.
use Prim.Native.Nat.{ℕ, suc, ◌+◌, ◌*◌, ◌≤◌}
use mathlib.Core.Path.{◌≡◌, refl, ap, ◌∙◌}
use mathlib.Core.List.{List, ◌++◌, append_assoc}
use native.Mathlib.Numerals.{add-one}
use native.Mathlib.Omega.{arith}
use lib.ListN.{length, take, length-append, length-take}
use lib.Seq.{paste, take-paste, take_all}
use Rattle.section.specs.Units.{weight, distance}
use Rattle.member.specs.declared.record.Vehicle.{Vehicle}
use Rattle.vehicles.specs.VehicleFile.{VEHICLE_HEADER, weight_bytes, axle_size}
use Rattle.convert.specs.VehicleBytes.{head_bytes, axle_bytes, axles_bytes, vehicle_bytes}
use Rattle.files.specs.Words.{bytes_of}
use Rattle.files.proofs.Numbers.{length_bytes}
use Rattle.files.proofs.Writing.{length_row}

-- what is put behind the first bytes of a row
pub pasted : (row bytes : List ℕ) (at n : ℕ) (first : List ℕ) → take at row ≡ first → length first ≡ at → length bytes ≡ n →
    take (at + n) (paste row at bytes n) ≡ first ++ bytes
pasted row bytes at n first e l m =
    let long : at ≤ length row = omega (arith, ap length e, length-take at row) in
    take-paste row at bytes n long (omega (arith, m)) ∙ rw (e, take_all n bytes (omega (arith, m)))

module _ (version : ℕ) (v : Vehicle) where
  pub length_axles : (n : ℕ) → length (axles_bytes version v n) ≡ axle_size version * n
  length_axles = length_row (axle_bytes version v) (axle_size version) (λ i. simp length-append (omega (arith, length_bytes (weight_bytes version) (weight v.weights i))))

  -- with the header
  pub length_with : (n : ℕ) → length (head_bytes version v ++ axles_bytes version v n) ≡ VEHICLE_HEADER + axle_size version * n
  length_with n = omega (arith, length_axles n)

  pub length_vehicle : length (vehicle_bytes version v) ≡ VEHICLE_HEADER + axle_size version * v.axles
  unfolding vehicle_bytes
  length_vehicle = length_with v.axles

  -- one axle more
  pub axle_written : (i : ℕ) (row : List ℕ) → let at = VEHICLE_HEADER + axle_size version * i in let w = weight_bytes version in
      take at row ≡ head_bytes version v ++ axles_bytes version v i →
      take (VEHICLE_HEADER + axle_size version * (i + 1)) (paste (paste row at (bytes_of w (weight v.weights i)) w) (at + w) (bytes_of 2 (distance v.distances i)) 2) ≡ head_bytes version v ++ axles_bytes version v (i + 1)
  axle_written i row e =
      let at = VEHICLE_HEADER + axle_size version * i in
      let w = weight_bytes version in
      let first = head_bytes version v ++ axles_bytes version v i in
      let weights = bytes_of w (weight v.weights i) in
      let distances = bytes_of 2 (distance v.distances i) in
      let before : length first ≡ at = length_with i in
      let weighed = pasted row weights at w first e before (length_bytes w (weight v.weights i)) in
      let behind : length (first ++ weights) ≡ at + w = length-append first weights ∙ rw (before, length_bytes w (weight v.weights i)) in
      let both = pasted (paste row at weights w) distances (at + w) 2 (first ++ weights) weighed behind refl in
      let end : VEHICLE_HEADER + axle_size version * (i + 1) ≡ at + w + 2 = omega arith in
      let joined : first ++ weights ++ distances ≡ head_bytes version v ++ axles_bytes version v (suc i) = append_assoc first weights distances ∙ append_assoc (head_bytes version v) (axles_bytes version v i) (weights ++ distances) in
      rw (end, add-one) (both ∙ joined)

  -- and all of them
  pub all_written : (row : List ℕ) → take (VEHICLE_HEADER + axle_size version * v.axles) row ≡ head_bytes version v ++ axles_bytes version v v.axles →
      take (length (vehicle_bytes version v)) row ≡ vehicle_bytes version v
  unfolding vehicle_bytes
  all_written row e = ap (λ (n : ℕ). take n row) (length_with v.axles) ∙ e
