-- The file of a vehicle in a version that its weights fit: it has the vehicle's numbers, is allowed, and is read as that vehicle.
-- Assumes nothing.
use Prim.Native.Nat.{ℕ, zero, suc, ◌+◌, ◌*◌, ◌<◌}
use mathlib.Core.Path.{◌≡◌, refl, sym, ap, ◌∙◌}
use mathlib.Core.List.{List, [], ◌∷◌}
use native.Mathlib.Omega.{arith}
use lib.ListN.{length, take}
use Rattle.section.specs.Units.{weight, distance}
use Rattle.member.specs.Format.{In, AllowedVehicle}
use Rattle.member.specs.declared.record.Vehicle.{Vehicle}
use Rattle.files.specs.Header.{version_of}
use Rattle.files.proofs.Numbers.{FitsIn}
use Rattle.vehicles.specs.VehicleFile.{VEHICLE_HEADER, VEHICLE_VERSIONS, weight_bytes, axle_size, class_of, track_of, axles_of, weight_at, distance_at, weights_in, vehicle_of}
use Rattle.vehicles.specs.Allowed.{AllowedVehicleOf, AllowedVehicleFile}
use Rattle.vehicles.specs.Padded.{Padded}
use Rattle.vehicles.proofs.Axles.{of_version}
use Rattle.vehicles.proofs.Rows.{padded_same}
use Rattle.vehicles.proofs.Vehicles.{weight_is, distance_is, padded_file}
use Rattle.convert.specs.Convert.{only}
use Rattle.convert.specs.VehicleBytes.{vehicle_bytes}
use Rattle.convert.proofs.Files.{length_vehicle}
use Rattle.convert.proofs.Kept.{version_written, class_written, track_written, axles_written, weight_written, distance_written}

-- a file of one of the two versions is read among both
pub either_version : (version : ℕ) (bytes : List ℕ) → In VEHICLE_VERSIONS version → AllowedVehicleOf (only version) bytes → AllowedVehicleFile bytes
either_version version bytes h a =
    record { mark = a.mark; version = (omega (arith, h.0, a.version.0), omega (arith, h.1, a.version.1)); size = a.size; vehicle = a.vehicle; weights = a.weights }

-- what a version's range allows its bytes hold
weights_fit : (version w : ℕ) → In (weights_in version) w → FitsIn (weight_bytes version) w
weights_fit version w = of_version (λ n r. In r w → FitsIn n w) version (λ h. omega (arith, h.1)) (λ h. omega (arith, h.1))

-- the numbers of a file are a vehicle's
pub record Numbers (file : List ℕ) (v : Vehicle) : Type 0 where
  pub class : class_of file ≡ v.class
  pub track : track_of file ≡ v.track.0
  pub axles : axles_of file ≡ v.axles
  pub weights : (i : ℕ) → i < v.axles → weight_at file i ≡ weight v.weights i
  pub distances : (i : ℕ) → i < v.axles → distance_at file i ≡ distance v.distances i

module _ (v : Vehicle) (a : AllowedVehicle v) (version : ℕ) (small : FitsIn 2 version) (fit : (i : ℕ) → i < v.axles → In (weights_in version) (weight v.weights i)) where
  abbrev file : List ℕ
  file = vehicle_bytes version v

  distance_fits : (i : ℕ) → i < v.axles → FitsIn 2 (distance v.distances i)
  distance_fits zero h = omega (arith, a.first)
  distance_fits (suc i) h = omega (arith, (a.distances (suc i) (omega arith) h).1)

  pub written_numbers : Numbers file v
  written_numbers =
      record {
        class = class_written version v (omega (arith, a.class.1));
        track = track_written version v (omega (arith, a.track.1));
        axles = axles_written version v (omega (arith, a.axles.1));
        weights = λ i l. weight_written version v small i l (weights_fit version (weight v.weights i) (fit i l));
        distances = λ i l. distance_written version v small i l (distance_fits i l);
      }

  marked : take 3 file ≡ 84 ∷ 66 ∷ 86 ∷ []
  unfolding vehicle_bytes
  marked = refl

  sized : length file ≡ VEHICLE_HEADER + axle_size (version_of file) * axles_of file
  sized =
      length_vehicle version v ∙ ap (λ (n : ℕ). VEHICLE_HEADER + axle_size n * v.axles) (sym (version_written version v small)) ∙ ap (λ (n : ℕ). VEHICLE_HEADER + axle_size (version_of file) * n) (sym written_numbers.axles)

  -- what is read of it, axle by axle
  weight_read : (i : ℕ) → i < v.axles → weight (vehicle_of file).weights i ≡ weight v.weights i
  weight_read i l = weight_is file i (omega (arith, written_numbers.axles)) ∙ written_numbers.weights i l

  distance_read : (i : ℕ) → i < v.axles → distance (vehicle_of file).distances i ≡ distance v.distances i
  distance_read i l = distance_is file i (omega (arith, written_numbers.axles)) ∙ written_numbers.distances i l

  vehicle_allowed : AllowedVehicle (vehicle_of file)
  vehicle_allowed =
      let same = written_numbers in
      record {
        class = rw same.class a.class;
        track = rw same.track a.track;
        axles = rw same.axles a.axles;
        weights = λ i l. rw (weight_read i (omega (arith, same.axles))) (a.weights i (omega (arith, same.axles)));
        first = distance_read 0 (omega (arith, a.axles)) ∙ a.first;
        distances = λ i z l. rw (distance_read i (omega (arith, same.axles))) (a.distances i z (omega (arith, same.axles)));
      }

  pub written_allowed : AllowedVehicleOf (only version) file
  written_allowed =
      record {
        mark = marked;
        version = rw (version_written version v small) (omega arith, omega arith);
        size = sized;
        vehicle = vehicle_allowed;
        weights = λ i l. rw (written_numbers.weights i (omega (arith, written_numbers.axles)), version_written version v small) (fit i (omega (arith, written_numbers.axles)));
      }

  -- a vehicle with 0 behind its axles is its numbers
  written_same : Padded v → vehicle_of file ≡ v
  written_same p =
      padded_same (vehicle_of file) v (padded_file file) p written_numbers.class written_numbers.track written_numbers.axles weight_read distance_read

-- so every vehicle has a file, in version 2
module _ (v : Vehicle) (a : AllowedVehicle v) where
  any_weight : (i : ℕ) → i < v.axles → In (weights_in 2) (weight v.weights i)
  unfolding weights_in
  any_weight i l = a.weights i l

  pub vehicle_file : AllowedVehicleFile (vehicle_bytes 2 v)
  vehicle_file = either_version 2 (vehicle_bytes 2 v) (omega arith, omega arith) (written_allowed v a 2 refl any_weight)

  pub file_read : Padded v → vehicle_of (vehicle_bytes 2 v) ≡ v
  file_read = written_same v a 2 refl any_weight
