-- Files with the same numbers are read as the same vehicle.
-- Assumes nothing.
use Rattle.std.specs.Prelude.{Ok}
use Prim.Native.Nat.{ℕ}
use mathlib.Core.Path.{◌≡◌, sym, ap, ◌∙◌}
use mathlib.Core.List.{List}
use Rattle.section.specs.Units.{kgf, centimetres}
use Rattle.files.proofs.Each.{each_same}
use Rattle.vehicles.specs.VehicleFile.{VEHICLE_VERSIONS, axles_of, vehicle_of, read_vehicle_of, read_vehicle}
use Rattle.vehicles.specs.Allowed.{AllowedVehicleFile}
use Rattle.vehicles.specs.Alike.{SameNumbers, ReadAlike}
use Rattle.vehicles.specs.VehicleFile.{VehicleRead}
use Rattle.vehicles.proofs.Vehicles.{allowed_taken}

pub same_vehicle : (file file' : List ℕ) → SameNumbers file file' → vehicle_of file' ≡ vehicle_of file
same_vehicle file file' s =
    let weights = each_same (axles_of file) (λ i l. ap kgf (s.weights i l)) in
    let distances = each_same (axles_of file) (λ i l. ap centimetres (s.distances i l)) in
    rw (s.class, s.track, s.axles, weights, distances)

-- what a file that is allowed is read as
read_taken : (bytes : List ℕ) → AllowedVehicleFile bytes → ◌≡◌ {A = VehicleRead} (read_vehicle bytes) (record { answer = (Ok tt); vehicle = vehicle_of bytes })
unfolding read_vehicle_of
read_taken bytes a = rw (allowed_taken VEHICLE_VERSIONS bytes a)

pub read_alike : ReadAlike
read_alike file file' a a' same =
    read_taken file' a' ∙ ap (λ v. record { answer = (Ok tt); vehicle = v }) (same_vehicle file file' same) ∙ sym (read_taken file a)
