-- Two vehicle files with the same numbers, whatever their versions. Document 02, request 9/13: "every number kept", "A vehicle rates alike in
-- both versions."
use Rattle.std.specs.Prelude.{ℕ, ◌<◌, ◌≡◌, List}
use Rattle.vehicles.specs.VehicleFile.{class_of, track_of, axles_of, weight_at, distance_at, read_vehicle}
use Rattle.vehicles.specs.Allowed.{AllowedVehicleFile}

pub record SameNumbers (file file' : List ℕ) : Type 0 where
  pub class : class_of file' ≡ class_of file
  pub track : track_of file' ≡ track_of file
  pub axles : axles_of file' ≡ axles_of file
  pub weights : (i : ℕ) → i < axles_of file → weight_at file' i ≡ weight_at file i
  pub distances : (i : ℕ) → i < axles_of file → distance_at file' i ≡ distance_at file i

-- they are read alike: as the same vehicle
abbrev pub ReadAlike : Type 0
ReadAlike = (file file' : List ℕ) → AllowedVehicleFile file → AllowedVehicleFile file' → SameNumbers file file' → read_vehicle file' ≡ read_vehicle file
