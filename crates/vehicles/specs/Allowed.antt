-- What the documents allow a vehicle file to be, with no order of tests in it.
use Rattle.std.specs.Prelude.{ℕ, ◌+◌, ◌*◌, ◌<◌, ◌≡◌, List, [], ◌∷◌, length, take}
use Rattle.member.specs.Format.{Range, In, AllowedVehicle}
use Rattle.files.specs.Header.{version_of}
use Rattle.vehicles.specs.VehicleFile.{VEHICLE_HEADER, VEHICLE_VERSIONS, axle_size, weights_in, axles_of, weight_at, vehicle_of}

-- "Vehicle: TBV, u16 version 1, u8 class, u16 track .., u8 axles .., then per axle u16 weight .. and u16 distance"; and version 2, document 02,
-- request 9/13. In one of these versions
pub record AllowedVehicleOf (versions : Range) (bytes : List ℕ) : Type 0 where
  pub mark : take 3 bytes ≡ 84 ∷ 66 ∷ 86 ∷ []
  pub version : In versions (version_of bytes)
  pub size : length bytes ≡ VEHICLE_HEADER + axle_size (version_of bytes) * axles_of bytes
  pub vehicle : AllowedVehicle (vehicle_of bytes)
  -- of any vehicle the weights are 1..200000, of a file its version's: "u16 weight 1..60000"; "Vehicle version 2 stores a weight in four bytes, 1..200000."
  pub weights : (i : ℕ) → i < axles_of bytes → In (weights_in (version_of bytes)) (weight_at bytes i)

-- "Both versions are read."
abbrev pub AllowedVehicleFile : List ℕ → Type 0
AllowedVehicleFile bytes = AllowedVehicleOf VEHICLE_VERSIONS bytes
