-- The bytes of a vehicle's file, in either version. Document 01, 'Files': "Little-endian. .. Vehicle: TBV, u16 version 1, u8 class, u16 track ..,
-- u8 axles .., then per axle u16 weight .. and u16 distance"; document 02, request 9/13: "Vehicle version 2 stores a weight in four bytes".
use Rattle.std.specs.Prelude.{ℕ, ◌+◌, ◌*◌, List, [], ◌∷◌, ◌++◌}
use Rattle.section.specs.Units.{weight, distance}
use Rattle.member.specs.Fields.{MOST_AXLES}
use Rattle.member.specs.declared.record.Vehicle.{Vehicle}
use Rattle.files.specs.Words.{bytes_of, in_row}
use Rattle.vehicles.specs.VehicleFile.{VEHICLE_HEADER, LONGEST_AXLE, weight_bytes}

module _ (version : ℕ) (v : Vehicle) where
  -- "TBV, u16 version .., u8 class, u16 track .., u8 axles"
  abbrev pub head_bytes : List ℕ
  head_bytes = (84 ∷ 66 ∷ 86 ∷ []) ++ bytes_of 2 version ++ bytes_of 1 v.class ++ bytes_of 2 v.track.0 ++ bytes_of 1 v.axles

  -- "per axle" weight and "u16 distance": of the axle of index i, from 0
  abbrev pub axle_bytes : (i : ℕ) → List ℕ
  axle_bytes i = bytes_of (weight_bytes version) (weight v.weights i) ++ bytes_of 2 (distance v.distances i)

  -- the first n axles
  abbrev pub axles_bytes : (n : ℕ) → List ℕ
  axles_bytes = in_row axle_bytes

  unfoldable pub vehicle_bytes : List ℕ
  vehicle_bytes = head_bytes ++ axles_bytes v.axles

-- the longest file: sixteen axles of version 2
abbrev pub LONGEST_FILE : ℕ
LONGEST_FILE = VEHICLE_HEADER + LONGEST_AXLE * MOST_AXLES
