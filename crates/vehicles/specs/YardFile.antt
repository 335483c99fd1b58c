-- The vehicles of a yard in one file. Document 02, request 3/13: "A haulier sends up to 32 vehicles against one bridge. Take a u8 count and
-- that many vehicle files joined".
use Rattle.std.specs.Prelude.{ℕ, zero, suc, ◌+◌, ◌*◌, ◌<◌, ◌≡◌, List, [], ◌∷◌, ◌++◌, length, get_or, take, drop}
use Rattle.member.specs.Format.{◌‥◌, In}
use Rattle.files.specs.Words.{byte_at}
use Rattle.files.specs.Header.{version_of}
use Rattle.vehicles.specs.VehicleFile.{VEHICLE_HEADER, axle_size, axles_of}
use Rattle.vehicles.specs.Allowed.{AllowedVehicleFile}

-- "up to 32 vehicles"
abbrev pub MOST_VEHICLES : ℕ
MOST_VEHICLES = 32

-- "a u8 count", 0 where there is no byte
abbrev pub vehicles_of : (yard : List ℕ) → ℕ
vehicles_of yard = byte_at yard 0

-- "Each vehicle file is as long as its own counts say", by the axles of its own version, request 9/13: of the bytes from its first on. Where
-- fewer than nine are left `byte_at` is 0, so that the length is nine and all that is left is taken
abbrev pub own_length : List ℕ → ℕ
own_length bytes = VEHICLE_HEADER + axle_size (version_of bytes) * axles_of bytes

-- the files of n vehicles in a row, each "as long as its own counts say, or all that is left if fewer"
abbrev pub files_in : (n : ℕ) → List ℕ → List (List ℕ)
files_in zero bytes = []
files_in (suc n) bytes = take (own_length bytes) bytes ∷ files_in n (drop (own_length bytes) bytes)

-- and what is left behind them
abbrev pub left_after : (n : ℕ) → List ℕ → List ℕ
left_after zero bytes = bytes
left_after (suc n) bytes = left_after n (drop (own_length bytes) bytes)

-- the vehicles' files of a yard, which stand behind its count, and the "bytes left over"
abbrev pub vehicle_files : (yard : List ℕ) → List (List ℕ)
vehicle_files yard = files_in (vehicles_of yard) (drop 1 yard)

abbrev pub left_over : (yard : List ℕ) → List ℕ
left_over yard = left_after (vehicles_of yard) (drop 1 yard)

-- files joined
abbrev pub joined : List (List ℕ) → List ℕ
joined [] = []
joined (file ∷ files) = file ++ joined files

-- What the document allows a yard to be, with no order of tests and no cutting of bytes in it: "a u8 count and that many vehicle files
-- joined"
pub record AllowedYard (yard : List ℕ) : Type 0 where
  pub files : List (List ℕ)
  pub count : In (1 ‥ MOST_VEHICLES) (length files)
  pub allowed : (i : ℕ) → i < length files → AllowedVehicleFile (get_or files i [])
  pub bytes : yard ≡ length files ∷ joined files
