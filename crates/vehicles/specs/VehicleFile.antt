-- Reading a vehicle file, with the tests in document 01's order. 'Files': "Vehicle: TBV, u16 version 1, u8 class, u16 track
-- 100..300, u8 axles 1..16, then per axle u16 weight 1..60000 and u16 distance from the axle in front, 0 for the first,
-- 1..2000 after." Document 02, request 9/13: "Vehicle version 2 stores a weight in four bytes, 1..200000. Both versions are read."
use Rattle.std.specs.Prelude.{ℕ, ◌+◌, ◌-◌, ◌*◌, List, [], ◌∷◌, ◌++◌, Bool, ◌&&◌, replicate, eqb, Ok, Err}
use Rattle.member.specs.declared.record.Vehicle.{Vehicle}
use Rattle.member.specs.Fields.{MOST_AXLES}
use Rattle.section.specs.Choose.{choose, all}
use Rattle.section.specs.Units.{centimetres, kgf}
use Rattle.member.specs.Format.{Range, ◌‥◌, class_range, track_range, later_range}
use Rattle.files.specs.Words.{byte_at, word_at, number_at, each}
use Rattle.files.specs.Reading.{Reading, ◌unless◌, first_of, first_fault, is_in}
use Rattle.files.specs.Header.{version_of, header_fault}

-- TBV, version, class, track and axles
abbrev pub VEHICLE_HEADER : ℕ
VEHICLE_HEADER = 9

abbrev pub class_of : List ℕ → ℕ
class_of bytes = byte_at bytes 5

abbrev pub track_of : List ℕ → ℕ
track_of bytes = word_at bytes 6

abbrev pub axles_of : List ℕ → ℕ
axles_of bytes = byte_at bytes 8

-- "u16 weight"; "Vehicle version 2 stores a weight in four bytes"
unfoldable pub weight_bytes : (version : ℕ) → ℕ
weight_bytes version = choose (eqb version 2) 4 2

-- weight, and "u16 distance"
abbrev pub axle_size : (version : ℕ) → ℕ
axle_size version = weight_bytes version + 2

-- the longest, that of version 2
abbrev pub LONGEST_AXLE : ℕ
LONGEST_AXLE = 6

-- where the axle of index i begins, from 0
abbrev pub axle_at : List ℕ → (i : ℕ) → ℕ
axle_at bytes i = VEHICLE_HEADER + axle_size (version_of bytes) * i

abbrev pub weight_at : List ℕ → (i : ℕ) → ℕ
weight_at bytes i = number_at (weight_bytes (version_of bytes)) bytes (axle_at bytes i)

abbrev pub distance_at : List ℕ → (i : ℕ) → ℕ
distance_at bytes i = word_at bytes (axle_at bytes i + weight_bytes (version_of bytes))

-- the fields of an axle
abbrev pub WEIGHT : ℕ
WEIGHT = 0

abbrev pub DISTANCE : ℕ
DISTANCE = 1

abbrev pub AXLE_FIELDS : ℕ
AXLE_FIELDS = 2

-- the number in a field of the axle
unfoldable pub axle_field : List ℕ → (i f : ℕ) → ℕ
axle_field bytes i f = choose (eqb f WEIGHT) (weight_at bytes i) (distance_at bytes i)

-- "Both versions are read."
abbrev pub VEHICLE_VERSIONS : Range
VEHICLE_VERSIONS = 1 ‥ 2

-- of a file in one of these versions: the mark is TBV; "7 .. class or track outside its range", "0 for class or track, which come first"
unfoldable pub vehicle_header : (versions : Range) → List ℕ → ℕ
vehicle_header versions bytes =
    first_of
    (header_fault 86 versions VEHICLE_HEADER MOST_AXLES (axle_size (version_of bytes)) bytes ∷
    7 unless (is_in class_range (class_of bytes) && is_in track_range (track_of bytes)) ∷
    [])

-- "weight 1..60000"; of version 2 "1..200000"
unfoldable pub weights_in : (version : ℕ) → Range
weights_in version = choose (eqb version 2) (1 ‥ 200000) (1 ‥ 60000)

-- "and u16 distance from the axle in front, 0 for the first, 1..2000 after"
unfoldable pub axle_range : (version i f : ℕ) → Range
axle_range version i f = choose (eqb f WEIGHT) (weights_in version) (choose (eqb i 0) (0 ‥ 0) later_range)

-- a field is in its range
unfoldable pub field_within : List ℕ → (i f : ℕ) → Bool
field_within bytes i f = is_in (axle_range (version_of bytes) i f) (axle_field bytes i f)

-- and so is every field of the axle
unfoldable pub axle_within : List ℕ → (i : ℕ) → Bool
axle_within bytes i = all (field_within bytes i) AXLE_FIELDS

-- "7 a used number .. outside its range, .. or a first axle's distance other than 0"
abbrev pub axle_fault : List ℕ → ℕ → ℕ
axle_fault bytes i = 7 unless axle_within bytes i

-- the faults of the first n axles
abbrev pub axle_faults : List ℕ → ℕ → List ℕ
axle_faults bytes n = each (axle_fault bytes) n

-- the faults of header, class and track have place 0, the axles' places start at 1
unfoldable pub vehicle_answer : (versions : Range) → List ℕ → Reading
vehicle_answer versions bytes = first_fault 0 (vehicle_header versions bytes ∷ axle_faults bytes (axles_of bytes))

abbrev pub blank_vehicle : Vehicle
blank_vehicle =
    record {
      class = 0;
      track = centimetres 0;
      axles = 0;
      weights = replicate MOST_AXLES (kgf 0);
      distances = replicate MOST_AXLES (centimetres 0);
    }

-- the file's numbers, and axles of 0 after them
abbrev pub vehicle_of : List ℕ → Vehicle
vehicle_of bytes =
    record {
      class = class_of bytes;
      track = centimetres (track_of bytes);
      axles = axles_of bytes;
      weights = each (λ i. kgf (weight_at bytes i)) (axles_of bytes) ++ replicate (MOST_AXLES - axles_of bytes) (kgf 0);
      distances =
          each (λ i. centimetres (distance_at bytes i)) (axles_of bytes) ++ replicate (MOST_AXLES - axles_of bytes) (centimetres 0);
    }

-- a refused file gives a blank vehicle
abbrev pub vehicle_by : Reading → List ℕ → Vehicle
vehicle_by (Ok tt) bytes = vehicle_of bytes
vehicle_by (Err r) bytes = blank_vehicle

-- what a file gives
pub record VehicleRead : Type 0 where
  pub answer : Reading
  pub vehicle : Vehicle

-- a file in one of these versions
unfoldable pub read_vehicle_of : (versions : Range) → List ℕ → VehicleRead
read_vehicle_of versions bytes = record { answer = vehicle_answer versions bytes; vehicle = vehicle_by (vehicle_answer versions bytes) bytes }

abbrev pub read_vehicle : List ℕ → VehicleRead
read_vehicle bytes = read_vehicle_of VEHICLE_VERSIONS bytes
