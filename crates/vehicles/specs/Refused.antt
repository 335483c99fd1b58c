-- What a refusal says of a vehicle file, in plain words beside the ordered tests of `VehicleFile`: what it names has the fault of its
-- number, and nothing before that has any. proofs/Vehicles shows that the ordered tests come to just this.
use Rattle.std.specs.Prelude.{ℕ, ◌-◌, ◌≤◌, ◌<◌, ◌≡◌, List, ◌⊎◌}
use Rattle.member.specs.Fields.{MOST_AXLES}
use Rattle.member.specs.Format.{Range, ◌‥◌, In, class_range, track_range}
use Rattle.files.specs.declared.Refusal.{Refusal}
use Rattle.files.specs.Header.{version_of}
use Rattle.files.specs.Refused.{Headed, HeaderFault}
use Rattle.vehicles.specs.VehicleFile.{VEHICLE_HEADER, VEHICLE_VERSIONS, AXLE_FIELDS, axle_size, class_of, track_of, axles_of, axle_field, axle_range}

-- a number of an axle is in its range
abbrev pub FieldGood : List ℕ → (i f : ℕ) → Type 0
FieldGood bytes i f = In (axle_range (version_of bytes) i f) (axle_field bytes i f)

-- of a file in one of these versions
module _ (versions : Range) (bytes : List ℕ) where
  -- the head of the file, with no fault, and with this one
  abbrev pub VehicleHeaded : Type 0
  VehicleHeaded = Headed 86 versions VEHICLE_HEADER MOST_AXLES (axle_size (version_of bytes)) bytes

  abbrev pub VehicleHeaderFault : ℕ → Type 0
  VehicleHeaderFault n = HeaderFault 86 versions VEHICLE_HEADER MOST_AXLES (axle_size (version_of bytes)) bytes n

  -- a vehicle's header, class and track with no fault
  pub record Fronted : Type 0 where
    pub head : VehicleHeaded
    pub class : In class_range (class_of bytes)
    pub track : In track_range (track_of bytes)

  -- "0 for class or track, which come first"
  pub data FrontFault : ℕ → Type 0 where
    wrong_header : {n : ℕ} → VehicleHeaderFault n → FrontFault n
    -- "7 .. class or track outside its range"
    wrong_class_or_track : VehicleHeaded → (¬ (In class_range (class_of bytes))) ⊎ (¬ (In track_range (track_of bytes))) → FrontFault 7

  -- the front is good, the axle of index i is the first with a number outside its range, "or a first axle's distance other than 0"
  pub record FirstAxle (i : ℕ) : Type 0 where
    pub fronted : Fronted
    pub within : i < axles_of bytes
    pub fault : (f : ℕ) × (f < AXLE_FIELDS) × (¬ (FieldGood bytes i f))
    pub before : (k f : ℕ) → k < i → f < AXLE_FIELDS → FieldGood bytes k f

  -- "for a vehicle the place is the axle, 0 for class or track, which come first"
  pub record VehicleRefusalOf (r : Refusal) : Type 0 where
    pub number : (In (1 ‥ 3) r.number) ⊎ (r.number ≡ 7)
    pub header : r.number ≤ 3 → r.place ≡ 0
    pub place : r.place ≤ axles_of bytes
    -- what is named has the fault, and is the first that has any
    pub front_fault : r.place ≡ 0 → FrontFault r.number
    pub axle_fault : 0 < r.place → (r.number ≡ 7) × FirstAxle (r.place - 1)

abbrev pub VehicleRefusal : List ℕ → Refusal → Type 0
VehicleRefusal bytes r = VehicleRefusalOf VEHICLE_VERSIONS bytes r
