-- Why the converter refuses, in plain words beside the ordered tests of `Convert`.
use Rattle.std.specs.Prelude.{ℕ, ◌+◌, ◌*◌, ◌≤◌, ◌<◌, ◌≡◌, List}
use Rattle.files.specs.declared.Refusal.{Refusal}
use Rattle.vehicles.specs.VehicleFile.{VEHICLE_HEADER, axle_size, axles_of, weight_at}
use Rattle.vehicles.specs.Allowed.{AllowedVehicleOf}
use Rattle.vehicles.specs.Refused.{VehicleRefusalOf}
use Rattle.convert.specs.Convert.{wanted_version, given_version, only}
use Rattle.convert.specs.declared.Wanted.{Wanted}
use Rattle.convert.specs.declared.Wanted.TheVariants.{Version1}

module _ (wanted : Wanted) (file : List ℕ) where
  -- the file is accepted: a vehicle file of the version that is not wanted
  abbrev pub Accepted : Type 0
  Accepted = AllowedVehicleOf (only (given_version wanted)) file

  -- "back where each weight fits": of the first n axles. From 1 to 2 nothing is asked
  abbrev pub WeightsFit : (n : ℕ) → Type 0
  WeightsFit n = wanted ≡ Version1 → (i : ℕ) → i < n → weight_at file i ≤ 60000

  -- how many bytes the wanted version has
  abbrev pub output_length : ℕ
  output_length = VEHICLE_HEADER + axle_size (wanted_version wanted) * axles_of file

  -- that test fails, and those before it hold; the output has so many bytes
  pub data ConvertFault (room : ℕ) : (number place : ℕ) → Type 0 where
    -- the file's own: "The wrong version for the way asked gives 2, at that refusal's usual place"
    file_refused : (r : Refusal) → VehicleRefusalOf (only (given_version wanted)) file r → ConvertFault room r.number r.place
    -- "17: a weight above 60,000 going back; place of the first such axle; after the file is accepted."
    too_heavy : Accepted → wanted ≡ Version1 → (i : ℕ) → i < axles_of file → WeightsFit i → 60000 < weight_at file i → ConvertFault room 17 (i + 1)
    -- "an output too short gives 14, last"
    short_output : Accepted → WeightsFit (axles_of file) → room < output_length → ConvertFault room 14 0

  -- no test fails
  pub record MayBeConverted (room : ℕ) : Type 0 where
    pub accepted : Accepted
    pub weights : WeightsFit (axles_of file)
    pub room_enough : output_length ≤ room
