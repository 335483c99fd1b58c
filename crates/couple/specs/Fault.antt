-- Why two vehicle files are not coupled, in plain words beside the ordered tests of `Couple`.
use Rattle.std.specs.Prelude.{ℕ, ◌+◌, ◌≤◌, ◌<◌, ◌≡◌, List}
use Rattle.member.specs.Fields.{MOST_AXLES}
use Rattle.member.specs.Format.{In}
use Rattle.files.specs.declared.Refusal.{Refusal}
use Rattle.vehicles.specs.VehicleFile.{class_of, track_of, axles_of}
use Rattle.vehicles.specs.Allowed.{AllowedVehicleFile}
use Rattle.vehicles.specs.Refused.{VehicleRefusal}
use Rattle.couple.specs.Couple.{gap_range}

-- both are vehicle files, each in either version
pub record BothAllowed (first second : List ℕ) : Type 0 where
  pub first_allowed : AllowedVehicleFile first
  pub second_allowed : AllowedVehicleFile second

module _ (first second : List ℕ) (gap : ℕ) where
  -- "two vehicle files of equal class and track, .. with one stated gap of 1..2000 cm"
  pub record Fitting : Type 0 where
    pub class : class_of first ≡ class_of second
    pub track : track_of first ≡ track_of second
    pub gap_stated : In gap_range gap

  -- that test fails, and those before it hold
  pub data CoupleFault : (number place : ℕ) → Type 0 where
    -- "The first file's own refusals come first, then the second's."
    first_refused : (r : Refusal) → VehicleRefusal first r → CoupleFault r.number r.place
    second_refused : AllowedVehicleFile first → (r : Refusal) → VehicleRefusal second r → CoupleFault r.number r.place
    -- "Then a class or track that differs, or a bad gap, gives 7"
    not_fitting : BothAllowed first second → ¬ Fitting → CoupleFault 7 0
    -- "and then more than 16 axles give 3, both at place 0"
    too_many : BothAllowed first second → Fitting → MOST_AXLES < axles_of first + axles_of second → CoupleFault 3 0

  -- no test fails
  pub record MayBeCoupled : Type 0 where
    pub allowed : BothAllowed first second
    pub fitting : Fitting
    pub axles : axles_of first + axles_of second ≤ MOST_AXLES
