-- The converter. Document 02, request 9/13: "A converter goes from 1 to 2 with every number kept, and back where each weight fits".
use Rattle.std.specs.Prelude.{ℕ, Bool, true, List, [], ◌∷◌, leb, length}
use Rattle.section.specs.Units.{weight}
use Rattle.member.specs.Format.{Range, ◌‥◌}
use Rattle.member.specs.declared.record.Vehicle.{Vehicle}
use Rattle.files.specs.Answer.{Answer}
use Rattle.files.specs.Writing.{answer_by, bytes_by, onto}
use Rattle.files.specs.Words.{each}
use Rattle.files.specs.Reading.{Reading, ◌unless◌, first_fault, test, first_refusal}
use Rattle.vehicles.specs.VehicleFile.{vehicle_of, read_vehicle_of}
use Rattle.convert.specs.VehicleBytes.{vehicle_bytes}
use Rattle.convert.specs.declared.Wanted.{Wanted}
use Rattle.convert.specs.declared.Wanted.TheVariants.{Version1, Version2}

-- "from 1 to 2 .., and back": the version that is wanted, and the one that the file has
abbrev pub wanted_version : Wanted → ℕ
wanted_version Version1 = 1
wanted_version Version2 = 2

abbrev pub given_version : Wanted → ℕ
given_version Version1 = 2
given_version Version2 = 1

-- one version and no other: "The wrong version for the way asked gives 2, at that refusal's usual place"
abbrev pub only : (version : ℕ) → Range
only version = version ‥ version

-- "17: a weight above 60,000 going back"
abbrev pub weight_fits : Wanted → (weight : ℕ) → Bool
weight_fits Version1 weight = leb weight 60000
weight_fits Version2 weight = true

-- "place of the first such axle"
abbrev pub heavy_fault : Wanted → Vehicle → (i : ℕ) → ℕ
heavy_fault wanted v i = 17 unless weight_fits wanted (weight v.weights i)

unfoldable pub heavy_answer : Wanted → Vehicle → Reading
heavy_answer wanted v = first_fault 1 (each (heavy_fault wanted v) v.axles)

module _ (wanted : Wanted) (file : List ℕ) where
  -- "with every number kept": the file of the same vehicle
  abbrev pub output : List ℕ
  output = vehicle_bytes (wanted_version wanted) (vehicle_of file)

  -- 17 "after the file is accepted"; "an output too short gives 14, last"
  abbrev pub convert_tests : (room : ℕ) → List Reading
  convert_tests room =
      (read_vehicle_of (only (given_version wanted)) file).answer ∷
      heavy_answer wanted (vehicle_of file) ∷
      test 14 (leb (length output) room) ∷
      []

  -- for an output of so many bytes
  unfoldable pub converted : (room : ℕ) → Answer
  converted room = answer_by (first_refusal (convert_tests room)) (length output)

  -- what is written: "A refusal writes nothing."
  unfoldable pub converted_bytes : (room : ℕ) → List ℕ
  converted_bytes room = bytes_by (first_refusal (convert_tests room)) output

  -- what the output then holds: "bytes beyond are kept"
  abbrev pub converted_out : (out : List ℕ) → List ℕ
  converted_out out = onto (converted_bytes (length out)) out
