-- What the program reads. Document 01, 'Calls': "reads standard input, survey then vehicle (the survey is the first 6 + 32 × count
-- bytes, or all if fewer)".
use Rattle.std.specs.Prelude.{ℕ, ◌+◌, ◌*◌, min, ◌≡◌, List, length, take, drop}
use Rattle.session.specs.Answers.{Outcome}
use Rattle.session.specs.Calls.{load_files}
use Rattle.files.specs.Words.{Bytes}
use Rattle.surveys.specs.SurveyFile.{SURVEY_HEADER, RECORD, count_of}
use Rattle.vehicles.specs.VehicleFile.{VEHICLE_HEADER, LONGEST_AXLE}

-- an input too short to hold a count is shorter than 6 as well
abbrev pub survey_length : List ℕ → ℕ
survey_length input = min (length input) (SURVEY_HEADER + RECORD * count_of input)

abbrev pub survey_part : List ℕ → List ℕ
survey_part input = take (survey_length input) input

abbrev pub vehicle_part : List ℕ → List ℕ
vehicle_part input = drop (survey_length input) input

-- both loads, "the survey's refusal first": what is printed follows from this session and answer
unfoldable pub load_input : List ℕ → Outcome
load_input input = load_files (survey_part input) (vehicle_part input)

-- n bytes of a buffer were read from an input: they are its beginning, all of it or as much as the buffer holds
pub record ReadFrom (input buffer : List ℕ) (n : ℕ) : Type 0 where
  pub bytes : Bytes input
  pub start : take n buffer ≡ take (length buffer) input

-- the outcome of the whole input, whatever stands in it beyond the buffer
abbrev pub LoadedFrom : (buffer : List ℕ) (n : ℕ) → Outcome → Type 0
LoadedFrom buffer n o = (input : List ℕ) → ReadFrom input buffer n → o ≡ load_input input

-- the longest survey and the longest vehicle that a count byte can call for, and one byte more
abbrev pub ENOUGH : ℕ
ENOUGH = SURVEY_HEADER + RECORD * 255 + (VEHICLE_HEADER + LONGEST_AXLE * 255) + 1
