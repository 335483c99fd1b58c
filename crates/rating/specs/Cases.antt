-- Document 01, 'Cases for the definitions': "Pine, class 0, track 190. These twelve are proved of the definitions, together, as
-- rows of one table".
use Rattle.std.specs.Prelude.{ℕ, ◌*◌, Bool, true, ◌&&◌, List, [], ◌∷◌, map, eqb, length}
use Rattle.section.specs.Units.{centimetres, kgf}
use Rattle.member.specs.PermittedLoad.{permitted_load, capacity}
use Rattle.rating.specs.VehicleLoad.{vehicle_load_on}
use Rattle.member.specs.declared.record.Member.{Member}
use Rattle.member.specs.declared.record.Vehicle.{Vehicle}

-- A row: a record's sixteen numbers in the file's order, and what its permitted load, or its T in tenths, is; or with the weights
-- and distances of axles what the vehicle load on it is.
pub data Case : Type 0 where
  permits : List ℕ → ℕ → Case
  carries : List ℕ → ℕ → Case
  bears : List ℕ → (weights distances : List ℕ) → ℕ → Case

abbrev pub member : List ℕ → Member
member numbers = record { fields = numbers }

-- a vehicle of class 0 and track 190 with these axles
abbrev pub vehicle : (weights distances : List ℕ) → Vehicle
vehicle ws ds =
    record {
      class = 0;
      track = centimetres 190;
      axles = length ws;
      weights = map kgf ws;
      distances = map centimetres ds;
    }

abbrev pub holds : Case → Bool
holds (permits numbers load) = eqb (permitted_load (member numbers) 0 190) load
holds (carries numbers tenths) = eqb ((capacity (member numbers)).num * 10) (tenths * (capacity (member numbers)).den)
holds (bears numbers ws ds load) = eqb (vehicle_load_on (member numbers) (vehicle ws ds)) load

abbrev pub all_rows_hold : List Case → Bool
all_rows_hold [] = true
all_rows_hold (row ∷ rows) = holds row && all_rows_hold rows

-- kind, species, l, d, x, h, q, code, s1 to s6, A, B
unfoldable pub cases : List Case
cases =
    -- A
    permits (1 ∷ 1 ∷ 500 ∷ 140 ∷ 0 ∷ 0 ∷ 100 ∷ 1 ∷ 28 ∷ 0 ∷ 1 ∷ 0 ∷ 0 ∷ 0 ∷ 0 ∷ 0 ∷ []) 1720 ∷
    -- B, C, D
    permits (1 ∷ 1 ∷ 500 ∷ 140 ∷ 0 ∷ 0 ∷ 100 ∷ 1 ∷ 28 ∷ 1 ∷ 1 ∷ 0 ∷ 0 ∷ 0 ∷ 0 ∷ 0 ∷ []) 1343 ∷
    permits (1 ∷ 1 ∷ 500 ∷ 140 ∷ 0 ∷ 0 ∷ 100 ∷ 1 ∷ 28 ∷ 7 ∷ 1 ∷ 0 ∷ 0 ∷ 0 ∷ 0 ∷ 0 ∷ []) 64 ∷
    permits (1 ∷ 1 ∷ 500 ∷ 140 ∷ 0 ∷ 0 ∷ 100 ∷ 1 ∷ 28 ∷ 8 ∷ 1 ∷ 0 ∷ 0 ∷ 0 ∷ 0 ∷ 0 ∷ []) 0 ∷
    -- E
    permits (3 ∷ 1 ∷ 1000 ∷ 500 ∷ 200 ∷ 150 ∷ 500 ∷ 2 ∷ 5 ∷ 20 ∷ 0 ∷ 0 ∷ 4 ∷ 0 ∷ 0 ∷ 0 ∷ []) 6084 ∷
    -- F
    permits (2 ∷ 1 ∷ 300 ∷ 0 ∷ 200 ∷ 0 ∷ 100 ∷ 1 ∷ 24 ∷ 0 ∷ 1 ∷ 0 ∷ 0 ∷ 0 ∷ 0 ∷ 0 ∷ []) 1939 ∷
    -- G, H
    carries (4 ∷ 1 ∷ 1000 ∷ 500 ∷ 200 ∷ 150 ∷ 500 ∷ 3 ∷ 1 ∷ 16 ∷ 10 ∷ 6 ∷ 0 ∷ 1 ∷ 1 ∷ 1 ∷ []) 4944 ∷
    carries (4 ∷ 1 ∷ 1000 ∷ 500 ∷ 200 ∷ 150 ∷ 500 ∷ 3 ∷ 1 ∷ 16 ∷ 10 ∷ 6 ∷ 3 ∷ 1 ∷ 1 ∷ 1 ∷ []) 3360 ∷
    -- I, J: what the document leaves open is as in A
    bears (1 ∷ 1 ∷ 1000 ∷ 140 ∷ 0 ∷ 0 ∷ 100 ∷ 1 ∷ 28 ∷ 0 ∷ 1 ∷ 0 ∷ 0 ∷ 0 ∷ 0 ∷ 0 ∷ []) (2000 ∷ 4000 ∷ []) (0 ∷ 300 ∷ []) 960 ∷
    bears (1 ∷ 1 ∷ 1000 ∷ 140 ∷ 0 ∷ 0 ∷ 100 ∷ 1 ∷ 28 ∷ 0 ∷ 1 ∷ 0 ∷ 0 ∷ 0 ∷ 0 ∷ 0 ∷ []) (2000 ∷ 4001 ∷ []) (0 ∷ 300 ∷ []) 961 ∷
    -- K: the chord of E; 900 in one direction of travel only
    bears (3 ∷ 1 ∷ 1000 ∷ 500 ∷ 200 ∷ 150 ∷ 500 ∷ 2 ∷ 5 ∷ 20 ∷ 0 ∷ 0 ∷ 4 ∷ 0 ∷ 0 ∷ 0 ∷ []) (2000 ∷ 4000 ∷ []) (0 ∷ 300 ∷ []) 1050 ∷
    -- L
    bears (1 ∷ 1 ∷ 500 ∷ 140 ∷ 0 ∷ 0 ∷ 100 ∷ 1 ∷ 28 ∷ 0 ∷ 1 ∷ 0 ∷ 0 ∷ 0 ∷ 0 ∷ 0 ∷ []) (1500 ∷ 3000 ∷ []) (0 ∷ 370 ∷ []) 1200 ∷ []
