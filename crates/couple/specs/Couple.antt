-- Two vehicle files coupled. Document 02, request 13/13: "Lorry and trailer coupled. .. Join two vehicle files of equal class and track, the
-- second's axles behind the first's with one stated gap of 1..2000 cm".
use Rattle.std.specs.Prelude.{ℕ, ◌+◌, ◌-◌, Bool, ◌&&◌, List, [], ◌∷◌, ◌++◌, eqb, leb, replicate, Ok, Err}
use Rattle.section.specs.Choose.{choose}
use Rattle.section.specs.Units.{centimetres, kgf, weight, distance}
use Rattle.member.specs.Fields.{MOST_AXLES}
use Rattle.member.specs.Format.{Range, ◌‥◌}
use Rattle.member.specs.declared.record.Vehicle.{Vehicle}
use Rattle.files.specs.Words.{each}
use Rattle.files.specs.Reading.{Reading, is_in, test, first_refusal}
use Rattle.vehicles.specs.VehicleFile.{read_vehicle, blank_vehicle}
use Rattle.vehicles.specs.VehicleFile.{VehicleRead}

-- "one stated gap of 1..2000 cm"
abbrev pub gap_range : Range
gap_range = 1 ‥ 2000

-- how far the second's axle of index j stands behind the axle in front: the gap where it is its first, else as its own file has it
abbrev pub distance_behind : (own gap j : ℕ) → ℕ
distance_behind own gap j = choose (eqb j 0) gap own

module _ (first second : Vehicle) where
  abbrev pub coupled_axles : ℕ
  coupled_axles = first.axles + second.axles

  -- no "more than 16 axles"
  abbrev pub few_enough : Bool
  few_enough = leb coupled_axles MOST_AXLES

  -- "the second's axles behind the first's": the axle of index i, from 0, is one of the first's
  abbrev pub of_first : (i : ℕ) → Bool
  of_first i = leb (i + 1) first.axles

  unfoldable pub coupled_weight : (i : ℕ) → ℕ
  coupled_weight i = choose (of_first i) (weight first.weights i) (weight second.weights (i - first.axles))

  module _ (gap : ℕ) where
    unfoldable pub coupled_distance : (i : ℕ) → ℕ
    coupled_distance i =
        choose (of_first i) (distance first.distances i)
        (distance_behind (distance second.distances (i - first.axles)) gap (i - first.axles))

    -- the vehicle of these axles, and axles of 0 after them
    abbrev pub coupled_vehicle : Vehicle
    coupled_vehicle =
        record {
          class = first.class;
          track = first.track;
          axles = coupled_axles;
          weights = each (λ i. kgf (coupled_weight i)) coupled_axles ++ replicate (MOST_AXLES - coupled_axles) (kgf 0);
          distances = each (λ i. centimetres (coupled_distance i)) coupled_axles ++ replicate (MOST_AXLES - coupled_axles) (centimetres 0);
        }

    -- "two vehicle files of equal class and track", "one stated gap"
    abbrev pub may_follow : Bool
    may_follow = eqb first.class second.class && eqb first.track.0 second.track.0 && is_in gap_range gap

    -- "Then a class or track that differs, or a bad gap, gives 7, and then more than 16 axles give 3, both at place 0."
    abbrev pub pair_tests : List Reading
    pair_tests = test 7 may_follow ∷ test 3 few_enough ∷ []

module _ (first second : List ℕ) (gap : ℕ) where
  -- "The first file's own refusals come first, then the second's. Then" those of the pair, of what was read of the two
  abbrev pub couple_tests : List Reading
  couple_tests =
      (read_vehicle first).answer ∷ (read_vehicle second).answer ∷ pair_tests (read_vehicle first).vehicle (read_vehicle second).vehicle gap

  -- a refused pair gives a blank vehicle
  abbrev pub coupled_by : Reading → Vehicle
  coupled_by (Ok tt) = coupled_vehicle (read_vehicle first).vehicle (read_vehicle second).vehicle gap
  coupled_by (Err r) = blank_vehicle

  unfoldable pub couple : VehicleRead
  couple = record { answer = first_refusal couple_tests; vehicle = coupled_by (first_refusal couple_tests) }
