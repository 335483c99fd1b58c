-- What the readings of a gauge under a member give. Document 02, request 11/13: "Gauges under a test load."
use Rattle.std.specs.Prelude.{ℕ, List, [], ◌∷◌, map, Float, Result}
use Rattle.std.specs.Float.{binary32}
use Rattle.std.specs.Float.Ieee.{sub}
use Rattle.section.specs.Choose.{choose}
use Rattle.section.specs.Fraction.{at_most}
use Rattle.member.specs.declared.record.Member.{Member}
use Rattle.files.specs.Reading.{Reading, ◌unless◌, first_fault, or_else, test, taken}
use Rattle.files.specs.declared.Refusal.{Refusal}
use Rattle.gauge.specs.Limit.{limit}
use Rattle.gauge.specs.Value.{value_of, is_reading}
use Rattle.gauge.specs.declared.Deflection.{Deflection}
use Rattle.gauge.specs.declared.Deflection.TheVariants.{Within, Over}
use Rattle.gauge.specs.declared.Readings.{Readings}

-- "empty, loaded, after", in their order
abbrev pub in_order : Readings → List Float
in_order r = r.empty ∷ r.loaded ∷ r.after ∷ []

-- "20: a reading not of that sort, or after above loaded; place 1 to 3 of the first bad reading, 0 for the second cause, tested where no
-- reading is bad"
abbrev pub fault_of : Float → ℕ
fault_of x = 20 unless is_reading x

unfoldable pub reading_tests : Readings → Reading
reading_tests r = or_else (first_fault 1 (map fault_of (in_order r))) (test 20 (at_most (value_of r.after) (value_of r.loaded)))

-- "The elastic deflection is loaded − after": the machine's subtraction of f32
abbrev pub deflection : Readings → Float
deflection r = sub binary32 r.loaded r.after

-- "The answer is within or over, each carrying the deflection; at the limit it is within, and the comparison is exact."
unfoldable pub deflection_of : Member → (class : ℕ) → Readings → Deflection
deflection_of m class r = choose (at_most (value_of (deflection r)) (limit m class)) (Within (deflection r)) (Over (deflection r))

-- a refusal of the readings, or the deflection
unfoldable pub gauged : Member → (class : ℕ) → Readings → Result Deflection Refusal
gauged m class r = taken (reading_tests r) (deflection_of m class r)
