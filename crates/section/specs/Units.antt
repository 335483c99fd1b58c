-- Numbers with their units. Document 01: "Lengths are whole centimetres, axle weights whole kgf".
use Rattle.std.specs.Prelude.{ℕ, ◌^◌, ◌<◌, List, get_or}
use Rattle.section.specs.declared.Cm.{Cm}
use Rattle.section.specs.declared.Kgf.{Kgf}

abbrev pub centimetres : ℕ → Cm
centimetres n = record { 0 = n }

abbrev pub kgf : ℕ → Kgf
kgf n = record { 0 = n }

-- a load that a signed number of 64 bits holds: one holds the difference of two such loads too
abbrev pub FitsSigned : ℕ → Type 0
FitsSigned n = n < 2 ^ 63

-- in a vehicle's row of weights the weight of the axle of index i, in kgf; in its row of distances how far that axle stands behind the
-- axle in front, in cm
abbrev pub weight : List Kgf → ℕ → ℕ
weight ws i = (get_or ws i (kgf 0)).0

abbrev pub distance : List Cm → ℕ → ℕ
distance ds i = (get_or ds i (centimetres 0)).0
