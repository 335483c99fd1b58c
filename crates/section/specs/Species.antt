-- Document 01, 'Permitted load': "Species code, with factor K for bending and tension and factor S for shear".
use Rattle.std.specs.Prelude.{ℕ, ◌-◌, List, [], ◌∷◌, get_or}
use Rattle.section.specs.Fraction.{Fraction, tenths}

-- 1 pine, 2 spruce, 3 larch, 4 cedar, 5 fir, 6 oak, 7 ash, maple or hornbeam, 8 beech, each in tenths
abbrev pub bending_table : List ℕ
bending_table = 10 ∷ 10 ∷ 12 ∷ 9 ∷ 8 ∷ 13 ∷ 13 ∷ 11 ∷ []

abbrev pub shear_table : List ℕ
shear_table = 10 ∷ 10 ∷ 10 ∷ 9 ∷ 8 ∷ 13 ∷ 16 ∷ 13 ∷ []

abbrev pub bending_tenths : (species : ℕ) → ℕ
bending_tenths species = get_or bending_table (species - 1) 0

abbrev pub shear_tenths : (species : ℕ) → ℕ
shear_tenths species = get_or shear_table (species - 1) 0

-- the factor K
abbrev pub bending_factor : (species : ℕ) → Fraction
bending_factor species = tenths (bending_tenths species)

-- the factor S
abbrev pub shear_factor : (species : ℕ) → Fraction
shear_factor species = tenths (shear_tenths species)
