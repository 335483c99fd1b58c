-- What one cut of a dowel carries. Document 01, 'Net section': "Dowels (table 4, symmetric joint, load along the grain)". "T is
-- the least of the terms, δ being the diameter in cm and c and a each less the rot." "T is not rounded."
use Rattle.std.specs.Prelude.{ℕ, ◌-◌, eqb}
use Rattle.section.specs.Choose.{choose}
use Rattle.section.specs.Fraction.{Fraction, whole, tenths, square, lesser, ◌·◌, ◌⊕◌}

-- the least of pcδ, qaδ, rδ² + sa² and tδ²
unfoldable pub least_term : (p q r s t : ℕ) (c a δ : Fraction) → Fraction
least_term p q r s t c a δ =
    lesser (whole p · c · δ)
    (lesser (whole q · a · δ) (lesser (whole r · square δ ⊕ whole s · square a) (whole t · square δ)))

-- "Steel: 45cδ, 70aδ, 165δ² + 2a², 230δ²."
abbrev pub steel : (c a δ : Fraction) → Fraction
steel = least_term 45 70 165 2 230

-- "Nail: 45cδ, 70aδ, 230δ² + a², 370δ²."
abbrev pub nail : (c a δ : Fraction) → Fraction
nail = least_term 45 70 230 1 370

-- "Oak: 25cδ, 45aδ, 40δ² + 2a², 60δ²."
abbrev pub oak : (c a δ : Fraction) → Fraction
oak = least_term 25 45 40 2 60

-- "s1 type (1 steel, 2 nail, 3 oak)"
unfoldable pub term_of : (type : ℕ) (c a δ : Fraction) → Fraction
term_of type c a δ = choose (eqb type 1) (steel c a δ) (choose (eqb type 2) (nail c a δ) (oak c a δ))

-- T of a type, with its diameter in mm, the middle and the outer thickness and the rot
unfoldable pub dowel_capacity : (type diameter middle outer rot : ℕ) → Fraction
dowel_capacity type diameter middle outer rot = term_of type (whole (middle - rot)) (whole (outer - rot)) (tenths diameter)
