-- A dowel's material: table 4's line of each, and the material of each type's number.
use Rattle.std.specs.Prelude.{ℕ, eqb}
use Rattle.section.specs.Choose.{choose}
use Rattle.section.specs.Fraction.{Fraction}
use Rattle.section.specs.Dowel.{steel, nail, oak}
use Rattle.section.specs.declared.dowel.Material.{Material}
use Rattle.section.specs.declared.dowel.Material.TheVariants.{Steel, Nail, Oak}

abbrev pub material_term : Material → (c a δ : Fraction) → Fraction
material_term Steel = steel
material_term Nail = nail
material_term Oak = oak

-- "s1 type (1 steel, 2 nail, 3 oak)"
abbrev pub material_of : (type : ℕ) → Material
material_of type = choose (eqb type 1) Steel (choose (eqb type 2) Nail Oak)
