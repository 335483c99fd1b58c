-- The net section of sawn beams and of a given area. Document 01, 'Net section': "W = pieces × b × h² / 6 with net b = width −
-- side rot and net h = height − top rot; area F = pieces × b × h − lost area." "Code 4: F = area − lost area."
use Rattle.std.specs.Prelude.{ℕ, ◌-◌, ◌*◌}
use Rattle.section.specs.Fraction.{Fraction, whole, square, ◌·◌, ◌÷◌}

unfoldable pub sawn_modulus : (width height sideRot topRot pieces : ℕ) → Fraction
sawn_modulus width height sideRot topRot pieces = whole pieces · whole (width - sideRot) · square (whole (height - topRot)) ÷ whole 6

unfoldable pub sawn_area : (width height sideRot topRot pieces lost : ℕ) → ℕ
sawn_area width height sideRot topRot pieces lost = pieces * (width - sideRot) * (height - topRot) - lost

unfoldable pub area_left : (area lost : ℕ) → ℕ
area_left area lost = area - lost
