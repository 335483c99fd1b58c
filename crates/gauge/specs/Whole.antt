-- What the code multiplies out: a reading as a whole number of 64ths of a millimetre, and the fifths of a limit. No part of the demands.
use Rattle.std.specs.Prelude.{ℕ, Option, Some, None, eqb, Float}
use Rattle.section.specs.Choose.{choose}
use Rattle.section.specs.Fraction.{whole, ◌·◌, floor}
use Rattle.gauge.specs.Value.{value_of, is_reading}

-- how many 64ths a reading has
abbrev pub count_of : Float → ℕ
count_of x = floor (whole 64 · value_of x)

-- of what is a reading
abbrev pub counted_of : Float → Option ℕ
counted_of x = choose (is_reading x) (Some (count_of x)) None

-- a fifth more is 6 fifths
abbrev pub fifths_of : (class : ℕ) → ℕ
fifths_of class = choose (eqb class 1) 6 5
