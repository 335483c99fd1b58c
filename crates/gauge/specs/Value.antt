-- A gauge's reading. Document 02, request 11/13: "a gauge writes three f32 readings in mm: empty, loaded, after. All are multiples of 1/64 from
-- 0 up to but not including 512, with the sign bit clear." It is said of a float's value and its sign bit. A float that is a number is
-- `fin s m e`: the sign bit s, and the size m times 2 to the e, where 2 to the e is the fraction `up e` over `down e`.
use Rattle.std.specs.Prelude.{ℕ, ◌*◌, ◌%◌, ◌≡◌, Bool, false, not, ◌&&◌, eqb, ℤ, Float}
use Rattle.std.specs.Float.{nan, inf, fin}
use Rattle.std.specs.Float.Ieee.{up, down}
use Rattle.section.specs.Fraction.{Fraction, over, whole, ◌·◌, ◌⊏◌, ◌≐◌, at_most}

-- the size of a number; a NaN and an infinity have none, and 0 stands for it
unfoldable pub value_of : Float → Fraction
value_of nan = whole 0
value_of (inf s) = whole 0
value_of (fin s m e) = over (m * up e) (down e)

-- a number "with the sign bit clear"
abbrev pub is_clear : Float → Bool
is_clear nan = false
is_clear (inf s) = false
is_clear (fin s m e) = not s

abbrev pub is_whole : Fraction → Bool
is_whole a = eqb (a.num % a.den) 0

-- a multiple of 1/64, 64 times which is a whole number, below 512. No size is below 0
unfoldable pub is_reading : Float → Bool
is_reading x = is_clear x && is_whole (whole 64 · value_of x) && not (at_most (whole 512) (value_of x))

-- The same in plain words.
pub record IsReading (x : Float) : Type 0 where
  pub clear : (m : ℕ) × (e : ℤ) × (x ≡ fin false m e)
  pub multiple : (n : ℕ) × (value_of x ≐ over n 64)
  pub below : value_of x ⊏ whole 512
