-- What is claimed of a gauge's readings, each part under the sentence of document 02, request 11/13, that it states.
use Rattle.std.specs.Prelude.{ℕ, ◌≡◌, ◌↔◌, Float}
use Rattle.std.specs.Float.{binary32}
use Rattle.std.specs.Float.Ieee.{sub}
use Rattle.section.specs.Fraction.{◌⊕◌, ◌⊑◌, ◌⊏◌, ◌≐◌}
use Rattle.member.specs.declared.record.Member.{Member}
use Rattle.gauge.specs.Limit.{limit}
use Rattle.gauge.specs.Value.{value_of, IsReading}
use Rattle.gauge.specs.declared.Deflection.{Deflection}
use Rattle.gauge.specs.declared.Deflection.TheVariants.{Within, Over}
use Rattle.gauge.specs.declared.Readings.{Readings}

-- "for such readings the subtraction loses nothing, and that is to be shown": the machine's difference is such a number too, and with what was
-- taken away its value makes up exactly the value that it was taken from
pub record Exact (x y : Float) : Type 0 where
  pub reading : IsReading (sub binary32 x y)
  pub exact : value_of (sub binary32 x y) ⊕ value_of y ≐ value_of x

abbrev pub LosesNothing : Type 0
LosesNothing = (x y : Float) → IsReading x → IsReading y → value_of y ⊑ value_of x → Exact x y

-- "within or over, each carrying the deflection"
abbrev pub carried : Deflection → Float
carried (Within x) = x
carried (Over x) = x

pub record Compared (m : Member) (class : ℕ) (r : Readings) (d : Deflection) : Type 0 where
  -- "The elastic deflection is loaded − after"
  pub elastic : carried d ≡ sub binary32 r.loaded r.after
  pub exact : Exact r.loaded r.after
  -- "at the limit it is within, and the comparison is exact"
  pub within : (d ≡ Within (carried d)) ↔ (value_of (carried d) ⊑ limit m class)
  pub over : (d ≡ Over (carried d)) ↔ (limit m class ⊏ value_of (carried d))
