-- Moments of inertia of a stringer and of the deck's boards, in cm⁴. Document 02, request 2/13.
use Rattle.std.specs.Prelude.{ℕ, ◌-◌}
use Rattle.section.specs.Fraction.{Fraction, whole, cube, ◌·◌, ◌÷◌, ◌⊕◌}
use Rattle.section.specs.Log.{net_diameter, log_modulus}
use Rattle.section.specs.Sawn.{sawn_modulus}

-- "I is W times half the net height"
unfoldable pub inertia : (W height : Fraction) → Fraction
inertia W height = W · (height ÷ whole 2)

-- of one log, whose net height is its net diameter
unfoldable pub log_inertia : (net : ℕ) → Fraction
log_inertia net = inertia (whole (log_modulus net)) (whole net)

-- "taken for each tier and added; for code 1 the net height is that tier's net diameter (sound tiers the full one)"
unfoldable pub tiered_inertia : (diameter rot tiers : ℕ) → Fraction
tiered_inertia diameter rot tiers = log_inertia (net_diameter diameter rot) ⊕ whole (tiers - 1) · log_inertia diameter

-- "for code 2 it is net h"
unfoldable pub sawn_inertia : (width height sideRot topRot pieces : ℕ) → Fraction
sawn_inertia width height sideRot topRot pieces = inertia (sawn_modulus width height sideRot topRot pieces) (whole (height - topRot))

-- "J is the boards' width × net thickness³ / 12, times count, net thickness being h − B."
unfoldable pub deck_inertia : (count thickness width rot : ℕ) → Fraction
deck_inertia count thickness width rot = whole width · cube (whole (thickness - rot)) ÷ whole 12 · whole count
