-- `rating::vehicle::apex_of` meets its contract: the middle of a stringer, closely spaced or not, else the distance x.
-- Assumes nothing.
use native.Mathlib.Omega.{arith}
use Prim.Native.Nat.{◌*◌}
use mathlib.Core.Path.{◌≡◌}
use mathlib.Core.Bool.{true, false, ◌||◌}
use lib.Dec.{eqb}
use Rattle.std.proofs.Common.{rules}
use Rattle.member.specs.Fields.{KIND, SPAN, DISTANCE, field}
use Rattle.rating.specs.VehicleLoad.{influence_line}
use Rattle.rating.proofs.Lines.{apex_is_middle, apex_is_distance, distance_high, line_sized}
use Rattle.rating.proofs.vehicle.apex_of.Goals as goal
use Rattle.rating.proofs.vehicle.apex_of.Goals.{In-Stringer, In_default}

-- the kind is 1 or 7
stringer : (c : In-Stringer) → (eqb (field c.args.m KIND) 1 || eqb (field c.args.m KIND) 7) ≡ true
stringer c = search rules

-- it is neither
other : (c : In_default) → (eqb (field c.args.m KIND) 1 || eqb (field c.args.m KIND) 7) ≡ false
other c = search rules

at_distance : (c : In_default) → let m = c.args.m in (influence_line m).apex ≡ 2 * field m DISTANCE
at_distance c = let m = c.args.m in apex_is_distance (field m KIND) (field m SPAN) (field m DISTANCE) (other c)

pub returns-in-Stringer : goal.returns-in-Stringer
returns-in-Stringer c =
    let m = c.args.m in
    omega (arith, apex_is_middle (field m KIND) (field m SPAN) (field m DISTANCE) (stringer c.before.before))

pub half_cm-requires : goal.half_cm-requires
half_cm-requires c = omega (arith, distance_high (line_sized c.requires) (at_distance c.before), c.distance.ensures)

pub returns-in_default : goal.returns-in_default
returns-in_default c = omega (arith, at_distance c.before.before)
