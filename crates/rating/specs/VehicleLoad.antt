-- The vehicle load on a member. Document 01, 'Vehicle load'. Places on a triangle are whole half centimetres (crate influence).
use Rattle.std.specs.Prelude.{ℕ, ◌*◌, ◌||◌, eqb}
use Rattle.section.specs.Choose.{choose}
use Rattle.influence.specs.Influence.{vehicle_load}
use Rattle.member.specs.Fields.{KIND, SPAN, DISTANCE, field}
use Rattle.member.specs.declared.record.Member.{Member}
use Rattle.member.specs.declared.record.Vehicle.{Vehicle}

-- a length of n centimetres, in half centimetres
abbrev pub cm : ℕ → ℕ
cm n = 2 * n

-- half of a length of n centimetres, in half centimetres
abbrev pub half_of : ℕ → ℕ
half_of n = n

-- the base of a triangle and the place of its apex
pub record Line : Type 0 where
  pub base : ℕ
  pub apex : ℕ

-- "Kind 1: base l, apex l/2. Kind 2: base 2x, apex x. Kinds 3 to 6: base l, apex x." Kind 7, document 02, request 2/13: "base and apex as
-- kind 1"
unfoldable pub line_of : (kind l x : ℕ) → Line
line_of kind l x =
    choose (eqb kind 1 || eqb kind 7) (record { base = cm l; apex = half_of l })
    (choose (eqb kind 2) (record { base = cm (2 * x); apex = cm x })
    (record { base = cm l; apex = cm x }))

abbrev pub influence_line : Member → Line
influence_line m = line_of (field m KIND) (field m SPAN) (field m DISTANCE)

-- the load that the vehicle's axles put on the member, kgf/m
unfoldable pub vehicle_load_on : Member → Vehicle → ℕ
vehicle_load_on m v = vehicle_load (influence_line m).base (influence_line m).apex v.weights v.distances v.axles
