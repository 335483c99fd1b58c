-- `rating::vehicle::base_of` meets its contract: two panels of a cross beam, else the span.
-- Assumes nothing.
use native.Mathlib.Omega.{arith}
use mathlib.Core.Path.{◌≡◌, sym}
use Rattle.std.proofs.Common.{rules}
use Rattle.member.specs.Fields.{KIND, SPAN, DISTANCE, field}
use Rattle.member.proofs.Quantities.{panel}
use Rattle.rating.proofs.Lines.{base_is_span, base_is_panels, span_high}
use Rattle.rating.proofs.vehicle.base_of.Goals as goal
use Rattle.rating.proofs.vehicle.base_of.Goals.{In_default}

-- in any other arm the kind is not 2
no_cross_beam : (c : In_default) → field c.args.m KIND ≡ 2 → ⊥
no_cross_beam c e = search rules

pub two_panels-requires : goal.two_panels-requires
two_panels-requires c = omega (arith, panel c.requires (sym c.in-CrossBeam.ensures), c.distance.ensures)

pub half_cm-requires : goal.half_cm-requires
half_cm-requires c = omega (arith, panel c.requires (sym c.in-CrossBeam.ensures), c.distance.ensures, c.two_panels.ensures)

pub returns-in-CrossBeam : goal.returns-in-CrossBeam
returns-in-CrossBeam c =
    let m = c.args.m in
    omega (arith, base_is_panels (field m KIND) (field m SPAN) (field m DISTANCE) (sym c.in-CrossBeam.ensures))

pub half_cm-requires-in_default : goal.half_cm-requires-in_default
half_cm-requires-in_default c = omega (arith, span_high c.requires, c.span.ensures)

pub returns-in_default : goal.returns-in_default
returns-in_default c =
    let m = c.args.m in
    omega (arith, base_is_span (field m KIND) (field m SPAN) (field m DISTANCE) (no_cross_beam c.before.before))
