-- `first_fault` meets its contract. The axles' invariant: none of the first i axles has a fault. The fields' invariant: the first f
-- fields of the axle are in their ranges.
use mathlib.Core.Path.{◌≡◌, refl, sym, ap, ◌∙◌}
use mathlib.Core.Bool.{Bool}
use native.Mathlib.Numerals.{add-one}
use native.Mathlib.Omega.{arith}
use Rattle.files.specs.Reading.{◌unless◌}
use Rattle.vehicles.specs.VehicleFile.{AXLE_FIELDS, field_within, axle_within, axle_fault}
use Rattle.files.proofs.Tests.{fails, holds, all_fails}
use Rattle.files.proofs.Faults.{clear_more, fault_at}
use Rattle.vehicles.proofs.file.first_fault.Goals as goal

pub axles-init : goal.axles-init
axles-init c = (refl, refl)

pub loop-f-init : goal.loop-f-init
loop-f-init c = (c.axles.invariant.0, refl)

pub loop-f-preserved : goal.loop-f-preserved
loop-f-preserved c =
    let good = holds c.field_within.ensures c.if-not-field_within.false in
    (c.loop-f.invariant.0, rw (add-one, c.loop-f.invariant.1, good))

pub axles-preserved : goal.axles-preserved
unfolding axle_within
axles-preserved c =
    let e : c.loop-f.f ≡ AXLE_FIELDS = omega arith in
    let none = ap (λ (b : Bool). 7 unless b) (rw e at c.loop-f.invariant.1) in
    (c.loop-f.invariant.0, clear_more (axle_fault c.args.axles.bytes.now) 1 c.axles.i c.axles.invariant.1 none)

pub returns-after-axles : goal.returns-after-axles
returns-after-axles c =
    let e : c.axles.i ≡ c.args.axles.count = omega arith in
    c.axles.invariant.0 ∙ sym (rw e at c.axles.invariant.1)

pub returns-then-not-field_within : goal.returns-then-not-field_within
unfolding axle_within
returns-then-not-field_within c =
    let b = c.args.axles.bytes.now in
    let bad = fails c.field_within.ensures c.if-not-field_within.true in
    let at = ap (λ (b : Bool). 7 unless b) (all_fails (field_within b c.axles.i) AXLE_FIELDS c.loop-f.f (omega arith) bad) in
    rw c.at.ensures (sym (fault_at (axle_fault b) 1 c.axles.i c.args.axles.count 7 (omega arith) c.axles.invariant.1 at (omega arith)))
