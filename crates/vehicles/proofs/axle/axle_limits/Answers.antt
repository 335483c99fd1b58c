-- `axle_limits` meets its contract: its tests are those of the range.
use mathlib.Core.Path.{◌≡◌, refl}
use borrow.Author.Tests.{eq-eqb, ne_eqb}
use Rattle.vehicles.specs.VehicleFile.{axle_range}
use Rattle.vehicles.proofs.Axles.{weights_from}
use Rattle.vehicles.proofs.axle.axle_limits.Goals as goal

pub returns-then-field-eq-WEIGHT : goal.returns-then-field-eq-WEIGHT
unfolding axle_range
returns-then-field-eq-WEIGHT c = rw (eq-eqb _ _ c.if-field-eq-WEIGHT.true, weights_from c.args.version) (refl, c.most_weight-high.ensures)

pub returns-then-axle-eq0 : goal.returns-then-axle-eq0
unfolding axle_range
returns-then-axle-eq0 c =
    let first : c.args.axle ≡ 0 = c.if-axle-eq0.true in
    rw (ne_eqb _ _ c.if-field-eq-WEIGHT.false, eq-eqb _ _ first) (refl, refl)

pub returns-else-axle-eq0 : goal.returns-else-axle-eq0
unfolding axle_range
returns-else-axle-eq0 c = rw (ne_eqb _ _ c.if-field-eq-WEIGHT.false, ne_eqb _ _ c.if-axle-eq0.false) (refl, refl)
