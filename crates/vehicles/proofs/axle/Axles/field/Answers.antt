-- `field` meets its contract: its test is the definition's.
use borrow.Author.Tests.{eq-eqb, ne_eqb}
use Rattle.vehicles.specs.VehicleFile.{axle_field}
use Rattle.vehicles.proofs.axle.Axles.field.Goals as goal

pub returns-then-field-eq-WEIGHT : goal.returns-then-field-eq-WEIGHT
unfolding axle_field
returns-then-field-eq-WEIGHT c = rw (eq-eqb _ _ c.if-field-eq-WEIGHT.true) c.weight.ensures

pub returns-else-field-eq-WEIGHT : goal.returns-else-field-eq-WEIGHT
unfolding axle_field
returns-else-field-eq-WEIGHT c = rw (ne_eqb _ _ c.if-field-eq-WEIGHT.false) c.distance.ensures
