-- `most_weight` meets its contract: its test is that of the range.
use borrow.Author.Tests.{eq-eqb, ne_eqb}
use Rattle.vehicles.specs.VehicleFile.{weights_in}
use Rattle.vehicles.proofs.axle.most_weight.Goals as goal

pub returns-then-version-eq2 : goal.returns-then-version-eq2
unfolding weights_in
returns-then-version-eq2 c = rw (eq-eqb _ _ c.if-version-eq2.true)

pub returns-else-version-eq2 : goal.returns-else-version-eq2
unfolding weights_in
returns-else-version-eq2 c = rw (ne_eqb _ _ c.if-version-eq2.false)
