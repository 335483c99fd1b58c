-- `field_within` meets its contract: the range and the number are the callees'.
use Rattle.vehicles.specs.VehicleFile.{field_within}
use Rattle.vehicles.proofs.file.field_within.Goals as goal

pub returns : goal.returns
unfolding field_within
returns c =
    let l = c.axle_limits.ensures in
    rw (l.0, l.1, c.field.ensures, c.args.axles.own) at c.contains.ensures
