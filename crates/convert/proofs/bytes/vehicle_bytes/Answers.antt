-- `vehicle_bytes` meets its contract. The loop's invariant: the header and the first i axles are put.
-- Assumes nothing.
use mathlib.Core.Path.{◌≡◌}
use native.Mathlib.Omega.{arith}
use Rattle.convert.proofs.Files.{axle_written, all_written}
use Rattle.convert.proofs.bytes.vehicle_bytes.Goals as goal

pub loop-i-preserved : goal.loop-i-preserved
loop-i-preserved c =
    let a = c.args in
    rw (c.put_number-in-loop-i.ensures, c.put_number.ensures, c.axle_size-size.ensures.is, c.weight_bytes-width.ensures.is) (axle_written a.version a.v c.loop-i.i c.loop-i.row c.loop-i.invariant)

pub returns : goal.returns
returns c =
    let a = c.args in
    let ended : c.loop-i.i ≡ a.v.axles = omega arith in
    all_written a.version a.v c.loop-i.row (rw ended at c.loop-i.invariant)
