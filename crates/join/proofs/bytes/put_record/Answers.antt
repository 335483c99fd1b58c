-- `put_record` meets its contract. The loop's invariant: the first f numbers are put.
-- Assumes nothing.
use native.Mathlib.Omega.{arith}
use Rattle.join.proofs.Surveys.{number_put}
use Rattle.join.proofs.bytes.put_record.Goals as goal

pub loop-f-preserved : goal.loop-f-preserved
loop-f-preserved c =
    let a = c.args in
    rw (c.put_number.ensures, c.loop-f.invariant, c.from.ensures) (number_put a.out.now a.at a.m c.loop-f.f (omega (arith, c.requires)))
