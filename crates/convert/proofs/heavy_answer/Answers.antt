-- `heavy_answer` meets its contract. The loop's invariant: the first i weights fit.
-- Assumes nothing.
use mathlib.Core.Path.{◌≡◌, sym, ap}
use mathlib.Core.Bool.{Bool}
use native.Mathlib.Omega.{arith}
use Rattle.files.specs.Reading.{◌unless◌}
use Rattle.files.proofs.Faults.{clear_more, fault_at}
use Rattle.files.proofs.Tests.{fails, holds}
use Rattle.convert.specs.Convert.{heavy_fault, heavy_answer}
use Rattle.convert.proofs.heavy_answer.Goals as goal

pub loop-i-preserved : goal.loop-i-preserved
loop-i-preserved c =
    let good = ap (λ (b : Bool). 17 unless b) (holds c.weight_fits.ensures c.if-not-weight_fits.false) in
    clear_more (heavy_fault c.args.wanted c.args.v) 1 c.loop-i.i c.loop-i.invariant good

pub returns : goal.returns
unfolding heavy_answer
returns c =
    let ended : c.loop-i.i ≡ c.args.v.axles = omega arith in
    sym (rw ended at c.loop-i.invariant)

pub returns-then-not-weight_fits : goal.returns-then-not-weight_fits
unfolding heavy_answer
returns-then-not-weight_fits c =
    let a = c.args in
    let bad = ap (λ (b : Bool). 17 unless b) (fails c.weight_fits.ensures c.if-not-weight_fits.true) in
    rw c.at.ensures (sym (fault_at (heavy_fault a.wanted a.v) 1 c.loop-i.i a.v.axles 17 (omega arith) c.loop-i.invariant bad (omega arith)))
