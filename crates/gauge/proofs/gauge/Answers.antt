-- `gauge` meets its contract: a refusal answers itself; else no test fails.
-- Assumes nothing.
use Rattle.std.proofs.lemmas.Result.{err_from_is_err_and}
use mathlib.Core.Path.{sym}
use Rattle.gauge.specs.Gauge.{gauged}
use Rattle.gauge.proofs.Refusals.{taken_good}
use Rattle.gauge.proofs.gauge.Goals as goal

pub returns-in_err-readings_answer : goal.returns-in_err-readings_answer
unfolding gauged
returns-in_err-readings_answer c =
    let p = err_from_is_err_and c.from_residual.result c.from_residual.ensures.1 in
    rw (p.1, p.2, sym c.in_err-readings_answer.ensures)

-- every test holds
pub compared-requires : goal.compared-requires
compared-requires c = (c.requires, taken_good _ (sym c.in_ok-readings_answer.ensures))

pub returns : goal.returns
unfolding gauged
returns c = rw (c.compared.ensures, sym c.in_ok-readings_answer.ensures)
