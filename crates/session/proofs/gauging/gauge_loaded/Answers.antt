-- `gauge_loaded` meets its contract: the place's refusal, or the gauge under the member there.
use mathlib.Core.Path.{ap}
use Rattle.session.specs.Loaded.{Session}
use Rattle.std.proofs.lemmas.Result.{err_from_is_err_and}
use Rattle.session.specs.Gauging.{gauge}
use Rattle.session.proofs.State.{place_clear, place_faulty}
use Rattle.session.proofs.gauging.gauge_loaded.Goals as goal

pub returns-in_err-m : goal.returns-in_err-m
unfolding gauge
returns-in_err-m c =
    let p = err_from_is_err_and c.from_residual.result c.from_residual.ensures.1 in
    rw (p.1, p.2) (place_faulty _ _ _ _ c.in_err-m.ensures)

pub returns : goal.returns
unfolding gauge
returns c =
    let h = c.in_ok-m.ensures in
    let v = ap (λ (s : Session). s.vehicle) c.session.view_is in
    rw (c.gauge.ensures, v, h.is) (place_clear _ _ _ _ h)
