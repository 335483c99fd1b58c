-- `Session::gauge` meets its contract: the session is handed back as it came.
use Rattle.session.specs.Gauging.{gauge}
use Rattle.session.proofs.Session.gauge.Goals as goal

pub returns : goal.returns
unfolding gauge
returns c = rw c.gauge_loaded.ensures
