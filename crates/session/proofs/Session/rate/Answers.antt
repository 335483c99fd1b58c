-- `Session::rate` meets its contract: the session is handed back as it came.
use Rattle.session.specs.Calls.{rate}
use Rattle.session.proofs.Session.rate.Goals as goal

pub returns : goal.returns
unfolding rate
returns c = rw c.rate_loaded.ensures
