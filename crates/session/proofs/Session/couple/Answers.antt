-- `Session::couple` meets its contract: what was coupled is stored by its answer.
use Rattle.couple.proofs.Named.{taken_allowed}
use Rattle.session.specs.Coupling.{couple}
use Rattle.session.proofs.State.{allowed_read}
use Rattle.session.proofs.Session.couple.Goals as goal

pub store_vehicle-requires : goal.store_vehicle-requires
store_vehicle-requires c = allowed_read _ _ c.couple.ensures (taken_allowed _ _ _)

pub returns : goal.returns
unfolding couple
returns c = c.store_vehicle.ensures _ _ c.couple.ensures
