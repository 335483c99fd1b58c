-- `Session::judge` meets its contract: the session is handed back as it came.
use Rattle.session.specs.Calls.{judge}
use Rattle.session.proofs.Session.judge.Goals as goal

pub returns-clause-is : goal.returns-clause-is
unfolding judge
returns-clause-is c = rw c.judge_loaded-answer.ensures.is
