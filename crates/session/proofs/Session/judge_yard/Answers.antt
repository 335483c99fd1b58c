-- `Session::judge_yard` meets its contract: the session is handed back as it came.
use Rattle.session.specs.Yard.{judge_yard}
use Rattle.session.proofs.Session.judge_yard.Goals as goal

pub returns-clause-is : goal.returns-clause-is
unfolding judge_yard
returns-clause-is c = rw c.judge_into-answer.ensures.is
