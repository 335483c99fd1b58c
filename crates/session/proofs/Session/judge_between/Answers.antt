-- `Session::judge_between` meets its contract: the answer is that for the loaded vehicle.
use Rattle.session.specs.Readings.{judge_between, bounds_list}
use Rattle.session.proofs.Session.judge_between.Goals as goal

pub returns-clause-is : goal.returns-clause-is
unfolding judge_between
returns-clause-is c = rw (← c.self.view_is, c.judge_between-answer.ensures.is)

pub returns-clause-list : goal.returns-clause-list
unfolding bounds_list
returns-clause-list c = rw (← c.self.view_is) c.judge_between-answer.ensures.list
