-- `tbr_yard` meets its contract: the answer of the survey's load picks the case of its definitions, and what is found in the yard is counted
-- and written.
use mathlib.Core.Path.{◌≡◌}
use Rattle.session.specs.Answers.{loaded}
use Rattle.session.specs.Calls.{new_session, load_survey}
use Rattle.exports.proofs.YardFiles.{refused, filled, yard_refused}
use Rattle.exports.proofs.yard.tbr_yard.Goals as goal
use Rattle.exports.proofs.yard.tbr_yard.Goals.{After-load_survey-loaded}

load : (c : After-load_survey-loaded) → loaded c.load_survey-loaded.result ≡ load_survey new_session c.args.survey.now
load c = rw c.new.ensures at c.load_survey-loaded.ensures

pub returns-in-Err-clause-is : goal.returns-in-Err-clause-is
returns-in-Err-clause-is c =
    (refused _ c.args.yard.now c.args.list.now _ (load (goal.at.returns-in-Err-clause-is c).After-load_survey-loaded) _ _ c.in-Err.is c.numbers_of.ensures).0

pub returns-in-Err-clause-list : goal.returns-in-Err-clause-list
returns-in-Err-clause-list c =
    (refused _ c.args.yard.now c.args.list.now _ (load (goal.at.returns-in-Err-clause-list c).After-load_survey-loaded) _ _ c.in-Err.is c.numbers_of.ensures).1

pub returns-in-Ok-clause-is : goal.returns-in-Ok-clause-is
returns-in-Ok-clause-is c =
    (filled _ c.args.yard.now c.args.list.now _ (load (goal.at.returns-in-Ok-clause-is c).After-load_survey-loaded) c.in_default.is _ _ _ c.in-Ok.ensures c.put_numbers.ensures c.numbers_of-in-Ok.ensures).0

pub returns-in-Ok-clause-list : goal.returns-in-Ok-clause-list
returns-in-Ok-clause-list c =
    (filled _ c.args.yard.now c.args.list.now _ (load (goal.at.returns-in-Ok-clause-list c).After-load_survey-loaded) c.in_default.is _ _ _ c.in-Ok.ensures c.put_numbers.ensures c.numbers_of-in-Ok.ensures).1

pub returns-in-Err-yard_answers-clause-is : goal.returns-in-Err-yard_answers-clause-is
returns-in-Err-yard_answers-clause-is c =
    (yard_refused _ c.args.yard.now c.args.list.now _ (load (goal.at.returns-in-Err-yard_answers-clause-is c).After-load_survey-loaded) c.in_default.is _ _ c.in-Err-yard_answers.ensures c.numbers_of-in-Err-yard_answers.ensures).0

pub returns-in-Err-yard_answers-clause-list : goal.returns-in-Err-yard_answers-clause-list
returns-in-Err-yard_answers-clause-list c =
    (yard_refused _ c.args.yard.now c.args.list.now _ (load (goal.at.returns-in-Err-yard_answers-clause-list c).After-load_survey-loaded) c.in_default.is _ _ c.in-Err-yard_answers.ensures c.numbers_of-in-Err-yard_answers.ensures).1
