-- The members' loads on the bytes of two files: load, load and judge from a new session, with the lent list. Document 01, 'Calls':
-- "fills a lent list of u64 with permitted load and vehicle load, two numbers a member; entries beyond are kept".
use Rattle.std.specs.Prelude.{ℕ, List}
use Rattle.session.specs.Answers.{Answer, Outcome}
use Rattle.session.specs.Calls.{load_files, judge, judge_list, unless_refused, and_then}
use Rattle.judgement.specs.Numbers.{numbers_of}
use Rattle.exports.specs.declared.Loads.{Loads}

-- both loads, then judge with the lent list
abbrev pub judge_with : (survey vehicle list : List ℕ) → Outcome
judge_with survey vehicle list = and_then (load_files survey vehicle) (λ s. judge s list)

-- the numbers of an answer, and the count of members where it is no refusal
abbrev pub loads_of : Answer → (count : ℕ) → Loads
loads_of a count = record { judged = numbers_of a; members = unless_refused a 0 count }

unfoldable pub member_loads : (survey vehicle list : List ℕ) → Loads
member_loads survey vehicle list =
    loads_of (judge_with survey vehicle list).answer (judge_with survey vehicle list).session.survey.count

-- what the lent list then holds: "All refusals leave state and list as found."
unfoldable pub member_list : (survey vehicle list : List ℕ) → List ℕ
member_list survey vehicle list =
    unless_refused (load_files survey vehicle).answer list (judge_list (load_files survey vehicle).session list)
