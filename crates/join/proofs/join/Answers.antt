-- `join` meets its contract: where no test fails the joined survey is put, else the output stays.
-- Assumes nothing.
use Rattle.std.specs.Prelude.{Ok, Err}
use Prim.Native.Nat.{◌+◌, ◌*◌}
use Rattle.std.proofs.lemmas.Result.{err_from_is_err_and}
use mathlib.Core.Path.{◌≡◌, sym, ap, ◌∙◌}
use native.Mathlib.Omega.{arith}
use lib.Dec.{leb}
use lib.ListN.{length}
use Rattle.files.specs.Reading.{test}
use Rattle.files.proofs.Faults.{taken_ok, taken_err}
use Rattle.surveys.specs.SurveyFile.{SURVEY_HEADER, RECORD}
use Rattle.join.specs.Join.{output}
use Rattle.surveys.proofs.Surveys.{taken_allowed}
use Rattle.join.proofs.Pairs.{pair_count, length_output, Passed, all_passed, written_given, out_written, refused}
use Rattle.join.proofs.join.Goals as goal
use Rattle.join.proofs.join.Goals.{After-count_of, In_ok-unless}

pub returns-in_err-read_survey : goal.returns-in_err-read_survey
returns-in_err-read_survey c =
    let p = err_from_is_err_and c.from_residual.result c.from_residual.ensures.1 in
    let g = refused _ _ _ _ (p.1 ∙ ap Err p.2) (rw (taken_err _ _ _ (sym c.in_err-read_survey.ensures))) in
    record { is = g.0; out = g.1 }

pub returns-in_err-read_survey-2 : goal.returns-in_err-read_survey-2
returns-in_err-read_survey-2 c =
    let p = err_from_is_err_and c.from_residual-in_err-read_survey-2.result c.from_residual-in_err-read_survey-2.ensures.1 in
    let a = taken_ok _ _ _ (sym c.in_ok-read_survey.ensures) in
    let g = refused _ _ _ _ (p.1 ∙ ap Err p.2) (rw (a.0, taken_err _ _ _ (sym c.in_err-read_survey-2.ensures))) in
    record { is = g.0; out = g.1 }

pub pair_answer-requires : goal.pair_answer-requires
pair_answer-requires c =
    let a = taken_ok _ _ _ (sym c.in_ok-read_survey.ensures) in
    let b = taken_ok _ _ _ (sym c.in_ok-read_survey-2.ensures) in
    (taken_allowed _ a.0, taken_allowed _ b.0)

pub returns-in_err-pair_answer : goal.returns-in_err-pair_answer
returns-in_err-pair_answer c =
    let p = err_from_is_err_and c.from_residual-in_err-pair_answer.result c.from_residual-in_err-pair_answer.ensures.1 in
    let a = taken_ok _ _ _ (sym c.in_ok-read_survey.ensures) in
    let b = taken_ok _ _ _ (sym c.in_ok-read_survey-2.ensures) in
    let g = refused _ _ _ _ (p.1 ∙ ap Err p.2) (rw (a.0, b.0, sym c.in_err-pair_answer.ensures)) in
    record { is = g.0; out = g.1 }

pub count_of-requires : goal.count_of-requires
count_of-requires c =
    let a = taken_allowed c.args.first.now (taken_ok _ _ _ (sym c.in_ok-read_survey.ensures)).0 in
    omega (arith, a.size)

-- the length of the joined survey, as the code works it out
long : (c : After-count_of) → let a = c.args in SURVEY_HEADER + RECORD * c.count_of.result ≡ length (output a.first.now a.second.now)
long c = rw (c.count_of.ensures.0, length_output)

-- no test fails
passed : (c : In_ok-unless) → let a = c.args in Passed a.first.now a.second.now (length a.out.now)
passed c =
    let a = taken_ok _ _ _ (sym c.in_ok-read_survey.ensures) in
    let b = taken_ok _ _ _ (sym c.in_ok-read_survey-2.ensures) in
    let enough : test 14 (leb (length (output c.args.first.now c.args.second.now)) (length c.args.out.now)) ≡ Ok tt =
    rw (length_output c.args.first.now c.args.second.now, ← c.count_of.ensures.0) (sym c.in_ok-unless.ensures) in
    all_passed _ _ _ (rw (a.0, b.0, sym c.in_ok-pair_answer.ensures, enough))

pub returns-in_err-unless : goal.returns-in_err-unless
returns-in_err-unless c =
    let p = err_from_is_err_and c.from_residual-in_err-unless.result c.from_residual-in_err-unless.ensures.1 in
    let a = taken_ok _ _ _ (sym c.in_ok-read_survey.ensures) in
    let b = taken_ok _ _ _ (sym c.in_ok-read_survey-2.ensures) in
    let short = rw (long (goal.at.returns-in_err-unless c).After-count_of) at c.in_err-unless.ensures in
    let g = refused _ _ _ _ (p.1 ∙ ap Err p.2) (rw (a.0, b.0, sym c.in_ok-pair_answer.ensures, sym short)) in
    record { is = g.0; out = g.1 }

pub put_joined-requires : goal.put_joined-requires
put_joined-requires c =
    let p = passed (goal.at.put_joined-requires c).In_ok-unless in
    let first = c.args.first.now in
    let second = c.args.second.now in
    let a = taken_allowed first p.first_taken in
    let b = taken_allowed second p.second_taken in
    (omega (arith, a.size), omega (arith, b.size, pair_count first second p.pair), omega (arith, p.room_enough, length_output first second))

pub returns : goal.returns
returns c =
    let p = passed (goal.at.returns c).In_ok-unless in
    record {
      is = written_given _ _ _ p c.put_joined.ensures.length;
      out = c.put_joined.ensures.out ∙ sym (out_written _ _ _ p);
    }
