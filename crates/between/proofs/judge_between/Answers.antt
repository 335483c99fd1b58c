-- `between::judge_between` meets its contract: the tests come to those of the definition, and where none fails the surveys are allowed, as
-- long as each other, and the list has room.
-- Assumes nothing.
use Rattle.std.proofs.lemmas.Result.{err_from_is_err_and}
use mathlib.Core.Path.{sym, ◌∙◌}
use native.Mathlib.Omega.{arith}
use lib.ListN.{length}
use Rattle.files.proofs.Faults.{taken_ok, taken_err}
use Rattle.between.proofs.Pairs.{taken_survey_allowed, read_count, read_few, read_order, Passed, all_passed, same_count, verdict_given, list_filled, refused}
use Rattle.between.proofs.judge_between.Goals as goal
use Rattle.between.proofs.judge_between.Goals.{In_ok-unless-2}

-- no test fails
passed : (c : In_ok-unless-2) → let a = c.args in Passed a.v a.first.now a.second.now (length a.list.now)
passed c =
    let a = taken_ok _ _ _ (sym c.in_ok-first_survey.ensures) in
    let b = taken_ok _ _ _ (sym c.in_ok-second_survey.ensures) in
    let o = read_order _ _ a b ∙ sym c.in_ok-order_answer.ensures in
    let enough = rw (← a.1, read_count _ a.0) at c.in_ok-unless-2.ensures in
    all_passed _ _ _ _ (rw (sym c.in_ok-unless.ensures, a.0, b.0, o, sym enough))

pub returns-in_err-unless : goal.returns-in_err-unless
returns-in_err-unless c =
    let p = err_from_is_err_and c.from_residual.result c.from_residual.ensures.1 in
    let g = refused _ _ _ _ _ (rw (sym c.in_err-unless.ensures)) in
    record { is = rw (p.1, p.2) g.0; list = g.1 }

pub returns-in_err-first_survey : goal.returns-in_err-first_survey
returns-in_err-first_survey c =
    let p = err_from_is_err_and c.from_residual-in_err-first_survey.result c.from_residual-in_err-first_survey.ensures.1 in
    let g = refused _ _ _ _ _ (rw (sym c.in_ok-unless.ensures, taken_err _ _ _ (sym c.in_err-first_survey.ensures))) in
    record { is = rw (p.1, p.2) g.0; list = g.1 }

pub returns-in_err-second_survey : goal.returns-in_err-second_survey
returns-in_err-second_survey c =
    let p = err_from_is_err_and c.from_residual-in_err-second_survey.result c.from_residual-in_err-second_survey.ensures.1 in
    let a = taken_ok _ _ _ (sym c.in_ok-first_survey.ensures) in
    let g = refused _ _ _ _ _ (rw (sym c.in_ok-unless.ensures, a.0, taken_err _ _ _ (sym c.in_err-second_survey.ensures))) in
    record { is = rw (p.1, p.2) g.0; list = g.1 }

pub order_answer-requires : goal.order_answer-requires
order_answer-requires c =
    let a = taken_ok _ _ _ (sym c.in_ok-first_survey.ensures) in
    rw (← a.1) (read_few c.args.first.now)

pub returns-in_err-order_answer : goal.returns-in_err-order_answer
returns-in_err-order_answer c =
    let p = err_from_is_err_and c.from_residual-in_err-order_answer.result c.from_residual-in_err-order_answer.ensures.1 in
    let a = taken_ok _ _ _ (sym c.in_ok-first_survey.ensures) in
    let b = taken_ok _ _ _ (sym c.in_ok-second_survey.ensures) in
    let o = read_order _ _ a b ∙ sym c.in_err-order_answer.ensures in
    let g = refused _ _ _ _ _ (rw (sym c.in_ok-unless.ensures, a.0, b.0, o)) in
    record { is = rw (p.1, p.2) g.0; list = g.1 }

pub overflow_mul-first_survey : goal.overflow_mul-first_survey
overflow_mul-first_survey c =
    let a = taken_ok _ _ _ (sym c.in_ok-first_survey.ensures) in
    let few = rw a.1 at (read_few c.args.first.now) in
    record { fits = omega arith }

pub returns-in_err-unless-2 : goal.returns-in_err-unless-2
returns-in_err-unless-2 c =
    let p = err_from_is_err_and c.from_residual-in_err-unless-2.result c.from_residual-in_err-unless-2.ensures.1 in
    let a = taken_ok _ _ _ (sym c.in_ok-first_survey.ensures) in
    let b = taken_ok _ _ _ (sym c.in_ok-second_survey.ensures) in
    let o = read_order _ _ a b ∙ sym c.in_ok-order_answer.ensures in
    let short = rw (← a.1, read_count _ a.0) at c.in_err-unless-2.ensures in
    let g = refused _ _ _ _ _ (rw (sym c.in_ok-unless.ensures, a.0, b.0, o, sym short)) in
    record { is = rw (p.1, p.2) g.0; list = g.1 }

pub fill-requires : goal.fill-requires
fill-requires c =
    let a = taken_ok _ _ _ (sym c.in_ok-first_survey.ensures) in
    let b = taken_ok _ _ _ (sym c.in_ok-second_survey.ensures) in
    let p = passed (goal.at.fill-requires c).In_ok-unless-2 in (
      rw (← a.1) (taken_survey_allowed _ p.first_taken),
      rw (← b.1) (taken_survey_allowed _ p.second_taken),
      c.requires p.vehicle,
      rw (← a.1, ← b.1) (same_count _ _ _ _ p),
      rw (← a.1, read_count _ p.first_taken) p.room_enough,
    )

pub returns : goal.returns
returns c =
    let a = taken_ok _ _ _ (sym c.in_ok-first_survey.ensures) in
    let b = taken_ok _ _ _ (sym c.in_ok-second_survey.ensures) in
    let p = passed (goal.at.returns c).In_ok-unless-2 in
    record {
      is = verdict_given _ _ _ _ p (rw (← a.1, ← b.1) at c.fill.ensures.is);
      list = list_filled _ _ _ _ p (rw (← a.1, ← b.1) at c.fill.ensures.list);
    }
