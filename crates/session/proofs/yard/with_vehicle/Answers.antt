-- `with_vehicle` meets its contract: the next file is cut off what is left and judged.
use Prim.Native.Nat.{ℕ, ◌+◌, ◌-◌}
use mathlib.Core.List.{List}
use mathlib.Core.Path.{◌≡◌, sym, ap, ◌∙◌}
use lib.ListN.{take, drop}
use Rattle.std.proofs.lemmas.Result.{err_from_is_err_and}
use Rattle.vehicles.specs.VehicleFile.{blank_vehicle}
use Rattle.session.specs.Answers.{judge_answer}
use Rattle.session.specs.Loaded.{Session}
use Rattle.session.specs.Yard.{alone}
use Rattle.session.proofs.State.{alone_by_survey}
use Rattle.session.proofs.YardRuns.{file_within, judged_more, refused_more}
use Rattle.session.proofs.yard.with_vehicle.Goals as goal
use Rattle.session.proofs.yard.with_vehicle.Goals.{After-judge_vehicle}

-- the vehicle is judged alone, whatever vehicle is loaded
abbrev file : After-judge_vehicle → List ℕ
file c = let a = c.args in take (a.run.at + c.vehicle_length.result - a.run.at) (drop a.run.at a.yard.now)

judged : (c : After-judge_vehicle) → judge_answer c.judge_vehicle.result ≡ alone c.args.session.now (file c)
judged c =
    c.judge_vehicle.ensures ∙ ap (λ (s : Session). alone (record { survey = s.survey; vehicle = blank_vehicle }) (file c)) c.session.view_is ∙ alone_by_survey c.args.session.now (file c) blank_vehicle

pub slice_bounds-judge_vehicle-end : goal.slice_bounds-judge_vehicle-end
slice_bounds-judge_vehicle-end c = file_within _ _ _ _ c.requires.2 _ c.vehicle_length.ensures

pub returns-in_err-j : goal.returns-in_err-j
returns-in_err-j c =
    let p = err_from_is_err_and c.from_residual.result c.from_residual.ensures.1 in
    let own = judged (goal.at.returns-in_err-j c).After-judge_vehicle in
    rw (p.1, p.2) (refused_more _ _ _ _ c.requires.2 _ c.vehicle_length.ensures _ (sym (ap judge_answer c.in_err-j.was) ∙ own))

pub returns : goal.returns
returns c =
    let own = judged (goal.at.returns c).After-judge_vehicle in
    rw c.with_answer.ensures (judged_more _ _ _ _ c.requires.2 _ c.vehicle_length.ensures _ c.requires.1 (sym (ap judge_answer c.in_ok-j.was) ∙ own))
