-- `judge_each` meets its contract: each turn adds a vehicle to what is kept, and a refusal stays.
use Prim.Native.Nat.{ℕ, ◌+◌, ◌-◌}
use mathlib.Core.Path.{◌≡◌, subst}
use native.Mathlib.Omega.{arith}
use Rattle.std.proofs.lemmas.Result.{err_from_is_err_and}
use Rattle.session.specs.YardRun.{Going, FirstRefused}
use Rattle.session.proofs.YardRuns.{going_none, refusal_stays}
use Rattle.session.proofs.yard.judge_each.Goals as goal

pub loop-i-init : goal.loop-i-init
loop-i-init c = let n = c.no_vehicle-run.ensures in going_none _ _ _ c.requires.1 n.0 n.1 n.2

pub returns-in_err-run : goal.returns-in_err-run
returns-in_err-run c =
    let p = err_from_is_err_and c.from_residual.result c.from_residual.ensures.1 in
    let i = c.loop-i.i in
    let count : i + 1 + (c.args.count - (i + 1)) ≡ c.args.count = omega arith in
    rw (p.1, p.2) (subst (λ (n : ℕ). FirstRefused c.args.session.now c.args.yard.now n c.in_err-run.field-0.0) count (refusal_stays c.args.session.now c.args.yard.now (i + 1) (c.args.count - (i + 1)) c.in_err-run.field-0.0 c.in_err-run.ensures))

pub returns : goal.returns
returns c =
    let all : c.loop-i.i ≡ c.args.count = omega arith in
    subst (λ (n : ℕ). Going c.args.session.now c.args.yard.now n c.loop-i.run) all c.loop-i.invariant
