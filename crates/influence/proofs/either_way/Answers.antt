-- `influence::either_way` meets its contract: with the apex in the middle both ends see the same triangle.
-- Assumes nothing.
use Prim.Native.Nat.{◌-◌}
use borrow.Author.Tests.{eqb-true}
use mathlib.Core.Path.{◌≡◌, sym}
use native.Mathlib.Omega.{arith}
use Rattle.influence.specs.Rows.{on}
use Rattle.influence.specs.Scaled.{apex_top, scaled_greatest}
use Rattle.influence.proofs.Steps.{higher}
use Rattle.influence.proofs.either_way.Goals as goal

pub returns-then-eq : goal.returns-then-eq
unfolding scaled_greatest
returns-then-eq c =
    let line = c.args.line in
    let same : line.base.0 - line.apex.0 ≡ line.apex.0 = omega (arith, eqb-true _ _ (sym c.if-eq.ensures)) in
    rw (same, c.apex_top-top.ensures) (omega arith)

pub returns : goal.returns
unfolding scaled_greatest
returns c =
    let line = c.args.line in
    let other : c.apex_top.result.0 ≡ on (λ U P. apex_top U (U - P)) line c.args.axles = cc in
    rw (c.max.ensures, ← c.apex_top-top.ensures, ← other) (higher _ _)
