-- `spread::beta::Wheels::carried` meets its contract: the sum as it is written, of shares that are each at most the loaded stringer's.
-- Assumes nothing.
use Prim.Native.Nat.{◌-◌}
use native.Mathlib.Omega.{arith}
use Rattle.spread.specs.Scaled.{scaled_carried}
use Rattle.spread.proofs.Carried.{share_high}
use Rattle.spread.proofs.beta.Wheels.carried.Goals as goal

pub overflow_mul-first : goal.overflow_mul-first
overflow_mul-first c = let w = c.args.self in omega (arith, share_high {x = w.d} c.abs_diff.result w.placed.0 c.share_at.ensures w.placed.1)

pub overflow_mul-near : goal.overflow_mul-near
overflow_mul-near c = let w = c.args.self in omega (arith, share_high {x = w.d - w.r} c.abs_diff-2.result w.placed.0 c.share_at-2.ensures (omega arith))

pub overflow_mul-far : goal.overflow_mul-far
overflow_mul-far c = let w = c.args.self in omega (arith, share_high {x = w.r} c.abs_diff-3.result w.placed.0 c.share_at-3.ensures (omega arith))

pub overflow_add-result : goal.overflow_add-result
overflow_add-result c =
    let w = c.args.self in
    omega (
      arith,
      share_high {x = w.d - w.r} c.abs_diff-2.result w.placed.0 c.share_at-2.ensures (omega arith),
      share_high {x = w.r} c.abs_diff-3.result w.placed.0 c.share_at-3.ensures (omega arith),
    )

pub overflow_add-result-2 : goal.overflow_add-result-2
overflow_add-result-2 c =
    let w = c.args.self in
    omega (
      arith,
      share_high {x = w.d} c.abs_diff.result w.placed.0 c.share_at.ensures w.placed.1,
      share_high {x = w.d - w.r} c.abs_diff-2.result w.placed.0 c.share_at-2.ensures (omega arith),
      share_high {x = w.r} c.abs_diff-3.result w.placed.0 c.share_at-3.ensures (omega arith),
    )

pub returns : goal.returns
unfolding scaled_carried
returns c = cc
