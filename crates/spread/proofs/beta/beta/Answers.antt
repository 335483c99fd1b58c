-- `spread::beta::beta` meets its contract: the greatest over the divisor, times 10,000, rounded up once.
-- Assumes nothing.
use Prim.Native.Nat.{ℕ, ◌+◌, ◌*◌, ◌/◌, ◌%◌, ◌≤◌, ◌<◌}
use mathlib.Core.Path.{◌≡◌, ◌∙◌}
use native.Mathlib.Nat.{mod-lt, mul-pos}
use native.Mathlib.Omega.{arith}
use Rattle.section.specs.Greatest.{top}
use Rattle.spread.specs.Scaled.{Bounded, scaled_carried}
use Rattle.spread.specs.declared.shares.Shares.{Shares}
use Rattle.spread.proofs.Carried.{beta_whole, most_cap, most_fits, rounded_cap}
use Rattle.spread.proofs.beta.beta.Goals as goal

-- what was found is at most twice the loaded stringer's share
high : {s : Shares} (d E : ℕ) {found : ℕ} → Bounded s → 0 < d → found ≡ top (scaled_carried s d (E / d) (E % d)) (E / d + 8) → found ≤ 2 * (s.own * d)
high d E b p e = rw e (most_cap _ _ _ _ b (omega (arith, mod-lt E p)))

pub overflow_mul-greatest_carried : goal.overflow_mul-greatest_carried
overflow_mul-greatest_carried c =
    let b = c.shares_of-shares.ensures.bounded in
    omega (arith, most_fits _ _ b (omega arith) (high c.args.d.0 c.args.track.0 b (omega arith) c.greatest_carried.ensures))

pub returns-clause-is : goal.returns-clause-is
returns-clause-is c =
    let s = c.shares_of-shares in
    c.round_up.ensures.is ∙
    rw c.greatest_carried.ensures
    (beta_whole c.args.k c.args.d.0 c.args.track.0 s.result s.ensures.is s.ensures.bounded (omega arith))

pub returns-clause-cap : goal.returns-clause-cap
returns-clause-cap c =
    let b = c.shares_of-shares.ensures.bounded in
    rw c.round_up.ensures.is (rounded_cap _ _ b (mul-pos b.above_0 (omega arith)) (high c.args.d.0 c.args.track.0 b (omega arith) c.greatest_carried.ensures))
