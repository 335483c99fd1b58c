-- `section::fraction::quotient` meets its contract: the quotient of a product by parts.
-- Assumes nothing.
use mathlib.Core.Path.{◌≡◌}
use Prim.Native.Nat.{◌*◌, ◌/◌, ◌%◌}
use native.Mathlib.Omega.{arith}
use Rattle.section.specs.Fraction.{over, floor}
use Rattle.section.proofs.Quotient.{by_parts, first_part, both_parts}
use Rattle.section.proofs.fraction.quotient.Goals as goal

whole_part : (c : goal.After-round_down) → c.round_down.result ≡ c.args.n / c.args.d
unfolding over floor
whole_part c = c.round_down.ensures.is

rest : (c : goal.After-round_down-2) → let a = c.args in c.round_down-2.result ≡ a.n % a.d * a.k / a.d
unfolding over floor
rest c = c.round_down-2.ensures.is

pub overflow_mul-result : goal.overflow_mul-result
overflow_mul-result c =
    let a = c.args in
    rw (whole_part c) (omega (arith, first_part a.n a.k a.d c.requires.1))

pub overflow_add-result : goal.overflow_add-result
overflow_add-result c =
    let a = c.args in
    rw (whole_part c.before, rest c) (omega (arith, both_parts a.n a.k a.d c.requires.1))

pub returns : goal.returns
returns c =
    let a = c.args in
    rw (whole_part c.before, rest c) (by_parts a.n a.k a.d c.requires.0)
