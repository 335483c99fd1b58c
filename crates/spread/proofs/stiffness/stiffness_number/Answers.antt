-- `spread::stiffness::stiffness_number` meets its contract: the quotient by parts, rounded half up and capped.
-- Assumes nothing.
use Prim.Native.Nat.{ℕ, ◌*◌, ◌≤◌}
use mathlib.Core.Path.{◌≡◌, sym}
use native.Mathlib.Omega.{arith}
use borrow.Author.Tests.{eq-eqb}
use Rattle.section.specs.Fraction.{over, floor}
use Rattle.section.proofs.Quotient.{quotient_cap}
use Rattle.spread.specs.Stiffness.{stiffness_number}
use Rattle.spread.proofs.StiffnessNumber.{Caps, caps, stiffness_whole}
use Rattle.spread.proofs.stiffness.stiffness_number.Goals as goal

pub returns-then-deck-eq0-clause-is : goal.returns-then-deck-eq0-clause-is
unfolding stiffness_number over
returns-then-deck-eq0-clause-is c = rw (eq-eqb _ _ c.if-deck-eq0.true)

bounds : (d i l j : ℕ) → (d ≤ 100) × (i ≤ 518400000) × (100 ≤ l) × (l ≤ 5000) × (j ≤ 4800000) → ¬ (j ≡ 0) → Caps d i l j
bounds d i l j h some = caps d i l j (omega arith) (omega arith) (omega arith) (omega arith) (omega arith) (omega arith)

pub overflow_mul-front-4 : goal.overflow_mul-front-4
overflow_mul-front-4 c = let a = c.args in omega (arith, bounds a.d.0 a.inertia a.l.0 a.deck c.requires c.if-deck-eq0.false)

pub overflow_mul-divisor-3 : goal.overflow_mul-divisor-3
overflow_mul-divisor-3 c = let a = c.args in omega (arith, bounds a.d.0 a.inertia a.l.0 a.deck c.requires c.if-deck-eq0.false)

pub overflow_mul-front-5 : goal.overflow_mul-front-5
overflow_mul-front-5 c = let a = c.args in omega (arith, bounds a.d.0 a.inertia a.l.0 a.deck c.requires c.if-deck-eq0.false)

pub quotient-doubled-requires : goal.quotient-doubled-requires
quotient-doubled-requires c = let a = c.args in omega (arith, bounds a.d.0 a.inertia a.l.0 a.deck c.requires c.if-deck-eq0.false)

pub overflow_add-doubled : goal.overflow_add-doubled
overflow_add-doubled c =
    let a = c.args in
    let b = bounds a.d.0 a.inertia a.l.0 a.deck c.requires c.if-deck-eq0.false in
    omega (arith, c.quotient-doubled.ensures, quotient_cap (1000 * (8 * (a.d.0 * a.d.0 * a.d.0) * a.inertia)) 20 _ b.divisor_low, b.front)

pub returns-clause-is : goal.returns-clause-is
unfolding over floor
returns-clause-is c =
    let a = c.args in
    rw (c.min.ensures, c.round_down.ensures.is, c.quotient-doubled.ensures)
    (sym (stiffness_whole a.d.0 a.inertia a.l.0 a.deck (omega arith) (omega arith)))
