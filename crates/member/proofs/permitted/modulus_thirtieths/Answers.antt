-- `member::permitted::modulus_thirtieths` meets its contract: the code picks the section, whose sizes its ranges bound.
-- Assumes nothing.
use Prim.Native.Nat.{◌≤◌}
use mathlib.Core.Logic.{inl, inr}
use native.Mathlib.Omega.{arith}
use borrow.Author.Tests.{eq-eqb, ne_eqb}
use Rattle.section.specs.Fraction.{over, whole, tenths}
use Rattle.section.proofs.Order.{in_smaller_unit}
use Rattle.section.proofs.Sections.{tiered_modulus_cap}
use Rattle.member.specs.Fields.{CODE, field}
use Rattle.member.specs.PermittedLoad.{section_modulus}
use Rattle.member.proofs.Allowed.{log_sizes, crescent_sizes, sawn_sizes, code_range, code_in_bending}
use Rattle.member.proofs.permitted.modulus_thirtieths.Goals as goal
use Rattle.member.proofs.permitted.modulus_thirtieths.Goals.{After-tiered_modulus, In-Dowels}

pub section-requires : goal.section-requires
section-requires c = code_range _ _ c.requires.0.section

pub tiered_modulus-requires : goal.tiered_modulus-requires
tiered_modulus-requires c = let s = c.in-Log.ensures in omega (arith, log_sizes c.requires.0 s.0, s)

modulus-cap : (c : After-tiered_modulus) → c.tiered_modulus.result ≤ 17472
modulus-cap c =
    let s = c.in-Log.ensures in
    let z = log_sizes c.requires.0 s.0 in
    omega (arith, tiered_modulus_cap c.in-Log.log.diameter.0 c.in-Log.log.rot.0 c.in-Log.log.tiers (omega (arith, z, s)) (omega (arith, z, s)))

pub overflow_mul-result : goal.overflow_mul-result
overflow_mul-result c = omega (arith, modulus-cap c)

pub returns-in-Log-clause-is : goal.returns-in-Log-clause-is
unfolding section_modulus over whole
returns-in-Log-clause-is c =
    let s = c.in-Log.ensures in
    rw (eq-eqb _ _ s.0, ← s.1, ← s.2, ← s.3) (omega (arith, c.tiered_modulus.ensures))

pub returns-in-Log-clause-cap : goal.returns-in-Log-clause-cap
returns-in-Log-clause-cap c = omega (arith, modulus-cap c)

pub tiered_crescent-requires : goal.tiered_crescent-requires
tiered_crescent-requires c = let s = c.in-Crescent.ensures in omega (arith, crescent_sizes c.requires.0 s.0, s)

pub returns-in-Crescent-clause-is : goal.returns-in-Crescent-clause-is
unfolding section_modulus over tenths
returns-in-Crescent-clause-is c =
    let s = c.in-Crescent.ensures in
    rw (ne_eqb (field c.args.m CODE) 1 (omega (arith, s.0)), eq-eqb _ _ s.0, ← s.1, ← s.2, ← s.3) (omega (arith, c.tiered_crescent.ensures.is))

pub sawn_modulus_sixths-requires : goal.sawn_modulus_sixths-requires
sawn_modulus_sixths-requires c = let s = c.in-Sawn.ensures in omega (arith, sawn_sizes c.requires.0 s.0, s)

pub returns-in-Sawn-clause-is : goal.returns-in-Sawn-clause-is
unfolding section_modulus
returns-in-Sawn-clause-is c =
    let s = c.in-Sawn.ensures in
    rw (ne_eqb (field c.args.m CODE) 1 (omega (arith, s.0)), ne_eqb (field c.args.m CODE) 5 (omega (arith, s.0)))
    (in_smaller_unit 5 _ 6 (rw (s.1, s.2, s.3, s.4, s.5) at c.sawn_modulus_sixths.ensures.is))

-- no other code is one in bending
no_other : (c : In-Dowels) → 3 ≤ field c.args.m CODE → field c.args.m CODE ≤ 4 → ⊥
no_other c h l = code_in_bending c.requires.0 c.requires.1 (λ e. omega arith) (λ e. omega arith) (λ e. omega arith)

pub unreachable-requires : goal.unreachable-requires
unreachable-requires c =
    elim c.in-Dowels.is [
      | inl (x, e) ↦ no_other c (omega (arith, rw e at c.section.ensures)) (omega (arith, rw e at c.section.ensures))
      | inr (x, y, e) ↦ no_other c (omega (arith, rw e at c.section.ensures)) (omega (arith, rw e at c.section.ensures))
    ]
