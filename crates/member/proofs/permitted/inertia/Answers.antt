-- `member::permitted::inertia` meets its contract: the code picks the section, whose sizes its ranges bound.
-- Assumes nothing.
use Prim.Native.Nat.{◌≤◌}
use mathlib.Core.Logic.{inl, inr}
use native.Mathlib.Omega.{arith}
use borrow.Author.Tests.{eq-eqb, ne_eqb}
use Rattle.member.specs.Fields.{CODE, field}
use Rattle.member.specs.PermittedLoad.{section_inertia}
use Rattle.member.proofs.Allowed.{log_sizes, sawn_sizes, code_range, code_of_close}
use Rattle.member.proofs.permitted.inertia.Goals as goal
use Rattle.member.proofs.permitted.inertia.Goals.{In-Crescent}

pub section-requires : goal.section-requires
section-requires c = code_range _ _ c.requires.0.section

pub tiered_inertia-requires : goal.tiered_inertia-requires
tiered_inertia-requires c = let s = c.in-Log.ensures in omega (arith, log_sizes c.requires.0 s.0, s)

pub returns-in-Log-clause-is : goal.returns-in-Log-clause-is
unfolding section_inertia
returns-in-Log-clause-is c =
    let s = c.in-Log.ensures in
    rw (eq-eqb _ _ s.0) (rw (s.1, s.2, s.3) at c.tiered_inertia.ensures.is)

pub sawn_inertia-requires : goal.sawn_inertia-requires
sawn_inertia-requires c = let s = c.in-Sawn.ensures in omega (arith, sawn_sizes c.requires.0 s.0, s)

pub returns-in-Sawn-clause-is : goal.returns-in-Sawn-clause-is
unfolding section_inertia
returns-in-Sawn-clause-is c =
    let s = c.in-Sawn.ensures in
    rw (ne_eqb (field c.args.m CODE) 1 (omega (arith, s.0))) (rw (s.1, s.2, s.3, s.4, s.5) at c.sawn_inertia.ensures.is)

-- no other code is one of a closely spaced stringer
no_other : (c : In-Crescent) → 3 ≤ field c.args.m CODE → ⊥
no_other c h = code_of_close c.requires.0 c.requires.1 (λ e. omega arith) (λ e. omega arith)

pub unreachable-requires : goal.unreachable-requires
unreachable-requires c =
    elim c.in-Crescent.is [
      | inl (x, e) ↦ no_other c (omega (arith, rw e at c.section.ensures))
      | inr (inl (x, e)) ↦ no_other c (omega (arith, rw e at c.section.ensures))
      | inr (inr (x, y, e)) ↦ no_other c (omega (arith, rw e at c.section.ensures))
    ]
