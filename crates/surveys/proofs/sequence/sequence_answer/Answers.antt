-- `sequence_answer` meets its contract. The loop's invariant: none of the first i records stands before its predecessor.
use Prim.Native.Nat.{◌≤◌}
use mathlib.Core.Path.{◌≡◌, refl, sym, ap, ◌∙◌}
use mathlib.Core.Bool.{Bool, not}
use native.Mathlib.Omega.{arith}
use Rattle.files.specs.Header.{version_of}
use Rattle.files.specs.Reading.{◌unless◌}
use Rattle.surveys.specs.SurveyFile.{SEQUENCE_FROM, sequence_fault}
use Rattle.files.proofs.Faults.{clear_more, fault_at}
use Rattle.surveys.proofs.Sequences.{fault_is, free_order, ordered_version}
use Rattle.surveys.proofs.sequence.sequence_answer.Goals as goal
use Rattle.surveys.proofs.sequence.sequence_answer.Goals.{Else-word_at-lt-SEQUENCE_FROM}

pub returns-then-word_at-lt-SEQUENCE_FROM : goal.returns-then-word_at-lt-SEQUENCE_FROM
returns-then-word_at-lt-SEQUENCE_FROM c = sym (free_order _ _ (omega (arith, c.word_at.ensures)))

-- past the first test the version asks for the order
ordered : (c : Else-word_at-lt-SEQUENCE_FROM) → SEQUENCE_FROM ≤ version_of c.args.bytes.now
ordered c = omega (arith, c.word_at.ensures)

pub loop-i-init : goal.loop-i-init
unfolding sequence_fault
loop-i-init c = (omega arith, refl)

pub is_before-requires : goal.is_before-requires
is_before-requires c = (omega arith, omega arith)

pub loop-i-preserved : goal.loop-i-preserved
loop-i-preserved c =
    let inv = c.loop-i.invariant in
    let good = fault_is _ c.loop-i.i inv.0 c.is_before.ensures ∙ ap (λ (b : Bool). 16 unless not b) c.if-is_before.false in
    (omega arith, clear_more (sequence_fault _) 1 c.loop-i.i inv.1 good)

pub returns : goal.returns
returns c =
    let ended : c.loop-i.i ≡ c.args.count = omega arith in
    sym (rw ended at c.loop-i.invariant.1) ∙ sym (ordered_version _ _ (ordered (goal.at.returns c).Else-word_at-lt-SEQUENCE_FROM))

pub returns-then-is_before : goal.returns-then-is_before
returns-then-is_before c =
    let inv = c.loop-i.invariant in
    let bad = fault_is _ c.loop-i.i inv.0 c.is_before.ensures ∙ ap (λ (b : Bool). 16 unless not b) c.if-is_before.true in
    let count = c.args.count in
    rw c.at.ensures (sym (ordered_version _ count (ordered (goal.at.returns-then-is_before c).Else-word_at-lt-SEQUENCE_FROM) ∙ fault_at (sequence_fault _) 1 c.loop-i.i count 16 (omega arith) inv.1 bad (omega arith)))
