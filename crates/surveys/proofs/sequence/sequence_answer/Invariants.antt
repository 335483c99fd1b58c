-- `sequence_answer` meets its contract. The loop's invariant: none of the first i records stands before its predecessor.
use Rattle.std.specs.Prelude.{Ok}
use Prim.Native.Nat.{◌≤◌}
use mathlib.Core.Path.{◌≡◌}
use Rattle.files.specs.Reading.{first_fault}
use Rattle.surveys.specs.SurveyFile.{sequence_fault}
use Rattle.files.specs.Words.{each}
use Rattle.surveys.proofs.sequence.sequence_answer.Given as goal

abbrev pub invariant-loop-i : goal.invariant-loop-i
invariant-loop-i l = (1 ≤ l.i) × (first_fault 1 (each (sequence_fault l.bytes) l.i) ≡ Ok tt)
