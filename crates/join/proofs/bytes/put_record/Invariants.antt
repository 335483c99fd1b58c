-- `put_record` meets its contract. The loop's invariant: the first f numbers are put.
-- Assumes nothing.
use Prim.Native.Nat.{◌*◌}
use mathlib.Core.Path.{◌≡◌}
use lib.Seq.{paste}
use Rattle.join.proofs.Surveys.{numbers}
use Rattle.join.proofs.bytes.put_record.Given as goal

abbrev pub invariant-loop-f : goal.invariant-loop-f
invariant-loop-f l = l.out ≡ paste l.initial.out l.at (numbers l.m l.f) (2 * l.f)
