-- The loop's invariant: the first i bytes are put, and what is left of the number has the bytes that are left.
use Prim.Native.Nat.{◌-◌}
use mathlib.Core.Path.{◌≡◌}
use lib.ListN.{drop}
use lib.Seq.{paste}
use Rattle.files.specs.Words.{bytes_of}
use Rattle.files.proofs.output.put_number.Given as goal

abbrev pub invariant-loop-i : goal.invariant-loop-i
invariant-loop-i l = (l.out ≡ paste l.initial.out l.at (bytes_of l.width l.number) l.i) × (bytes_of (l.width - l.i) l.rest ≡ drop l.i (bytes_of l.width l.number))
