-- `words` meets its contract. The invariant: the row holds the first i words, and 0 after them.
use Prim.Native.Nat.{◌-◌}
use mathlib.Core.Path.{◌≡◌}
use mathlib.Core.List.{◌++◌}
use lib.ListN.{replicate}
use Rattle.member.specs.Fields.{FIELDS}
use Rattle.files.specs.Words.{words}
use Rattle.files.proofs.words.words.Given as goal

abbrev pub invariant-loop-i : goal.invariant-loop-i
invariant-loop-i l = l.row ≡ words l.bytes l.at l.i ++ replicate (FIELDS - l.i) 0
