-- `joined_member` meets its contract. The loop's invariant: the row holds the first f joined numbers, and 0 after them.
-- Assumes nothing.
use Prim.Native.Nat.{◌-◌}
use mathlib.Core.Path.{◌≡◌}
use mathlib.Core.List.{◌++◌}
use lib.ListN.{replicate}
use Rattle.member.specs.Fields.{FIELDS}
use Rattle.files.specs.Words.{each}
use Rattle.join.specs.Join.{joined_field}
use Rattle.join.proofs.record.joined_member.Given as goal

abbrev pub invariant-loop-f : goal.invariant-loop-f
invariant-loop-f l = l.fields ≡ each (joined_field l.m l.n) l.f ++ replicate (FIELDS - l.f) 0
