-- `members_of` meets its contract. The invariant: the array holds the first i records, and blank ones after them.
use Prim.Native.Nat.{◌-◌}
use mathlib.Core.Path.{◌≡◌}
use mathlib.Core.List.{◌++◌}
use lib.ListN.{replicate}
use Rattle.files.specs.Words.{each}
use Rattle.member.specs.Blank.{blank_member}
use Rattle.member.specs.Fields.{MOST_MEMBERS}
use Rattle.surveys.specs.SurveyFile.{record_at}
use Rattle.surveys.proofs.file.members_of.Given as goal

abbrev pub invariant-loop-i : goal.invariant-loop-i
invariant-loop-i l = l.members ≡ each (record_at l.bytes) l.i ++ replicate (MOST_MEMBERS - l.i) blank_member
