-- `put_joined` meets its contract. The loop's invariant: behind the header the first i joined records are put.
-- Assumes nothing.
use Prim.Native.Nat.{◌*◌}
use mathlib.Core.Path.{◌≡◌}
use lib.Seq.{paste}
use Rattle.surveys.specs.SurveyFile.{SURVEY_HEADER, RECORD}
use Rattle.join.specs.Join.{joined_at}
use Rattle.join.proofs.Surveys.{records}
use Rattle.join.proofs.put_joined.Given as goal

abbrev pub invariant-loop-i : goal.invariant-loop-i
invariant-loop-i l = l.out ≡ paste l.initial.out SURVEY_HEADER (records (joined_at l.first l.second) l.i) (RECORD * l.i)
