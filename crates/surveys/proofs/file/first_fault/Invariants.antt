-- `first_fault` meets its contract. The records' invariant: none of the first i records has a fault. The fields' invariant: of
-- the first f fields the unused ones are 0, and `good` says whether the used ones are in range and A is at most B.
use Rattle.std.specs.Prelude.{Ok}
use mathlib.Core.Path.{◌≡◌}
use mathlib.Core.Bool.{true}
use Rattle.files.specs.Words.{each}
use Rattle.section.specs.Choose.{all}
use Rattle.files.specs.Reading.{first_fault}
use Rattle.surveys.specs.SurveyFile.{record_at, member_fault, zeroed}
use Rattle.surveys.proofs.Members.{ranged}
use Rattle.surveys.proofs.file.first_fault.Given as goal

abbrev pub invariant-loop-f : goal.invariant-loop-f
invariant-loop-f l = (l.answer ≡ Ok tt) × (all (zeroed l.m) l.f ≡ true) × (l.good ≡ ranged l.m l.f)

abbrev pub invariant-records : goal.invariant-records
invariant-records l = (l.answer ≡ Ok tt) × (first_fault 1 (each (λ i. member_fault (record_at l.bytes i)) l.i) ≡ Ok tt)
