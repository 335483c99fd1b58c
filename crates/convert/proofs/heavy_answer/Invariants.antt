-- `heavy_answer` meets its contract. The loop's invariant: the first i weights fit.
-- Assumes nothing.
use Rattle.std.specs.Prelude.{Ok}
use mathlib.Core.Path.{◌≡◌}
use Rattle.files.specs.Reading.{first_fault}
use Rattle.files.specs.Words.{each}
use Rattle.convert.specs.Convert.{heavy_fault}
use Rattle.convert.proofs.heavy_answer.Given as goal

abbrev pub invariant-loop-i : goal.invariant-loop-i
invariant-loop-i l = first_fault 1 (each (heavy_fault l.wanted l.v) l.i) ≡ Ok tt
