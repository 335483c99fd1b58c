-- `rating::judging::judge` meets its contract. The loop's invariant: the judgement and the list are those of the members passed.
-- Assumes nothing.
use mathlib.Core.Path.{◌≡◌}
use lib.ListN.{take}
use Rattle.rating.specs.Judgement.{written, judgement_of}
use Rattle.rating.proofs.judging.judge.Given as goal

abbrev pub invariant-loop-i : goal.invariant-loop-i
invariant-loop-i l =
    (l.j ≡ judgement_of (take l.i l.m-items) l.v) × (l.list ≡ written l.v (take l.i l.m-items) l.initial.list)
