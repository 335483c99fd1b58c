-- `spread::beta::Wheels::greatest_carried` meets its contract. The loop's invariant: the most so far is the greatest of the stringers passed.
-- Assumes nothing.
use mathlib.Core.Path.{◌≡◌}
use Rattle.section.specs.Greatest.{top}
use Rattle.spread.specs.Scaled.{scaled_carried}
use Rattle.spread.proofs.beta.Wheels.greatest_carried.Given as goal

abbrev pub invariant-loop-i : goal.invariant-loop-i
invariant-loop-i l = l.most ≡ top (scaled_carried l.self.shares l.self.d l.self.m l.self.r) l.i
