-- A row of axles on an influence line: what is asked of both, and what is computed of them.
use Rattle.std.specs.Prelude.{ℕ, length}
use Rattle.section.specs.Units.{weight}
use Rattle.influence.specs.Influence.{behind}
use Rattle.influence.specs.Bounds.{Bounded}
use Rattle.influence.specs.declared.Line.{Line}
use Rattle.influence.specs.declared.axles.Axles.{Axles}

abbrev pub BoundedOn : Line → Axles → Type 0
BoundedOn line a = Bounded line.base.0 line.apex.0 (length a.weights.now) a.weights.now a.distances.now

-- f U P w b n of the line's U and P and of all n axles
abbrev pub on : {X : Type 0} → ((U P : ℕ) (w b : ℕ → ℕ) (n : ℕ) → X) → Line → Axles → X
on f line a = f line.base.0 line.apex.0 (weight a.weights.now) (behind a.distances.now) (length a.weights.now)
