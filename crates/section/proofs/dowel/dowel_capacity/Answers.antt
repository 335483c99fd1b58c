-- `section::dowel::dowel_capacity` meets its contract: the line of the type's material has the term of the type.
-- Assumes nothing.
use Rattle.section.specs.Dowel.{dowel_capacity}
use Rattle.section.proofs.Terms.{type_term}
use Rattle.section.proofs.dowel.dowel_capacity.Goals as goal

pub returns-clause-is : goal.returns-clause-is
unfolding dowel_capacity
returns-clause-is c =
    rw (← type_term, ← c.from.ensures, ← c.line-line.ensures, ← c.less-a.ensures, ← c.less-c.ensures)
    c.least_term.ensures.is
