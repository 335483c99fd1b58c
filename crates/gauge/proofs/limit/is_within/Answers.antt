-- `is_within` meets its contract: the products fit, and are those of the two fractions multiplied out.
-- Assumes nothing.
use native.Mathlib.Omega.{arith}
use Rattle.member.specs.Fields.{SPAN}
use Rattle.member.proofs.Ranges.{number_cap}
use Rattle.gauge.proofs.Limits.{within_over}
use Rattle.gauge.proofs.limit.is_within.Goals as goal

pub span_in_mm-span-requires : goal.span_in_mm-span-requires
span_in_mm-span-requires c = number_cap c.requires.1 SPAN (omega arith)

pub returns : goal.returns
returns c =
    let a = c.args in
    rw (c.span_divisor-divisor.ensures, c.kind.ensures, c.span_in_mm-span.ensures, c.fifths.ensures) (within_over a.m a.count a.class)
