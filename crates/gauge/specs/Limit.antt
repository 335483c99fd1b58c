-- The limit of a member's deflection, in mm. Document 02, request 11/13: "Limit, with the span l in mm: span/180 for kinds 1, 2 and 7, span/300
-- for the rest, a fifth more for class 1."
use Rattle.std.specs.Prelude.{ℕ, ◌*◌, ◌||◌, eqb}
use Rattle.section.specs.Choose.{choose}
use Rattle.section.specs.Fraction.{Fraction, whole, ◌÷◌, ◌⊕◌}
use Rattle.member.specs.Fields.{KIND, SPAN, field}
use Rattle.member.specs.declared.record.Member.{Member}

-- the record has l in cm
abbrev pub span_mm : Member → ℕ
span_mm m = 10 * field m SPAN

abbrev pub span_divisor : (kind : ℕ) → ℕ
span_divisor kind = choose (eqb kind 1 || eqb kind 2 || eqb kind 7) 180 300

abbrev pub of_span : Member → Fraction
of_span m = whole (span_mm m) ÷ whole (span_divisor (field m KIND))

unfoldable pub limit : Member → (class : ℕ) → Fraction
limit m class = choose (eqb class 1) (of_span m ⊕ of_span m ÷ whole 5) (of_span m)
