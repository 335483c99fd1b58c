-- The ranges that the formulas' whole numbers keep to, so that no product passes 64 bits and no divisor is 0. They are those of
-- document 01, 'Files'; the load factor n is 14 or 11 tenths.
use Rattle.std.specs.Prelude.{ℕ, ◌≤◌, ◌<◌}
use Rattle.section.specs.Units.{centimetres}
use Rattle.member.specs.Fields.{SPAN, DEAD_LOAD, field}
use Rattle.member.specs.PermittedLoad.{load_factor_tenths}
use Rattle.member.specs.declared.record.Member.{Member}
use Rattle.member.specs.declared.formula.Terms.{Terms}

-- the load factor in tenths, the dead load in kgf/m and the span in cm
pub record Sizes (t : Terms) : Type 0 where
  pub load_factor_low : 11 ≤ t.n
  pub load_factor_high : t.n ≤ 14
  pub dead_load : t.q.0 ≤ 10000
  pub span_low : 1 ≤ t.l.0
  pub span_high : t.l.0 ≤ 5000

-- those of a member, for a vehicle of this class
abbrev pub terms_of : Member → (class : ℕ) → Terms
terms_of m class = record { n = load_factor_tenths class; q = record { 0 = field m DEAD_LOAD }; l = centimetres (field m SPAN) }

-- the spacing to the neighbour
pub record Spaced (d : ℕ) : Type 0 where
  pub low : 1 ≤ d
  pub high : d ≤ 1000

-- the distance x from the support, inside the span
pub record Inside (x l : ℕ) : Type 0 where
  pub low : 1 ≤ x
  pub high : x < l

-- A and B
pub record Ratio (a b : ℕ) : Type 0 where
  pub low_a : 1 ≤ a
  pub high_a : a ≤ 1000
  pub low_b : 1 ≤ b
  pub high_b : b ≤ 1000
