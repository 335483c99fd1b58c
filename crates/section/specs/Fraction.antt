-- Fractions of whole numbers. Document 01: "What is not rounded is a fraction of whole numbers with a divisor above 0, and
-- two such are compared by multiplying out." That a divisor is above 0 is said by `Sound`, apart from the fraction.
use Rattle.std.specs.Prelude.{ℕ, ◌+◌, ◌-◌, ◌*◌, ◌/◌, ◌≤◌, ◌<◌, ◌≡◌, Bool, leb}
use Rattle.section.specs.Choose.{choose}

infixl 70 ◌·◌ ◌÷◌
infixl 60 ◌⊕◌ ◌⊖◌
infix 40 ◌⊑◌ ◌⊏◌ ◌≐◌
pub record Fraction : Type 0 where
  pub num : ℕ
  pub den : ℕ

-- the divisor is above 0
pub record Sound (a : Fraction) : Type 0 where
  pub above_0 : 0 < a.den

unfoldable pub over : ℕ → ℕ → Fraction
over n d = record { num = n; den = d }

unfoldable pub whole : ℕ → Fraction
whole n = record { num = n; den = 1 }

-- a number with one decimal: `tenths 12` is 1.2
unfoldable pub tenths : ℕ → Fraction
tenths n = record { num = n; den = 10 }

-- a field in hundredths: `hundredths q` is q / 100
unfoldable pub hundredths : ℕ → Fraction
hundredths n = record { num = n; den = 100 }

unfoldable pub ◌·◌ : Fraction → Fraction → Fraction
a · b = record { num = a.num * b.num; den = a.den * b.den }

unfoldable pub ◌÷◌ : Fraction → Fraction → Fraction
a ÷ b = record { num = a.num * b.den; den = a.den * b.num }

unfoldable pub ◌⊕◌ : Fraction → Fraction → Fraction
a ⊕ b = record { num = a.num * b.den + b.num * a.den; den = a.den * b.den }

-- "A subtraction that would fall below 0 gives 0."
unfoldable pub ◌⊖◌ : Fraction → Fraction → Fraction
a ⊖ b = record { num = a.num * b.den - b.num * a.den; den = a.den * b.den }

unfoldable pub square : Fraction → Fraction
square a = a · a

unfoldable pub cube : Fraction → Fraction
cube a = a · a · a

-- at most, less than and equal, by multiplying out
pub record ◌⊑◌ (a b : Fraction) : Type 0 where
  pub out : a.num * b.den ≤ b.num * a.den

pub record ◌⊏◌ (a b : Fraction) : Type 0 where
  pub out : a.num * b.den < b.num * a.den

pub record ◌≐◌ (a b : Fraction) : Type 0 where
  pub out : a.num * b.den ≡ b.num * a.den

-- the test of at most
abbrev pub at_most : Fraction → Fraction → Bool
at_most a b = leb (a.num * b.den) (b.num * a.den)

-- the lesser and the greater of two, the first where they are equal
unfoldable pub lesser : Fraction → Fraction → Fraction
lesser a b = choose (at_most a b) a b

unfoldable pub greater : Fraction → Fraction → Fraction
greater a b = choose (at_most b a) a b

-- rounded down, and rounded up, to a whole number
unfoldable pub floor : Fraction → ℕ
floor a = a.num / a.den

unfoldable pub ceiling : Fraction → ℕ
ceiling a = (a.num + (a.den - 1)) / a.den

-- "rounded down once": never above, and less than one unit below
pub record RoundedDown (a : Fraction) (r : ℕ) : Type 0 where
  pub never_above : whole r ⊑ a
  pub near : a ⊏ whole (r + 1)

-- "rounded up once": never below, and less than one unit above
pub record RoundedUp (a : Fraction) (r : ℕ) : Type 0 where
  pub never_below : a ⊑ whole r
  pub near : whole r ⊏ a ⊕ whole 1
