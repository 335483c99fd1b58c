-- The stiffness number of closely spaced stringers under their deck. Document 02, request 2/13.
use Rattle.std.specs.Prelude.{ℕ, min, eqb}
use Rattle.section.specs.Choose.{choose}
use Rattle.section.specs.Fraction.{Fraction, over, whole, cube, floor, ◌·◌, ◌÷◌, ◌⊕◌, ◌⊑◌, ◌⊏◌}

-- "k = 8d³I / (l³J)"
unfoldable pub stiffness : (d I l J : Fraction) → Fraction
stiffness d I l J = whole 8 · cube d · I ÷ (cube l · J)

-- "rounded half up"
unfoldable pub half_up : Fraction → ℕ
half_up a = floor (a ⊕ over 1 2)

-- which is at most one half above, and less than one half below
pub record RoundedHalfUp (a : Fraction) (r : ℕ) : Type 0 where
  pub not_above : whole r ⊑ a ⊕ over 1 2
  pub not_below : a ⊏ whole r ⊕ over 1 2

-- "at most 100000 of them"
abbrev pub GREATEST_STIFFNESS : ℕ
GREATEST_STIFFNESS = 100000

-- "kept in ten-thousandths"
abbrev pub ten_thousandths : ℕ → Fraction
ten_thousandths n = over n 10000

-- "The stiffness number .. is kept in ten-thousandths, rounded half up, at most 100000 of them." "J = 0 takes the greatest k."
unfoldable pub stiffness_number : (d I l J : Fraction) → ℕ
stiffness_number d I l J =
    choose (eqb J.num 0) GREATEST_STIFFNESS (min (half_up (stiffness d I l J · whole 10000)) GREATEST_STIFFNESS)
