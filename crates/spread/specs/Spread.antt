-- How the load on one stringer spreads to its neighbours. Document 02, requests 2/13 and 7/13.
use Rattle.std.specs.Prelude.{ℕ, ◌≤◌, ◌≡◌, [], ◌∷◌, get_or}
use Rattle.section.specs.Choose.{choose}
use Rattle.section.specs.Fraction.{Fraction, Sound, over, whole, square, cube, at_most, ◌·◌, ◌÷◌, ◌⊕◌, ◌⊖◌, ◌⊑◌, ◌≐◌}
use Rattle.spread.specs.Stiffness.{ten_thousandths}

-- a share's numerator: what is added and what is taken away. It is negative where more is taken away than added
pub record Numerator : Type 0 where
  pub added : Fraction
  pub taken : Fraction

abbrev pub ⟨◌−◌⟩ : Fraction → Fraction → Numerator
⟨ a − b ⟩ = record { added = a; taken = b }

-- nothing is taken away
abbrev pub sum : Fraction → Numerator
sum a = ⟨ a − whole 0 ⟩

-- "A subtraction that would fall below 0 gives 0." (document 01)
unfoldable pub value : Numerator → Fraction
value n = n.added ⊖ n.taken

-- the shares of the loaded stringer and of those one, two and three spacings from it, on each side, over one divisor
pub record Spread : Type 0 where
  pub own : Numerator
  pub next : Numerator
  pub second : Numerator
  pub third : Numerator
  pub divisor : Fraction

-- request 2/13: "For k of 1/3 or more the shares of the loaded stringer and its neighbours are (1+2k) and 1 over 3+2k."
unfoldable pub three_stringers : (k : Fraction) → Spread
three_stringers k =
    record {
      own = sum (whole 1 ⊕ whole 2 · k);
      next = sum (whole 1);
      second = sum (whole 0);
      third = sum (whole 0);
      divisor = whole 3 ⊕ whole 2 · k;
    }

-- "Below, they are 1+18k+7k², 1+11k, 1−3k over 5+34k+7k²."
unfoldable pub five_stringers : (k : Fraction) → Spread
five_stringers k =
    record {
      own = sum (whole 1 ⊕ whole 18 · k ⊕ whole 7 · square k);
      next = sum (whole 1 ⊕ whole 11 · k);
      second = ⟨ whole 1 − whole 3 · k ⟩;
      third = sum (whole 0);
      divisor = whole 5 ⊕ whole 34 · k ⊕ whole 7 · square k;
    }

-- "of 1/3 or more", "Below"
unfoldable pub three_or_five : (k : Fraction) → Spread
three_or_five k = choose (at_most (over 1 3) k) (three_stringers k) (five_stringers k)

-- request 7/13: "For k below 0.055 the shares are 1+72k+131k²+26k³, 1+57k+46k², 1+23k−18k², 1−18k+3k² over 7+196k+193k²+26k³." Of the last
-- numerator what is added stands first
unfoldable pub seven_stringers : (k : Fraction) → Spread
seven_stringers k =
    record {
      own = sum (whole 1 ⊕ whole 72 · k ⊕ whole 131 · square k ⊕ whole 26 · cube k);
      next = sum (whole 1 ⊕ whole 57 · k ⊕ whole 46 · square k);
      second = ⟨ whole 1 ⊕ whole 23 · k − whole 18 · square k ⟩;
      third = ⟨ whole 1 ⊕ whole 3 · square k − whole 18 · k ⟩;
      divisor = whole 7 ⊕ whole 196 · k ⊕ whole 193 · square k ⊕ whole 26 · cube k;
    }

-- "For k below 0.055"
abbrev pub SEVEN_BELOW : Fraction
SEVEN_BELOW = over 55 1000

-- seven stringers there, else as request 2/13 has it
unfoldable pub spread_of : (k : Fraction) → Spread
spread_of k = choose (at_most SEVEN_BELOW k) (three_or_five k) (seven_stringers k)

-- "At 0.055 and above nothing moves."
abbrev pub NothingMoves : Type 0
NothingMoves = (k : Fraction) → over 55 1000 ⊑ k → spread_of k ≡ three_or_five k

-- the numerator of a stringer that stands this many spacings away; request 2/13: "Any stringer farther off has share 0."
abbrev pub numerator : Spread → (away : ℕ) → Numerator
numerator s away = get_or (s.own ∷ s.next ∷ s.second ∷ s.third ∷ []) away (sum (whole 0))

-- its share
unfoldable pub share : Spread → (away : ℕ) → Fraction
share s away = value (numerator s away) ÷ s.divisor

-- "the shares, both sides counted, add to one and none is negative"
pub record AddsToOne (s : Spread) : Type 0 where
  -- every divisor is above 0, else multiplying out would say nothing
  pub sound : (away : ℕ) → Sound (share s away)
  pub adds : share s 0 ⊕ whole 2 · (share s 1 ⊕ share s 2 ⊕ share s 3) ≐ whole 1
  -- so nothing is cut at 0
  pub none_negative : (away : ℕ) → (numerator s away).taken ⊑ (numerator s away).added
  pub none_farther : (away : ℕ) → 4 ≤ away → share s away ≐ whole 0

-- "It is shown over all three spreads together": at every whole number of ten-thousandths
abbrev pub EverySpreadAddsToOne : Type 0
EverySpreadAddsToOne = (k : ℕ) → AddsToOne (spread_of (ten_thousandths k))
