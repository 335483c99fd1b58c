-- What the code computes: whole numbers, the shares over one divisor and what a stringer carries over the divisor times the spacing.
-- Nothing here has to be believed: proofs/ ties it to Spread and Beta.
use Rattle.std.specs.Prelude.{ℕ, ◌+◌, ◌-◌, ◌*◌, ◌≤◌, ◌<◌, [], ◌∷◌, get_or}
use Rattle.section.specs.Fraction.{over, ◌≐◌}
use Rattle.spread.specs.Spread.{Spread, share}
use Rattle.spread.specs.declared.shares.Shares.{Shares}

-- the share of a stringer that stands this many spacings away, times the divisor
abbrev pub part : Shares → (away : ℕ) → ℕ
part s away = get_or (s.own ∷ s.next ∷ s.second ∷ s.third ∷ []) away 0

-- the whole numbers are those of the spread, at every distance
abbrev pub SharesOf : Spread → Shares → Type 0
SharesOf spread s = (away : ℕ) → share spread away ≐ over (part s away) s.divisor

-- no share is above the loaded stringer's, and that is not above the whole
pub record Bounded (s : Shares) : Type 0 where
  pub above_0 : 0 < s.divisor
  pub parts : (away : ℕ) → part s away ≤ s.own
  pub own_high : s.own ≤ s.divisor
  -- At a spacing of 100, 64 bits hold β's numerator, at most 10,000 times twice the loaded stringer's part, and with it its divisor. They would
  -- not hold 20,000 times the divisor of seven stringers, but there the loaded one has less than 0.3.
  pub room : 20000 * s.own + s.divisor ≤ 180000000000000000

-- how far two stringers stand apart
abbrev pub apart : (i k : ℕ) → ℕ
apart i k = (i - k) + (k - i)

-- what stringer i carries, where the first wheel stands over stringer 3
unfoldable pub scaled_carried : Shares → (d m r i : ℕ) → ℕ
scaled_carried s d m r i = part s (apart i 3) * d + ((d - r) * part s (apart i (m + 3)) + r * part s (apart i (m + 4)))
