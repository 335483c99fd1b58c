-- β of formula (10): the most that the two wheels of an axle put on a stringer together, as a part of one wheel's load. Document 02,
-- request 2/13, with the shares of 7/13.
use Rattle.std.specs.Prelude.{ℕ, suc, ◌+◌, ◌-◌, ◌*◌, ◌/◌, ◌%◌, ◌<◌, ◌≡◌, ℤ, pos, negsuc}
use Rattle.std.proofs.Math.IntN.{sub_ℕ}
use Rattle.section.specs.Fraction.{Fraction, whole, ceiling, ◌·◌, ◌÷◌, ◌⊕◌, ◌⊑◌}
use Rattle.section.specs.Greatest.{greatest_up_to}
use Rattle.spread.specs.Spread.{Spread, spread_of, share}
use Rattle.spread.specs.Stiffness.{ten_thousandths}

-- |j − i|: how far stringer j stands from stringer i, in spacings. Stringers are counted from the one under the first wheel to both sides,
-- so j may be negative; `negsuc n` is −(n + 1)
abbrev pub away : (j : ℤ) (i : ℕ) → ℕ
away (pos n) i = (n - i) + (i - n)
away (negsuc n) i = i + suc n

-- "With E = md + r (m whole, r below d)"
abbrev pub spacings : (d E : ℕ) → ℕ
spacings d E = E / d

abbrev pub rest : (d E : ℕ) → ℕ
rest d E = E % d

pub record Parted (d E : ℕ) : Type 0 where
  pub track : E ≡ spacings d E * d + rest d E
  pub below : rest d E < d

module _ (s : Spread) (d E : ℕ) where
  -- "share(|j|) + ((d−r) × share(|j−m|) + r × share(|j−m−1|)) / d": the first wheel stands over stringer 0, the second between m and
  -- m + 1
  unfoldable pub carried : (j : ℤ) → Fraction
  carried j =
      let m = spacings d E in
      let r = rest d E in
      share s (away j 0) ⊕ (whole (d - r) · share s (away j m) ⊕ whole r · share s (away j (m + 1))) ÷ whole d

  -- the greatest from j = −3 to m + 4 (`sub_ℕ i 3` is i − 3); any other stringer stands more than three spacings from both wheels
  unfoldable pub greatest_carried : Fraction
  greatest_carried = greatest_up_to (λ i. carried (sub_ℕ i 3)) (spacings d E + 7)

  -- "β is the greatest over whole j": no j gives more, and one gives it
  pub record GreatestOverAll : Type 0 where
    pub no_more : (j : ℤ) → carried j ⊑ greatest_carried
    pub given : (j : ℤ) × (greatest_carried ≡ carried j)

-- "It is kept in ten-thousandths, rounded up"
unfoldable pub beta : (k d E : ℕ) → ℕ
beta k d E = ceiling (greatest_carried (spread_of (ten_thousandths k)) d E · whole 10000)
