-- The three spreads in whole numbers, which of them a stiffness number has, and the laws that hold over all three.
-- Assumes nothing.
use Prim.Native.Nat.{ℕ, ◌-◌, ◌+◌, ◌*◌, ◌≤◌, ◌<◌}
use mathlib.Core.Path.{◌≡◌, ◌∙◌}
use native.Mathlib.Decide.{dec_le}
use native.Mathlib.Omega.{arith}
use borrow.Author.Tests.{le-leb, lt-leb}
use Rattle.section.specs.Choose.{choose}
use Rattle.section.specs.Fraction.{Fraction, Sound, over, square, cube, at_most, ◌·◌, ◌⊑◌, ◌⊏◌}
use Rattle.section.proofs.Order.{≐_refl, over_sound, over_times}
use Rattle.section.proofs.Products.{product_cap}
use Rattle.spread.specs.Spread.{Spread, three_stringers, five_stringers, three_or_five, seven_stringers, SEVEN_BELOW, spread_of, NothingMoves, share, EverySpreadAddsToOne}
use Rattle.spread.specs.Stiffness.{ten_thousandths}
use Rattle.spread.specs.Scaled.{Bounded}
use Rattle.spread.specs.declared.shares.Shares.{Shares}
use Rattle.spread.proofs.Scaled.{Over, whole_over, plus, times, of_difference, of_sum, same, Scaled, own_above_0, adds_up, bounded}

-- k and its powers over one power of 10,000
linear_over : (k : ℕ) → Over 10000 (ten_thousandths k) k
linear_over k = record { sound = over_sound k 10000 (omega arith); is = ≐_refl }

in_unit : (c D : ℕ) {a : Fraction} {x : ℕ} → Over D a x → Over (D * c) a (x * c)
in_unit c D {x = x} p = record { sound = p.sound; is = over_times c x D p.is }

square_over : (k : ℕ) → Over 100000000 (square (ten_thousandths k)) (k * k)
unfolding square over ◌·◌
square_over k = record { sound = record { above_0 = omega arith }; is = record { out = omega arith } }

cube_over : (k : ℕ) → Over 1000000000000 (cube (ten_thousandths k)) (k * k * k)
unfolding cube over ◌·◌
cube_over k = record { sound = record { above_0 = omega arith }; is = record { out = omega arith } }

-- how high the powers go
pub five_powers : (k : ℕ) → 3 * k < 10000 → k * k ≤ 11108889
five_powers k h = product_cap 3333 3333 (omega arith) (omega arith)

pub record SevenPowers (k : ℕ) : Type 0 where
  pub square : k * k ≤ 301401
  pub cube : k * k * k ≤ 165469149

pub seven_powers : (k : ℕ) → k < 550 → SevenPowers k
seven_powers k h =
    let square : k * k ≤ 301401 = product_cap 549 549 (omega arith) (omega arith) in
    record { square = square; cube = product_cap 301401 549 square (omega arith) }

-- the whole numbers of each spread
abbrev three_shares : ℕ → Shares
three_shares k = record { own = 10000 + 2 * k; next = 10000; second = 0; third = 0; divisor = 30000 + 2 * k }

abbrev five_shares : ℕ → Shares
five_shares k =
    let linear = 10000 * k in
    let square = k * k in
    record {
      own = 100000000 + 18 * linear + 7 * square;
      next = 100000000 + 11 * linear;
      second = 100000000 - 3 * linear;
      third = 0;
      divisor = 500000000 + 34 * linear + 7 * square;
    }

abbrev seven_shares : ℕ → Shares
seven_shares k =
    let linear = 100000000 * k in
    let square = 10000 * (k * k) in
    let cube = k * k * k in
    record {
      own = 1000000000000 + 72 * linear + 131 * square + 26 * cube;
      next = 1000000000000 + 57 * linear + 46 * square;
      second = 1000000000000 + 23 * linear - 18 * square;
      third = 1000000000000 + 3 * square - 18 * linear;
      divisor = 7000000000000 + 196 * linear + 193 * square + 26 * cube;
    }

pub three_scaled : (k : ℕ) → Scaled (three_stringers (ten_thousandths k)) (three_shares k)
unfolding three_stringers
three_scaled k =
    let linear = linear_over k in
    record {
      D = 10000;
      D_above_0 = omega arith;
      own = of_sum (omega arith) (plus (whole_over _) (times _ linear)) (omega arith);
      next = of_sum (omega arith) (whole_over _) (omega arith);
      second = of_sum (omega arith) (whole_over _) (omega arith);
      third = of_sum (omega arith) (whole_over _) (omega arith);
      divisor = same (plus (whole_over _) (times _ linear)) (omega arith);
      loaded = omega arith;
      adds = omega arith;
    }

pub five_scaled : (k : ℕ) → 3 * k < 10000 → Scaled (five_stringers (ten_thousandths k)) (five_shares k)
unfolding five_stringers
five_scaled k h =
    let linear = in_unit 10000 10000 (linear_over k) in
    let square = square_over k in
    record {
      D = 100000000;
      D_above_0 = omega arith;
      own = of_sum (omega arith) (plus (plus (whole_over _) (times _ linear)) (times _ square)) (omega arith);
      next = of_sum (omega arith) (plus (whole_over _) (times _ linear)) (omega arith);
      second = of_difference (omega arith) (whole_over _) (times _ linear) (omega arith) (omega arith);
      third = of_sum (omega arith) (whole_over _) (omega arith);
      divisor = same (plus (plus (whole_over _) (times _ linear)) (times _ square)) (omega arith);
      loaded = omega arith;
      adds = omega arith;
    }

pub seven_scaled : (k : ℕ) → k < 550 → Scaled (seven_stringers (ten_thousandths k)) (seven_shares k)
unfolding seven_stringers
seven_scaled k h =
    let linear = in_unit 100000000 10000 (linear_over k) in
    let square = in_unit 10000 100000000 (square_over k) in
    let cube = cube_over k in
    let high = seven_powers k h in
    record {
      D = 1000000000000;
      D_above_0 = omega arith;
      own = of_sum (omega arith) (plus (plus (plus (whole_over _) (times _ linear)) (times _ square)) (times _ cube)) (omega arith);
      next = of_sum (omega arith) (plus (plus (whole_over _) (times _ linear)) (times _ square)) (omega arith);
      second = of_difference (omega arith) (plus (whole_over _) (times _ linear)) (times _ square) (omega arith) (omega arith);
      third = of_difference (omega arith) (plus (whole_over _) (times _ square)) (times _ linear) (omega arith) (omega arith);
      divisor = same (plus (plus (plus (whole_over _) (times _ linear)) (times _ square)) (times _ cube)) (omega arith);
      loaded = omega arith;
      adds = omega arith;
    }

-- in each spread the loaded stringer's share is the greatest
pub three_bounded : (k : ℕ) → k ≤ 100000 → Bounded (three_shares k)
three_bounded k h = bounded (three_scaled k) (omega arith) (omega arith) (omega arith) (omega arith)

pub five_bounded : (k : ℕ) → 3 * k < 10000 → Bounded (five_shares k)
five_bounded k h = let high = five_powers k h in bounded (five_scaled k h) (omega arith) (omega arith) (omega arith) (omega arith)

pub seven_bounded : (k : ℕ) → k < 550 → Bounded (seven_shares k)
seven_bounded k h = let high = seven_powers k h in bounded (seven_scaled k h) (omega arith) (omega arith) (omega arith) (omega arith)

-- the spread by kept k: "below 0.055", "of 1/3 or more"
first_chosen : (a b : Fraction) (x y : Spread) → a ⊑ b → choose (at_most a b) x y ≡ x
first_chosen a b x y h = rw (le-leb (a.num * b.den) (b.num * a.den) h.out)

other_chosen : (a b : Fraction) (x y : Spread) → b ⊏ a → choose (at_most a b) x y ≡ y
other_chosen a b x y h = rw (lt-leb (a.num * b.den) (b.num * a.den) h.out)

pub nothing_moves : NothingMoves
unfolding spread_of
nothing_moves k h = first_chosen SEVEN_BELOW k (three_or_five k) (seven_stringers k) h

from_550 : (k : ℕ) → 550 ≤ k → SEVEN_BELOW ⊑ ten_thousandths k
unfolding over
from_550 k h = record { out = omega arith }

pub spread_of_three : (k : ℕ) → 10000 ≤ 3 * k → spread_of (ten_thousandths k) ≡ three_stringers (ten_thousandths k)
unfolding three_or_five over
spread_of_three k h =
    let t = ten_thousandths k in
    nothing_moves t (from_550 k (omega arith)) ∙ first_chosen (over 1 3) t (three_stringers t) (five_stringers t) (record { out = omega arith })

pub spread_of_five : (k : ℕ) → 550 ≤ k → 3 * k < 10000 → spread_of (ten_thousandths k) ≡ five_stringers (ten_thousandths k)
unfolding three_or_five over
spread_of_five k l h =
    let t = ten_thousandths k in
    nothing_moves t (from_550 k l) ∙ other_chosen (over 1 3) t (three_stringers t) (five_stringers t) (record { out = omega arith })

pub spread_of_seven : (k : ℕ) → k < 550 → spread_of (ten_thousandths k) ≡ seven_stringers (ten_thousandths k)
unfolding spread_of over
spread_of_seven k h =
    let t = ten_thousandths k in
    other_chosen SEVEN_BELOW t (three_or_five t) (seven_stringers t) (record { out = omega arith })

-- one case a spread
scaled : (k : ℕ) → (s : Shares) × Scaled (spread_of (ten_thousandths k)) s
scaled k =
    elim (dec_le 550 k) [
      | no h ↦ (seven_shares k, rw (spread_of_seven k (omega arith)) (seven_scaled k (omega arith)))
      | yes l ↦
          elim (dec_le 10000 (3 * k)) [
            | no h ↦ (five_shares k, rw (spread_of_five k l (omega arith)) (five_scaled k (omega arith)))
            | yes h ↦ (three_shares k, rw (spread_of_three k h) (three_scaled k))
          ]
    ]

-- "It is shown over all three spreads together that the shares, both sides counted, add to one and none is negative."
pub adds_to_one : EverySpreadAddsToOne
adds_to_one k = adds_up (scaled k).1

-- what the laws of β ask of a spread: fractions with divisors above 0, and some load on the loaded stringer
pub record Sensible (s : Spread) : Type 0 where
  pub shares : (away : ℕ) → Sound (share s away)
  pub loaded : 0 < (share s 0).num

pub sensible : (k : ℕ) → Sensible (spread_of (ten_thousandths k))
sensible k = record { shares = (adds_to_one k).sound; loaded = own_above_0 (scaled k).1 }
