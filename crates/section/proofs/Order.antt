-- The order of fractions, and how sums, differences, products, quotients and the lesser of two keep it. Each is its
-- premises multiplied by the other divisors and sorted into monomials.
-- Assumes nothing.
use Prim.Native.Nat.{ℕ, ◌+◌, ◌-◌, ◌*◌, ◌≤◌, ◌<◌, min}
use mathlib.Core.Path.{◌≡◌, refl, sym, ap, ap₂}
use mathlib.Core.Bool.{Bool, true, false}
use native.Mathlib.Nat.{mul-le-mul, mul-le-mul_right, mul-pos, le_of_mul-le-mul_right, le_refl, le_antisymm, le_of_lt, min-eq_left, min-eq_right, mul-sub, mul_comm}
use native.Mathlib.Omega.{arith}
use lib.Dec.{leb}
use borrow.Author.Tests.{leb-true, leb-false, le-leb, lt-leb}
use Rattle.section.specs.Choose.{choose}
use Rattle.section.proofs.Choices.{same_test}
use Rattle.section.specs.Fraction.{Fraction, Sound, over, whole, tenths, hundredths, square, ◌·◌, ◌÷◌, ◌⊕◌, ◌⊖◌, ◌⊑◌, ◌⊏◌, ◌≐◌, at_most, lesser, greater}

pub ⊑_refl : {a : Fraction} → a ⊑ a
⊑_refl = record { out = le_refl _ }

pub ⊑_trans : {a b c : Fraction} → Sound b → a ⊑ b → b ⊑ c → a ⊑ c
⊑_trans {a} {b} {c} s p q =
    record {
      out =
          le_of_mul-le-mul_right {k = b.den}
          (omega (arith, mul-le-mul_right c.den p.out, mul-le-mul_right a.den q.out))
          s.above_0;
    }

pub ≐_⊑ : {a b : Fraction} → a ≐ b → a ⊑ b
≐_⊑ e = omega arith

pub ≐_⊒ : {a b : Fraction} → a ≐ b → b ⊑ a
≐_⊒ e = omega arith

pub ⊑_antisymm : {a b : Fraction} → a ⊑ b → b ⊑ a → a ≐ b
⊑_antisymm p q = record { out = le_antisymm p.out q.out }

pub ≐_refl : {a : Fraction} → a ≐ a
≐_refl = record { out = refl }

pub ≐_sym : {a b : Fraction} → a ≐ b → b ≐ a
≐_sym e = record { out = sym e.out }

pub ≐_trans : {a b c : Fraction} → Sound b → a ≐ b → b ≐ c → a ≐ c
≐_trans s p q = ⊑_antisymm (⊑_trans s (≐_⊑ p) (≐_⊑ q)) (⊑_trans s (≐_⊒ q) (≐_⊒ p))

-- the test of at most, in words
pub at_most_lem : (a b : Fraction) → at_most a b ≡ true → a ⊑ b
at_most_lem a b e = record { out = leb-true _ _ e }

pub is_at_most : {a b : Fraction} → a ⊑ b → at_most a b ≡ true
is_at_most h = le-leb _ _ h.out

pub above : (a b : Fraction) → at_most a b ≡ false → b ⊏ a
above a b e = record { out = leb-false _ _ e }

pub is_above : {a b : Fraction} → b ⊏ a → at_most a b ≡ false
is_above h = lt-leb _ _ h.out

-- it goes by the values alone
pub at_most_same : {a a' b b' : Fraction} → Sound a → Sound a' → Sound b → Sound b' → a ≐ a' → b ≐ b' → at_most a b ≡ at_most a' b'
at_most_same {a} {a'} {b} {b'} sa sa' sb sb' p q =
    same_test (at_most a b) (at_most a' b') (λ e. is_at_most (⊑_trans sa (≐_⊒ p) (⊑_trans sb (at_most_lem a b e) (≐_⊑ q))))
    (λ e. is_at_most (⊑_trans sa' (≐_⊑ p) (⊑_trans sb' (at_most_lem a' b' e) (≐_⊒ q))))

pub ·_mono : {a a' b b' : Fraction} → a ⊑ a' → b ⊑ b' → a · b ⊑ a' · b'
unfolding ◌·◌
·_mono p q = omega (arith, mul-le-mul p.out q.out)

pub ÷_mono : {a a' : Fraction} (b : Fraction) → a ⊑ a' → a ÷ b ⊑ a' ÷ b
unfolding ◌÷◌
÷_mono b p = omega (arith, mul-le-mul_right (b.num * b.den) p.out)

pub ⊕_mono : {a a' b b' : Fraction} → a ⊑ a' → b ⊑ b' → a ⊕ b ⊑ a' ⊕ b'
unfolding ◌⊕◌
⊕_mono {a} {a'} {b} {b'} p q =
    omega (arith, mul-le-mul_right (b.den * b'.den) p.out, mul-le-mul_right (a.den * a'.den) q.out)

-- a product with a truncated difference
pub sub_mul : (m n k : ℕ) → (m - n) * k ≡ m * k - n * k
sub_mul m n k = rw (mul_comm (m - n) k, mul_comm m k, mul_comm n k) (mul-sub k m n)

sub_mul_mono : (x y z u v w : ℕ) → x * z ≤ u * w → v * w ≤ y * z → (x - y) * z ≤ (u - v) * w
sub_mul_mono x y z u v w p q = rw (sub_mul x y z, sub_mul u v w) (omega arith)

pub ⊖_mono : {a a' b b' : Fraction} → a ⊑ a' → b' ⊑ b → a ⊖ b ⊑ a' ⊖ b'
unfolding ◌⊖◌
⊖_mono {a} {a'} {b} {b'} p q =
    record {
      out =
          sub_mul_mono _ _ _ _ _ _ (omega (arith, mul-le-mul_right (b.den * b'.den) p.out))
          (omega (arith, mul-le-mul_right (a.den * a'.den) q.out));
    }

-- the divisors of sums, differences, products and quotients
pub ·_sound : {a b : Fraction} → Sound a → Sound b → Sound (a · b)
unfolding ◌·◌
·_sound p q = record { above_0 = mul-pos p.above_0 q.above_0 }

pub ⊕_sound : {a b : Fraction} → Sound a → Sound b → Sound (a ⊕ b)
unfolding ◌⊕◌
⊕_sound p q = record { above_0 = mul-pos p.above_0 q.above_0 }

pub ⊖_sound : {a b : Fraction} → Sound a → Sound b → Sound (a ⊖ b)
unfolding ◌⊖◌
⊖_sound p q = record { above_0 = mul-pos p.above_0 q.above_0 }

pub ÷_sound : {a : Fraction} (b : Fraction) → Sound a → 0 < b.num → Sound (a ÷ b)
unfolding ◌÷◌
÷_sound b p q = record { above_0 = mul-pos p.above_0 q }

pub ·_above_0 : (a b : Fraction) → 0 < a.num → 0 < b.num → 0 < (a · b).num
unfolding ◌·◌
·_above_0 a b p q = mul-pos p q

pub over_sound : (n d : ℕ) → 0 < d → Sound (over n d)
unfolding over
over_sound n d s = record { above_0 = s }

pub whole_sound : (n : ℕ) → Sound (whole n)
unfolding whole
whole_sound n = omega arith

pub tenths_sound : (n : ℕ) → Sound (tenths n)
unfolding tenths
tenths_sound n = omega arith

pub hundredths_sound : (n : ℕ) → Sound (hundredths n)
unfolding hundredths
hundredths_sound n = omega arith

pub square_sound : {a : Fraction} → Sound a → Sound (square a)
unfolding square
square_sound s = ·_sound s s

pub whole_mono : {m n : ℕ} → m ≤ n → whole m ⊑ whole n
unfolding whole
whole_mono h = omega arith

pub over_mono : {x y : ℕ} (D : ℕ) → x ≤ y → over x D ⊑ over y D
unfolding over
over_mono D h = record { out = mul-le-mul_right D h }

pub tenths_mono : {m n : ℕ} → m ≤ n → tenths m ⊑ tenths n
unfolding tenths
tenths_mono h = omega arith

-- a fraction in a smaller unit
pub in_smaller_unit : (k n d : ℕ) {a : Fraction} → over n d ≐ a → over (k * n) (k * d) ≐ a
unfolding over
in_smaller_unit k n d e = record { out = omega (arith, ap (λ (z : ℕ). k * z) e.out) }

-- equal fractions give equal products and quotients
pub ·_same : {a a' b b' : Fraction} → a ≐ a' → b ≐ b' → a · b ≐ a' · b'
·_same e f = ⊑_antisymm (·_mono (≐_⊑ e) (≐_⊑ f)) (·_mono (≐_⊒ e) (≐_⊒ f))

pub ÷_same : {a a' b b' : Fraction} → a ≐ a' → b ≐ b' → a ÷ b ≐ a' ÷ b'
unfolding ◌÷◌
÷_same e f = record { out = omega (arith, ap₂ (λ (x y : ℕ). x * y) e.out (sym f.out)) }

-- fractions over one divisor are added, subtracted and multiplied like whole numbers
pub ⊕_over : {a b : Fraction} (x y D : ℕ) → a ≐ over x D → b ≐ over y D → a ⊕ b ≐ over (x + y) D
unfolding over ◌⊕◌
⊕_over {a} {b} x y D p q = record { out = omega (arith, ap (λ t. t * b.den) p.out, ap (λ t. t * a.den) q.out) }

pub ⊖_over : {a b : Fraction} (x y D : ℕ) → a ≐ over x D → b ≐ over y D → a ⊖ b ≐ over (x - y) D
unfolding over ◌⊖◌
⊖_over {a} {b} x y D p q =
    record {
      out =
          rw (sub_mul (a.num * b.den) (b.num * a.den) D, sub_mul x y (a.den * b.den))
          (omega (arith, ap (λ t. t * b.den) p.out, ap (λ t. t * a.den) q.out));
    }

pub times_over : (k x D : ℕ) {a : Fraction} → a ≐ over x D → whole k · a ≐ over (k * x) D
unfolding over whole ◌·◌
times_over k x D {a} p = record { out = omega (arith, ap (λ t. k * t) p.out) }

pub ÷_over : (k x D : ℕ) {a : Fraction} → a ≐ over x D → a ÷ whole k ≐ over x (D * k)
unfolding over whole ◌÷◌
÷_over k x D {a} p = record { out = omega (arith, ap (λ t. t * k) p.out) }

pub over_times : (k x D : ℕ) {a : Fraction} → a ≐ over x D → a ≐ over (x * k) (D * k)
unfolding over
over_times k x D {a} p = record { out = omega (arith, ap (λ t. t * k) p.out) }

pub square_mono : {a b : Fraction} → a ⊑ b → square a ⊑ square b
unfolding square
square_mono h = ·_mono h h

-- what holds of both of two holds of the lesser and of the greater
pub of_lesser : (P : Fraction → Type 0) {a b : Fraction} → P a → P b → P (lesser a b)
unfolding lesser
of_lesser P {a} {b} p q = go (leb (a.num * b.den) (b.num * a.den))
  where
    go : (t : Bool) → P (choose t a b)
    go true = p
    go false = q

pub of_greater : (P : Fraction → Type 0) {a b : Fraction} → P a → P b → P (greater a b)
unfolding greater
of_greater P {a} {b} p q = go (leb (b.num * a.den) (a.num * b.den))
  where
    go : (t : Bool) → P (choose t a b)
    go true = p
    go false = q

-- the lesser of two is at most each
pub lesser_left : (a b : Fraction) → lesser a b ⊑ a
unfolding lesser
lesser_left a b = go (leb (a.num * b.den) (b.num * a.den)) refl
  where
    go : (t : Bool) → leb (a.num * b.den) (b.num * a.den) ≡ t → choose t a b ⊑ a
    go true e = ⊑_refl
    go false e = record { out = le_of_lt (leb-false _ _ e) }

pub lesser_right : (a b : Fraction) → lesser a b ⊑ b
unfolding lesser
lesser_right a b = go (leb (a.num * b.den) (b.num * a.den)) refl
  where
    go : (t : Bool) → leb (a.num * b.den) (b.num * a.den) ≡ t → choose t a b ⊑ b
    go true e = record { out = leb-true _ _ e }
    go false e = ⊑_refl

pub lesser_mono : {a a' b b' : Fraction} → Sound a → Sound b → a ⊑ a' → b ⊑ b' → lesser a b ⊑ lesser a' b'
lesser_mono {a} {a'} {b} {b'} s t p q =
    of_lesser (λ c. lesser a b ⊑ c) (⊑_trans s (lesser_left a b) p) (⊑_trans t (lesser_right a b) q)

-- the greater of two is at least each
pub greater_left : (a b : Fraction) → a ⊑ greater a b
unfolding greater
greater_left a b = go (leb (b.num * a.den) (a.num * b.den)) refl
  where
    go : (t : Bool) → leb (b.num * a.den) (a.num * b.den) ≡ t → a ⊑ choose t a b
    go true e = ⊑_refl
    go false e = record { out = le_of_lt (leb-false _ _ e) }

pub greater_right : (a b : Fraction) → b ⊑ greater a b
unfolding greater
greater_right a b = go (leb (b.num * a.den) (a.num * b.den)) refl
  where
    go : (t : Bool) → leb (b.num * a.den) (a.num * b.den) ≡ t → b ⊑ choose t a b
    go true e = record { out = leb-true _ _ e }
    go false e = ⊑_refl

-- k times the lesser of two, where each of them times k is whole
pub lesser_scaled : (k x y : ℕ) {a b : Fraction} → Sound a → Sound b → over x k ≐ a → over y k ≐ b → over (min x y) k ≐ lesser a b
unfolding over lesser
lesser_scaled k x y {a} {b} s t p q = go (leb (a.num * b.den) (b.num * a.den)) refl
  where
    -- the order of the two is that of the numbers over k
    ordered : (x y : ℕ) {a b : Fraction} → 0 < a.den * b.den → over x k ≐ a → over y k ≐ b → a ⊑ b → x ≤ y
    ordered x y {a} {b} d p q h =
        le_of_mul-le-mul_right
        (omega (arith, ap (λ (z : ℕ). z * b.den) p.out, ap (λ (z : ℕ). z * a.den) q.out, mul-le-mul_right k h.out))
        d

    go : (d : Bool) → leb (a.num * b.den) (b.num * a.den) ≡ d → over (min x y) k ≐ choose d a b
    go true e =
        rw (min-eq_left (ordered x y (mul-pos s.above_0 t.above_0) p q (record { out = leb-true _ _ e }))) p
    go false e =
        rw (min-eq_right (ordered y x (mul-pos t.above_0 s.above_0) q p (record { out = le_of_lt (leb-false _ _ e) }))) q
