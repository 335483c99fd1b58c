-- A spread scaled to whole numbers: its shares at every distance, that they add to one, and that none is negative.
-- Assumes nothing.
use Prim.Native.Nat.{ℕ, zero, suc, ◌+◌, ◌-◌, ◌*◌, ◌≤◌, ◌<◌}
use mathlib.Core.Path.{◌≡◌, refl, sym, subst}
use native.Mathlib.Nat.{mul-pos}
use native.Mathlib.Omega.{arith}
use Rattle.section.specs.Fraction.{Fraction, Sound, over, whole, ◌·◌, ◌÷◌, ◌⊕◌, ◌⊖◌, ◌⊑◌, ◌≐◌}
use Rattle.section.proofs.Order.{⊑_trans, ≐_⊑, ≐_⊒, ≐_trans, ·_sound, ÷_sound, ⊕_sound, ⊖_sound, ÷_same, over_mono, over_sound, whole_sound, ⊕_over, ⊖_over, times_over}
use Rattle.spread.specs.Spread.{Numerator, ⟨◌−◌⟩, sum, value, Spread, numerator, share, AddsToOne}
use Rattle.spread.specs.Scaled.{part, SharesOf, Bounded}
use Rattle.spread.specs.declared.shares.Shares.{Shares}

-- what holds of the loaded stringer, of its three neighbours and of all farther off holds at every distance
pub at_every : (P : ℕ → Type 0) → P 0 → P 1 → P 2 → P 3 → ((away : ℕ) → P (suc (suc (suc (suc away))))) → (away : ℕ) → P away
at_every P own next second third far zero = own
at_every P own next second third far (suc zero) = next
at_every P own next second third far (suc (suc zero)) = second
at_every P own next second third far (suc (suc (suc zero))) = third
at_every P own next second third far (suc (suc (suc (suc away)))) = far away

beyond_three : (P : ℕ → Type 0) → ((away : ℕ) → P (suc (suc (suc (suc away))))) → (away : ℕ) → 4 ≤ away → P away
beyond_three P far =
    at_every (λ away. 4 ≤ away → P away) (λ h. absurd (omega arith)) (λ h. absurd (omega arith)) (λ h. absurd (omega arith)) (λ h. absurd (omega arith))
    (λ away h. far away)

pub far_part : (s : Shares) (away : ℕ) → 4 ≤ away → 0 ≡ part s away
far_part s = beyond_three (λ away. 0 ≡ part s away) (λ away. refl)

pub far_share : (s : Spread) (away : ℕ) → 4 ≤ away → (share s away).num ≡ 0
unfolding share value whole ◌÷◌ ◌⊖◌
far_share s = beyond_three (λ away. (share s away).num ≡ 0) (λ away. omega arith)

-- a fraction as a whole number over D
pub record Over (D : ℕ) (a : Fraction) (x : ℕ) : Type 0 where
  pub sound : Sound a
  pub is : a ≐ over x D

-- and a numerator, whose difference is not cut at 0
pub record Uncut (D : ℕ) (n : Numerator) (x : ℕ) : Type 0 where
  pub value_over : Over D (value n) x
  pub not_negative : n.taken ⊑ n.added

module _ {D : ℕ} where
  pub whole_over : (c : ℕ) → Over D (whole c) (c * D)
  unfolding whole over
  whole_over c = record { sound = whole_sound c; is = record { out = omega arith } }

  pub plus : {a b : Fraction} {x y : ℕ} → Over D a x → Over D b y → Over D (a ⊕ b) (x + y)
  plus {x = x} {y} p q = record { sound = ⊕_sound p.sound q.sound; is = ⊕_over x y D p.is q.is }

  pub times : {a : Fraction} {x : ℕ} (c : ℕ) → Over D a x → Over D (whole c · a) (c * x)
  times {x = x} c p = record { sound = ·_sound (whole_sound c) p.sound; is = times_over c x D p.is }

  pub of_difference : {a b : Fraction} {x y z : ℕ} → 0 < D → Over D a x → Over D b y → y ≤ x → z ≡ x - y → Uncut D (⟨ a − b ⟩) z
  unfolding value
  of_difference {x = x} {y} d p q h e =
      record {
        value_over = rw e (record { sound = ⊖_sound p.sound q.sound; is = ⊖_over x y D p.is q.is });
        not_negative = ⊑_trans (over_sound y D d) (≐_⊑ q.is) (⊑_trans (over_sound x D d) (over_mono D h) (≐_⊒ p.is));
      }

  pub of_sum : {a : Fraction} {x z : ℕ} → 0 < D → Over D a x → z ≡ x → Uncut D (sum a) z
  of_sum d p e = of_difference d p (whole_over 0) (omega arith) (omega arith)

  pub same : {a : Fraction} {x z : ℕ} → Over D a x → z ≡ x → Over D a z
  same p e = rw e p

-- a factor of what is above 0 is above 0
pub factor_above_0 : (n c m : ℕ) → m ≤ n * c → 0 < m → 0 < n
factor_above_0 zero c m h p = absurd (omega arith)
factor_above_0 (suc n) c m h p = omega arith

-- a fraction is above 0 where its whole number is
above_0 : {D : ℕ} {a : Fraction} {x : ℕ} → Over D a x → 0 < x → 0 < a.num
unfolding over
above_0 {D} {a} {x} p h = factor_above_0 a.num D (x * a.den) (omega (arith, p.is.out)) (mul-pos h p.sound.above_0)

-- a quotient of two fractions over one divisor
quotient_sound : (D x y : ℕ) → 0 < D → 0 < y → Sound (over x D ÷ over y D)
unfolding over
quotient_sound D x y d h = ÷_sound (over y D) (over_sound x D d) h

divided : (D x y : ℕ) → over x D ÷ over y D ≐ over x y
unfolding over ◌÷◌
divided D x y = record { out = omega arith }

ratio : {D x y : ℕ} {a b : Fraction} → 0 < D → 0 < y → Over D a x → Over D b y → a ÷ b ≐ over x y
ratio {D} {x} {y} d h p q = ≐_trans (quotient_sound D x y d h) (÷_same p.is q.is) (divided D x y)

-- a spread and its whole numbers: the numerators and the divisor times D
pub record Scaled (spread : Spread) (s : Shares) : Type 0 where
  pub D : ℕ
  pub D_above_0 : 0 < D
  pub own : Uncut D spread.own s.own
  pub next : Uncut D spread.next s.next
  pub second : Uncut D spread.second s.second
  pub third : Uncut D spread.third s.third
  pub divisor : Over D spread.divisor s.divisor
  pub loaded : 0 < s.own
  pub adds : s.own + 2 * (s.next + s.second + s.third) ≡ s.divisor

module _ {spread : Spread} {s : Shares} (scaled : Scaled spread s) where
  numerators : (away : ℕ) → Uncut scaled.D (numerator spread away) (part s away)
  numerators =
      at_every (λ away. Uncut scaled.D (numerator spread away) (part s away)) scaled.own scaled.next scaled.second scaled.third
      (λ away. of_sum scaled.D_above_0 (whole_over 0) (omega arith))

  divisor_above_0 : 0 < s.divisor
  divisor_above_0 = omega (arith, scaled.loaded, scaled.adds)

  pub shares_are : SharesOf spread s
  unfolding share
  shares_are away = ratio scaled.D_above_0 divisor_above_0 (numerators away).value_over scaled.divisor

  share_sound : (away : ℕ) → Sound (share spread away)
  unfolding share
  share_sound away = ÷_sound spread.divisor (numerators away).value_over.sound (above_0 scaled.divisor divisor_above_0)

  pub own_above_0 : 0 < (share spread 0).num
  unfolding share ◌÷◌
  own_above_0 = mul-pos (above_0 (numerators 0).value_over scaled.loaded) scaled.divisor.sound.above_0

  all_shares : share spread 0 ⊕ whole 2 · (share spread 1 ⊕ share spread 2 ⊕ share spread 3) ≐ over s.divisor s.divisor
  all_shares =
      rw scaled.adds at
      (⊕_over _ _ s.divisor (shares_are 0)
      (times_over 2 _ s.divisor (⊕_over _ _ s.divisor (⊕_over _ _ s.divisor (shares_are 1) (shares_are 2)) (shares_are 3))))

  one : over s.divisor s.divisor ≐ whole 1
  unfolding over whole
  one = record { out = omega arith }

  none_farther : (away : ℕ) → 4 ≤ away → share spread away ≐ whole 0
  unfolding whole
  none_farther away h = record { out = rw (far_share spread away h) (omega arith) }

  pub adds_up : AddsToOne spread
  adds_up =
      record {
        sound = share_sound;
        adds = ≐_trans (over_sound _ _ divisor_above_0) all_shares one;
        none_negative = λ away. (numerators away).not_negative;
        none_farther = none_farther;
      }

  -- where the loaded stringer's share is the greatest, and 64 bits have room
  pub bounded : s.next ≤ s.own → s.second ≤ s.own → s.third ≤ s.own → 20000 * s.own + s.divisor ≤ 180000000000000000 → Bounded s
  bounded next second third room =
      record {
        above_0 = divisor_above_0;
        parts = at_every (λ away. part s away ≤ s.own) (omega arith) next second third (λ away. omega arith);
        own_high = omega (arith, scaled.adds);
        room = room;
      }

-- The code's numbers are these by arithmetic, field by field: a wrong coefficient is refused with a k at which it differs.
same_shares : {s t : Shares} → s.own ≡ t.own → s.next ≡ t.next → s.second ≡ t.second → s.third ≡ t.third → s.divisor ≡ t.divisor → s ≡ t
same_shares own next second third divisor = λ i. record { own = own i; next = next i; second = second i; third = third i; divisor = divisor i }

pub written : {spread : Spread} {s t : Shares} →
    s.own ≡ t.own → s.next ≡ t.next → s.second ≡ t.second → s.third ≡ t.third → s.divisor ≡ t.divisor →
    Scaled spread t → Bounded t → SharesOf spread s × Bounded s
written {spread} own next second third divisor scaled bounds =
    subst (λ s. SharesOf spread s × Bounded s) (sym (same_shares own next second third divisor)) (shares_are scaled, bounds)
