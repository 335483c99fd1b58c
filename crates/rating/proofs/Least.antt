-- The least over the members by a test of at most that orders, as those of whole numbers and of integers do: it is at most what every
-- member has, some member has it, and one member more leaves the lesser of it and that member's. By induction over the members.
-- Assumes nothing.
use Prim.Native.Nat.{ℕ, zero, suc, ◌≤◌, ◌<◌}
use mathlib.Core.Path.{◌≡◌, refl, sym, ap, ◌∙◌}
use mathlib.Core.Bool.{Bool, true, false, not, false≢true}
use mathlib.Core.List.{List, [], ◌∷◌, ◌++◌}
use mathlib.Core.Logic.{inl, inr}
use native.Mathlib.Decide.{dec_le}
use native.Mathlib.Omega.{arith}
use lib.Dec.{leb, ltb}
use lib.IntN.{ℤ, pos, negsuc}
use lib.ListN.{length}
use lib.Signed.{le_z, lt_z}
use borrow.Author.Tests.{leb-true, leb-false, le-leb, lt-leb, le-ltb, lt-ltb}
use Rattle.section.specs.Choose.{choose}
use Rattle.section.proofs.Choices.{decided}
use Rattle.rating.specs.Judgement.{lesser, least}
use Rattle.rating.specs.Surveyed.{member_at}
use Rattle.member.specs.declared.record.Member.{Member}

-- a test of at most that orders, and the test of less that goes with it
pub record Orders {A : Type 0} (at_most less : A → A → Bool) : Type 0 where
  pub total : (a b : A) → at_most a b ≡ false → at_most b a ≡ true
  pub trans : (a b c : A) → at_most a b ≡ true → at_most b c ≡ true → at_most a c ≡ true
  pub antisym : (a b : A) → at_most a b ≡ true → at_most b a ≡ true → a ≡ b
  pub strict : (a b : A) → less b a ≡ not (at_most a b)

-- whole numbers
total_ℕ : (a b : ℕ) → leb a b ≡ false → leb b a ≡ true
total_ℕ a b e = le-leb b a (omega (arith, leb-false a b e))

trans_ℕ : (a b c : ℕ) → leb a b ≡ true → leb b c ≡ true → leb a c ≡ true
trans_ℕ a b c e f = le-leb a c (omega (arith, leb-true a b e, leb-true b c f))

antisym_ℕ : (a b : ℕ) → leb a b ≡ true → leb b a ≡ true → a ≡ b
antisym_ℕ a b e f = omega (arith, leb-true a b e, leb-true b a f)

strict_ℕ : (a b : ℕ) → ltb b a ≡ not (leb a b)
strict_ℕ a b = elim (dec_le a b) [ yes p ↦ rw (le-leb a b p, le-ltb b a p) | no n ↦ rw (lt-leb a b (omega arith), lt-ltb b a (omega arith)) ]

pub orders_ℕ : Orders leb ltb
orders_ℕ = record { total = total_ℕ; trans = trans_ℕ; antisym = antisym_ℕ; strict = strict_ℕ }

-- integers, by their signs
total_ℤ : (a b : ℤ) → le_z a b ≡ false → le_z b a ≡ true
total_ℤ (pos a) (pos b) e = total_ℕ a b e
total_ℤ (pos a) (negsuc b) e = refl
total_ℤ (negsuc a) (pos b) e = absurd (false≢true (sym e))
total_ℤ (negsuc a) (negsuc b) e = total_ℕ b a e

trans_ℤ : (a b c : ℤ) → le_z a b ≡ true → le_z b c ≡ true → le_z a c ≡ true
trans_ℤ (pos a) (pos b) (pos c) e f = trans_ℕ a b c e f
trans_ℤ (pos a) (pos b) (negsuc c) e f = f
trans_ℤ (pos a) (negsuc b) c e f = absurd (false≢true e)
trans_ℤ (negsuc a) b (pos c) e f = refl
trans_ℤ (negsuc a) (pos b) (negsuc c) e f = absurd (false≢true f)
trans_ℤ (negsuc a) (negsuc b) (negsuc c) e f = trans_ℕ c b a f e

antisym_ℤ : (a b : ℤ) → le_z a b ≡ true → le_z b a ≡ true → a ≡ b
antisym_ℤ (pos a) (pos b) e f = ap pos (antisym_ℕ a b e f)
antisym_ℤ (pos a) (negsuc b) e f = absurd (false≢true e)
antisym_ℤ (negsuc a) (pos b) e f = absurd (false≢true f)
antisym_ℤ (negsuc a) (negsuc b) e f = ap negsuc (antisym_ℕ a b f e)

strict_ℤ : (a b : ℤ) → lt_z b a ≡ not (le_z a b)
strict_ℤ (pos a) (pos b) = strict_ℕ a b
strict_ℤ (pos a) (negsuc b) = refl
strict_ℤ (negsuc a) (pos b) = refl
strict_ℤ (negsuc a) (negsuc b) = strict_ℕ b a

pub orders_ℤ : Orders le_z lt_z
orders_ℤ = record { total = total_ℤ; trans = trans_ℤ; antisym = antisym_ℤ; strict = strict_ℤ }

module _ {A : Type 0} {at_most less : A → A → Bool} (o : Orders at_most less) where
  -- at most itself
  pub itself : (a : A) → at_most a a ≡ true
  itself a = elim (decided (at_most a a)) [ inl e ↦ e | inr e ↦ o.total a a e ]

  -- the lesser is at most each of the two
  lesser_left : (a b : A) → at_most (lesser at_most a b) a ≡ true
  lesser_left a b = elim (decided (at_most a b)) [ inl e ↦ rw e (itself a) | inr e ↦ rw e (o.total a b e) ]

  lesser_right : (a b : A) → at_most (lesser at_most a b) b ≡ true
  lesser_right a b = elim (decided (at_most a b)) [ inl e ↦ rw (e, e) | inr e ↦ rw e (itself b) ]

  -- it is the second where that is less
  pub lesser_is : (a b : A) → lesser at_most a b ≡ choose (less b a) b a
  lesser_is a b = elim (decided (at_most a b)) [ inl e ↦ rw (o.strict a b, e) | inr e ↦ rw (o.strict a b, e) ]

  lesser_of_three : (a b c : A) → lesser at_most a (lesser at_most b c) ≡ lesser at_most (lesser at_most a b) c
  lesser_of_three a b c =
      elim (decided (at_most a b)) [
        | inl e ↦ elim (decided (at_most b c)) [ inl f ↦ rw (e, f, e, o.trans a b c e f) | inr f ↦ rw (e, f) ]
        | inr e ↦ elim (decided (at_most b c)) [
          | inl f ↦ rw (e, f, e)
          | inr f ↦ rw (e, f) (elim (decided (at_most a c)) [
            | inl h ↦ absurd (false≢true (sym e ∙ o.trans a c b h (o.total b c f)))
            | inr h ↦ rw h
          ])
        ]
      ]

  module _ (none : A) (f : Member → A) where
    -- the least is at most what f gives of every member
    pub least_below : (ms : List Member) (k : ℕ) → k < length ms → at_most (least at_most none f ms) (f (member_at ms k)) ≡ true
    unfolding least
    least_below [] k l = absurd (omega arith)
    least_below (m ∷ []) zero l = itself (f m)
    least_below (m ∷ []) (suc k) l = absurd (omega arith)
    least_below (m ∷ n ∷ ms) zero l = lesser_left (f m) (least at_most none f (n ∷ ms))
    least_below (m ∷ n ∷ ms) (suc k) l =
        o.trans _ (least at_most none f (n ∷ ms)) _ (lesser_right (f m) (least at_most none f (n ∷ ms))) (least_below (n ∷ ms) k (omega arith))

    -- and some member has it
    pub least_had : (ms : List Member) → 1 ≤ length ms → (k : ℕ) × (k < length ms) × (f (member_at ms k) ≡ least at_most none f ms)
    unfolding least
    least_had [] l = absurd (omega arith)
    least_had (m ∷ []) l = (0, omega arith, refl)
    least_had (m ∷ n ∷ ms) l =
        let h = least_had (n ∷ ms) (omega arith) in
        elim (decided (at_most (f m) (least at_most none f (n ∷ ms)))) [
          | inl e ↦ (0, omega arith, rw e)
          | inr e ↦ (suc h.0, omega (arith, h.1), rw e h.2)
        ]

    -- of what is less than the least no member has as little
    pub below_least : (ms : List Member) (x : A) → less x (least at_most none f ms) ≡ true → (k : ℕ) → k < length ms → at_most (f (member_at ms k)) x ≡ false
    below_least ms x e k l =
        elim (decided (at_most (f (member_at ms k)) x)) [
          | inl h ↦ absurd (false≢true (sym (ap not (o.trans _ _ _ (least_below ms k l) h)) ∙ sym (o.strict _ x) ∙ e))
          | inr h ↦ h
        ]

    -- one member more
    pub least_added : (ms : List Member) (m : Member) → 1 ≤ length ms → least at_most none f (ms ++ m ∷ []) ≡ lesser at_most (least at_most none f ms) (f m)
    unfolding least
    least_added [] m l = absurd (omega arith)
    least_added (n ∷ []) m l = refl
    least_added (n ∷ o ∷ ms) m l =
        ap (lesser at_most (f n)) (least_added (o ∷ ms) m (omega arith)) ∙ lesser_of_three (f n) (least at_most none f (o ∷ ms)) (f m)
