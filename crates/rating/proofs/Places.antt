-- The place of the first member that is so: that member is so, and none before it; members behind it leave it where it is.
-- Assumes nothing.
use Prim.Native.Nat.{ℕ, zero, suc, ◌+◌, ◌-◌, ◌≤◌, ◌<◌}
use mathlib.Core.Path.{◌≡◌, sym, ◌∙◌}
use mathlib.Core.Bool.{Bool, true, false, false≢true}
use mathlib.Core.List.{List, [], ◌∷◌, ◌++◌}
use mathlib.Core.Logic.{inl, inr}
use native.Mathlib.Omega.{arith}
use lib.ListN.{length}
use Rattle.rating.specs.Judgement.{first_that}
use Rattle.rating.specs.Surveyed.{member_at}
use Rattle.member.specs.declared.record.Member.{Member}
use Rattle.section.proofs.Choices.{decided}

module _ (isSo : Member → Bool) where
  -- some member is so
  pub record Some (ms : List Member) : Type 0 where
    pub index : ℕ
    pub inside : index < length ms
    pub is_so : isSo (member_at ms index) ≡ true

  -- g is the place, from 1, of the first such member
  pub record First (ms : List Member) (g : ℕ) : Type 0 where
    pub low : 1 ≤ g
    pub high : g ≤ length ms
    pub is_so : isSo (member_at ms (g - 1)) ≡ true
    pub before : (k : ℕ) → k + 1 < g → isSo (member_at ms k) ≡ false

  -- a member that is so stands first, or among the others
  later : (m : Member) (ms : List Member) → isSo m ≡ false → Some (m ∷ ms) → Some ms
  later m ms n h = at h.index h.inside h.is_so
    where
      at : (k : ℕ) → k < length (m ∷ ms) → isSo (member_at (m ∷ ms) k) ≡ true → Some ms
      at zero l e = absurd (false≢true (sym n ∙ e))
      at (suc k) l e = record { index = k; inside = omega arith; is_so = e }

  -- the first place of the others is one less
  after : (m : Member) (ms : List Member) (g : ℕ) → isSo m ≡ false → First ms g → First (m ∷ ms) (1 + g)
  after m ms g n h =
      record {
        low = omega arith;
        high = omega (arith, h.high);
        is_so = let e : 1 + g - 1 ≡ suc (g - 1) = omega (arith, h.low) in rw e h.is_so;
        before = earlier;
      }
    where
      earlier : (k : ℕ) → k + 1 < 1 + g → isSo (member_at (m ∷ ms) k) ≡ false
      earlier zero l = n
      earlier (suc k) l = h.before k (omega arith)

  pub first_place : (ms : List Member) → Some ms → First ms (first_that isSo ms)
  unfolding first_that
  first_place [] h = absurd (omega (arith, h.inside))
  first_place (m ∷ ms) h =
      elim (decided (isSo m)) [
        | inl e ↦ rw e (record { low = omega arith; high = omega arith; is_so = e; before = λ k l. absurd (omega arith) })
        | inr e ↦ rw e (after m ms (first_that isSo ms) e (first_place ms (later m ms e h)))
      ]

  -- members added behind leave the first place where it is
  pub place_kept : (ms rest : List Member) → Some ms → first_that isSo (ms ++ rest) ≡ first_that isSo ms
  unfolding first_that
  place_kept [] rest h = absurd (omega (arith, h.inside))
  place_kept (m ∷ ms) rest h =
      elim (decided (isSo m)) [ inl e ↦ rw e | inr e ↦ rw (e, place_kept ms rest (later m ms e h)) ]

  -- where no member is so, one that is so and is added behind has the place after them
  pub place_added : (ms : List Member) (m : Member) → ((k : ℕ) → k < length ms → isSo (member_at ms k) ≡ false) → isSo m ≡ true →
      first_that isSo (ms ++ m ∷ []) ≡ length ms + 1
  unfolding first_that
  place_added [] m none e = rw e
  place_added (n ∷ ms) m none e =
      rw (none 0 (omega arith))
      (omega (arith, place_added ms m (λ k l. none (suc k) (omega arith)) e))
