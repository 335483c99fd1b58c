-- A rule's tests in plain words, and the number that two readings give: it lies between them.
-- Assumes nothing.
use Prim.Native.Nat.{ℕ, ◌+◌, ◌*◌, ◌≤◌}
use mathlib.Core.Path.{◌≡◌, refl}
use mathlib.Core.Bool.{true}
use mathlib.Core.Logic.{inl, inr, ⊎_elim}
use native.Mathlib.Decide.{dec_le}
use native.Mathlib.Omega.{arith}
use borrow.Author.Tests.{eqb-true, eq-eqb, leb-true, le-leb}
use Rattle.member.specs.Format.{Range, In}
use Rattle.files.proofs.Tests.{both}
use Rattle.join.specs.Rule.{agrees, near, joined_number}
use Rattle.join.specs.Fault.{Agree, Near}
use Rattle.join.specs.Claims.{LiesBetween}
use Rattle.join.specs.declared.rule.Rule.{Rule}
use Rattle.join.specs.declared.rule.Rule.TheVariants.{MustAgree, MeanUp, MeanDown, AnyMeanUp}

module _ (x y : ℕ) where
  -- the tests, in plain words
  pub agrees_plain : (r : Rule) → agrees r x y ≡ true → Agree r x y
  agrees_plain MustAgree t = eqb-true x y t
  agrees_plain (MeanUp apart) t = tt
  agrees_plain (MeanDown apart) t = tt
  agrees_plain AnyMeanUp t = tt

  pub plain_agrees : (r : Rule) → Agree r x y → agrees r x y ≡ true
  plain_agrees MustAgree h = eq-eqb x y h
  plain_agrees (MeanUp apart) h = refl
  plain_agrees (MeanDown apart) h = refl
  plain_agrees AnyMeanUp h = refl

  pub near_plain : (r : Rule) → near r x y ≡ true → Near r x y
  near_plain MustAgree t = tt
  near_plain (MeanUp apart) t = let (a, b) = both _ _ t in (leb-true _ _ a, leb-true _ _ b)
  near_plain (MeanDown apart) t = let (a, b) = both _ _ t in (leb-true _ _ a, leb-true _ _ b)
  near_plain AnyMeanUp t = tt

  pub plain_near : (r : Rule) → Near r x y → near r x y ≡ true
  plain_near MustAgree h = refl
  plain_near (MeanUp apart) h = rw (le-leb _ _ h.0, le-leb _ _ h.1)
  plain_near (MeanDown apart) h = rw (le-leb _ _ h.0, le-leb _ _ h.1)
  plain_near AnyMeanUp h = refl

  -- half a unit from the exact mean at most, the two readings on its two sides
  middle : (n : ℕ) → x + y ≤ 2 * n + 1 → 2 * n ≤ x + y + 1 → LiesBetween x y n
  middle n low high =
      elim (dec_le x y) [
        | yes l ↦ inl (omega arith, omega arith)
        | no g ↦ inr (omega arith, omega arith)
      ]

  -- the mean of two readings lies between them, its odd half up or down
  pub mean_between : (r : Rule) → Agree r x y → LiesBetween x y (joined_number r x y)
  mean_between MustAgree h = middle _ (omega arith) (omega arith)
  mean_between (MeanUp apart) h = middle _ (omega arith) (omega arith)
  mean_between (MeanDown apart) h = middle _ (omega arith) (omega arith)
  mean_between AnyMeanUp h = middle _ (omega arith) (omega arith)

-- what lies between two numbers of a range lies in it
pub between_range : (r : Range) (x y n : ℕ) → In r x → In r y → LiesBetween x y n → In r n
between_range r x y n a b = ⊎_elim (λ h. (omega (arith, a.0, h.0), omega (arith, b.1, h.1))) (λ h. (omega (arith, b.0, h.0), omega (arith, a.1, h.1)))
