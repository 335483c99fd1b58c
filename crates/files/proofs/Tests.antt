-- Laws of tests: of a range, of every index below a number, and of the first fault of a row of tests.
use Prim.Native.Nat.{ℕ, zero, suc, ◌<◌}
use mathlib.Core.Path.{◌≡◌, refl, sym, ◌∙◌}
use mathlib.Core.List.{List, [], ◌∷◌}
use mathlib.Core.Bool.{Bool, true, false, not, ◌&&◌, ◌||◌, and-true}
use mathlib.Core.Logic.{◌↔◌}
use native.Mathlib.Nat.{zero-add}
use native.Mathlib.Omega.{arith}
use lib.Dec.{eqb, leb}
use lib.ListN.{length}
use borrow.Author.Tests.{leb-true, le-leb, eqb-true, eqb-false}
use Rattle.std.specs.Bool.{MatchBool}
use Rattle.std.specs.List.{AllWithin, HoldsAt, range_with_len}
use Rattle.std.proofs.lemmas.List.FromFn.{length-range_with_len, get_or-range_with_len}
use Rattle.section.specs.Choose.{choose, all}
use Rattle.section.proofs.Table.{all_at}
use Rattle.member.specs.Format.{Range, In}
use Rattle.files.specs.Reading.{◌unless◌, first_of, is_in}

pub both : (a b : Bool) → (a && b) ≡ true → (a ≡ true) × (b ≡ true)
both true b e = (refl, e)
both false b e = (e, let z : ◌≡◌ {A = ℕ} 0 1 = cc in absurd (omega arith))

pub either : (a b : Bool) → (a || b) ≡ true → a ≡ false → b ≡ true
either true b e n = let z : ◌≡◌ {A = ℕ} 0 1 = cc in absurd (omega arith)
either false b e n = e

pub neither : (a b : Bool) → (a || b) ≡ false → (a ≡ false) × (b ≡ false)
neither true b e = absurd (mathlib.Core.Bool.false≢true (sym e))
neither false b e = (refl, e)

-- a test fails exactly where what it decides does not hold
pub refuted : {P : Type 0} → (false ≡ true) ↔ P → ¬ P
refuted decides p = mathlib.Core.Bool.false≢true (decides.1 p)

pub refutes : {P : Type 0} (test : Bool) → (test ≡ true → P) → ¬ P → test ≡ false
refutes true says n = absurd (n (says refl))
refutes false says n = refl

pub in_range : (r : Range) (n : ℕ) → is_in r n ≡ true → In r n
in_range r n e = let h = both (leb r.low n) (leb n r.high) e in (leb-true _ _ h.0, leb-true _ _ h.1)

pub range_in : (r : Range) (n : ℕ) → In r n → is_in r n ≡ true
range_in r n h = rw (le-leb _ _ h.0) (le-leb _ _ h.1)

module _ (test : ℕ → Bool) where
  pub all_of : (n : ℕ) → ((i : ℕ) → i < n → test i ≡ true) → all test n ≡ true
  all_of zero h = refl
  all_of (suc n) h = rw (all_of n (λ i l. h i (omega arith)), h n (omega arith))

  -- a test that does not hold of every index fails of one
  pub all_failing : (n : ℕ) → all test n ≡ false → (i : ℕ) × (i < n) × (test i ≡ false)
  all_failing zero e = absurd (mathlib.Core.Bool.false≢true (sym e))
  all_failing (suc n) e = go (test n) refl (all_failing n)
    where
      go : (b : Bool) → test n ≡ b → (all test n ≡ false → (i : ℕ) × (i < n) × (test i ≡ false)) → (i : ℕ) × (i < suc n) × (test i ≡ false)
      go false f before = (n, omega arith, f)
      go true t before = let below = before (sym (rw (t, and-true) at (sym e))) in (below.0, omega (arith, below.1), below.2)

  -- a test that fails of one index fails of every index
  pub all_fails : (n i : ℕ) → i < n → test i ≡ false → all test n ≡ false
  all_fails n i h e = go (all test n) refl
    where
      go : (b : Bool) → all test n ≡ b → all test n ≡ false
      go false f = f
      go true t = let at : test i ≡ true = all_at test n t i h in let z : ◌≡◌ {A = ℕ} 0 1 = cc in absurd (omega arith)

-- what `all` over the indices below n answers
pub all_indices : (test : ℕ → Bool) (n : ℕ) (r : Bool) →
    MatchBool r (AllWithin (λ f. test f ≡ true) (range_with_len 0 n) 0 (length (range_with_len 0 n)))
    ((k : ℕ) × (k < length (range_with_len 0 n)) × HoldsAt (λ f. test f ≡ false) (range_with_len 0 n) k) →
    r ≡ all test n
all_indices test n true h =
    sym (all_of test n (λ i l. rw (get_or-range_with_len 0 n i 0 l, zero-add i) at (h i 0 (omega arith) (omega (arith, length-range_with_len 0 n)))))
all_indices test n false (k, l, h) =
    let inside : k < n = omega (arith, length-range_with_len 0 n) in
    sym (all_fails test n k inside (rw (get_or-range_with_len 0 n k 0 inside, zero-add k) at (h 0)))

-- a count that is not 0
pub not_none : (n : ℕ) → not (eqb n 0) ≡ true → 0 < n
not_none n h = go (eqb n 0) refl h
  where
    go : (t : Bool) → eqb n 0 ≡ t → not t ≡ true → 0 < n
    go true e h = absurd (mathlib.Core.Bool.false≢true h)
    go false e h = omega (arith, eqb-false n 0 e)

-- no fault: the test holds
pub passed : (n : ℕ) (test : Bool) → 0 < n → n unless test ≡ 0 → test ≡ true
passed n true h e = refl
passed n false h e = absurd (omega arith)

-- no fault in a row of tests: none at its head, and none after
pub none : (n : ℕ) (ns : List ℕ) → first_of (n ∷ ns) ≡ 0 → (n ≡ 0) × (first_of ns ≡ 0)
none n ns e = go (eqb n 0) refl e
  where
    go : (b : Bool) → eqb n 0 ≡ b → choose b (first_of ns) n ≡ 0 → (n ≡ 0) × (first_of ns ≡ 0)
    go true t f = (eqb-true n 0 t, f)
    go false t f = (f, let z : eqb n 0 ≡ true = rw f in let z : ◌≡◌ {A = ℕ} 0 1 = cc in absurd (omega arith))

-- what holds of a test's number and of the row's first fault after it holds of the row's first fault
pub first_is : (P : ℕ → Type 0) (n : ℕ) (test : Bool) (ns : List ℕ) → P n → P (first_of ns) → P (first_of (n unless test ∷ ns))
first_is P n true ns h more = more
first_is P n false ns h more = go (eqb n 0)
  where
    go : (b : Bool) → P (choose b (first_of ns) n)
    go true = more
    go false = h

-- one row of tests after another
pub rows_is : (P : ℕ → Type 0) (n m : ℕ) → P n → P m → P (first_of (n ∷ m ∷ []))
rows_is P n m h k = go (eqb n 0) (eqb m 0) (eqb-true m 0)
  where
    go : (b d : Bool) → (d ≡ true → m ≡ 0) → P (choose b (choose d 0 m) n)
    go true true e = rw (sym (e refl)) k
    go true false e = k
    go false d e = h

-- a callee's answer, where a test of it failed or held
pub fails : {answer test : Bool} → answer ≡ test → answer ≡ false → test ≡ false
fails e t = sym e ∙ t

pub holds : {answer test : Bool} → answer ≡ test → answer ≡ true → test ≡ true
holds e t = sym e ∙ t
