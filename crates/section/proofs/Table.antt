-- Tables: a test that antt computes over the whole table, and the law that turns it into the rule at each of its entries.
-- Assumes nothing.
use Prim.Native.Nat.{ℕ, zero, suc, ◌+◌, ◌*◌, ◌≤◌, ◌<◌, zero-le}
use mathlib.Core.Path.{◌≡◌}
use mathlib.Core.Bool.{Bool, true, ◌&&◌, and-eq-true_iff}
use mathlib.Core.List.{List, [], ◌∷◌}
use native.Mathlib.Nat.{le_trans, le_refl, le_of_suc-le-suc, not-suc-le-zero}
use native.Mathlib.Decide.{dec_lt}
use native.Mathlib.Omega.{arith}
use lib.Dec.{eqb, leb}
use lib.ListN.{length, get_or, get_or-eq_default}
use borrow.Author.Tests.{leb-true, eqb-true}
use Rattle.section.specs.Choose.{all}

-- a test that holds of every index holds of each
pub all_at : (test : ℕ → Bool) (n : ℕ) → all test n ≡ true → (i : ℕ) → i < n → test i ≡ true
all_at test zero e i h = absurd (omega arith)
all_at test (suc n) e i h = go (dec_lt i n) (all_at test n ((and-eq-true_iff (all test n) (test n)).0 e).0 i)
  where
    go : Dec (i < n) → (i < n → test i ≡ true) → test i ≡ true
    go (yes l) below = below l
    go (no ge) below = let at : i ≡ n = omega arith in rw at ((and-eq-true_iff (all test n) (test n)).0 e).1

-- a table that is laid out row by row has the value of row r and column c at its place
abbrev pub laid_out : (columns rows : ℕ) (table : List ℕ) (value : (r c : ℕ) → ℕ) → Bool
laid_out columns rows table value = all (λ r. all (λ c. eqb (get_or table (columns * r + c) 0) (value r c)) columns) rows

pub entry : (columns rows : ℕ) (table : List ℕ) (value : (r c : ℕ) → ℕ) → laid_out columns rows table value ≡ true → (r c : ℕ) → r < rows → c < columns →
    get_or table (columns * r + c) 0 ≡ value r c
entry columns rows table value agree r c hr hc =
    eqb-true _ _ (all_at (λ c. eqb (get_or table (columns * r + c) 0) (value r c)) columns
    (all_at (λ r. all (λ c. eqb (get_or table (columns * r + c) 0) (value r c)) columns) rows agree r hr)
    c
    hc)

-- x and the entries after it: each passes a test with the one before it
abbrev pub in_order : (test : (a b : ℕ) → Bool) → ℕ → List ℕ → Bool
in_order test x [] = true
in_order test x (y ∷ ys) = test x y && in_order test y ys

-- then any two of them are so related, if the relation that the test decides goes on from one to the next
module _ (test : (a b : ℕ) → Bool) (R : ℕ → ℕ → Type 0) (decides : (a b : ℕ) → test a b ≡ true → R a b) (same : (a : ℕ) → R a a)
    (on : (a b c : ℕ) → R a b → R b c → R a c) where
  first : (x : ℕ) (xs : List ℕ) → in_order test x xs ≡ true → (j : ℕ) → j < length xs → R x (get_or xs j 0)
  first x [] t j h = absurd (not-suc-le-zero h)
  first x (y ∷ ys) t zero h = decides x y ((and-eq-true_iff (test x y) (in_order test y ys)).0 t).0
  first x (y ∷ ys) t (suc j) h =
      let p = (and-eq-true_iff (test x y) (in_order test y ys)).0 t in
      on x y (get_or ys j 0) (decides x y p.0) (first y ys p.1 j (le_of_suc-le-suc h))

  pub any_two : (x : ℕ) (xs : List ℕ) → in_order test x xs ≡ true → (i j : ℕ) → i ≤ j → j < length (x ∷ xs) → R (get_or (x ∷ xs) i 0) (get_or (x ∷ xs) j 0)
  any_two x xs t zero zero p h = same x
  any_two x xs t zero (suc j) p h = first x xs t j (le_of_suc-le-suc h)
  any_two x xs t (suc i) zero p h = absurd (not-suc-le-zero p)
  any_two x [] t (suc i) (suc j) p h = absurd (not-suc-le-zero (le_of_suc-le-suc h))
  any_two x (y ∷ ys) t (suc i) (suc j) p h =
      any_two y ys ((and-eq-true_iff (test x y) (in_order test y ys)).0 t).1 i j (le_of_suc-le-suc p) (le_of_suc-le-suc h)

-- a table that never falls
pub never_falls : (x : ℕ) (xs : List ℕ) → in_order leb x xs ≡ true → (i j : ℕ) → i ≤ j → j < length (x ∷ xs) → get_or (x ∷ xs) i 0 ≤ get_or (x ∷ xs) j 0
never_falls = any_two leb (λ a b. a ≤ b) leb-true le_refl (λ a b c p q. le_trans p q)

-- a row that never rises, nor past its end, where it has 0
abbrev pub falling : ℕ → List ℕ → Bool
falling = in_order (λ a b. leb b a)

pub never_rises : (x : ℕ) (xs : List ℕ) → falling x xs ≡ true → (i j : ℕ) → i ≤ j → get_or (x ∷ xs) j 0 ≤ get_or (x ∷ xs) i 0
never_rises x xs t i j p = go (dec_lt j (length (x ∷ xs)))
  where
    go : Dec (j < length (x ∷ xs)) → get_or (x ∷ xs) j 0 ≤ get_or (x ∷ xs) i 0
    go (yes h) = any_two (λ a b. leb b a) (λ a b. b ≤ a) (λ a b. leb-true b a) le_refl (λ a b c p q. le_trans q p) x xs t i j p h
    go (no h) = rw (get_or-eq_default (x ∷ xs) 0 {n = j} (omega arith)) zero-le

-- a table whose entries are at most c
abbrev pub all_at_most : ℕ → List ℕ → Bool
all_at_most c [] = true
all_at_most c (y ∷ ys) = leb y c && all_at_most c ys

pub at_most_lem : (c : ℕ) (xs : List ℕ) → all_at_most c xs ≡ true → (i : ℕ) → get_or xs i 0 ≤ c
at_most_lem c [] t i = zero-le
at_most_lem c (y ∷ ys) t zero = leb-true y c ((and-eq-true_iff (leb y c) (all_at_most c ys)).0 t).0
at_most_lem c (y ∷ ys) t (suc i) = at_most_lem c ys ((and-eq-true_iff (leb y c) (all_at_most c ys)).0 t).1 i
