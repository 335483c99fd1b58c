-- Laws of `each`, the list f 0, .., f (n - 1): it is n long, has f i at i, is the same for functions that agree below n, and a loop that
-- stores f i at i over blanks makes it one longer.
use Prim.Native.Nat.{ℕ, zero, suc, ◌+◌, ◌-◌, ◌<◌}
use mathlib.Core.Path.{◌≡◌, refl, ap, sym, ◌∙◌}
use mathlib.Core.List.{List, [], ◌∷◌, ◌++◌, append_assoc}
use native.Mathlib.Numerals.{add-one}
use native.Mathlib.Omega.{arith}
use native.Mathlib.Decide.{dec_lt}
use lib.ListN.{length, get_or, set, replicate, length-append, get_or-append}
use lib.Seq.{set_at, append_snoc, get_or_at}
use Rattle.files.specs.Words.{each}

module _ {ℓ} {X : Type ℓ} (f : ℕ → X) where
  pub length_each : (n : ℕ) → length (each f n) ≡ n
  length_each zero = refl
  length_each (suc n) = simp length-append (omega (arith, length_each n))

  -- the list up to n has f i after the list up to i
  pub each_split : (i n : ℕ) → i < n → (rest : List X) × (each f n ≡ each f i ++ f i ∷ rest)
  each_split i zero h = absurd (omega arith)
  each_split i (suc n) h = go (dec_lt i n) (each_split i n)
    where
      go : Dec (i < n) → (i < n → (rest : List X) × (each f n ≡ each f i ++ f i ∷ rest)) → (rest : List X) × (each f (suc n) ≡ each f i ++ f i ∷ rest)
      go (yes l) at = ((at l).0 ++ f n ∷ [], ap (λ (xs : List X). xs ++ f n ∷ []) (at l).1 ∙ append_assoc (each f i) (f i ∷ (at l).0) (f n ∷ []))
      go (no ge) at = let e : n ≡ i = omega arith in ([], rw e)

  pub getD_each : (n i : ℕ) (d : X) → i < n → get_or (each f n) i d ≡ f i
  getD_each n i d h =
      rw (each_split i n h).1 (get_or_at (each f i) (f i) (each_split i n h).0 d i (length_each i))

  -- one store more, over the first blank
  pub store_each : (room i : ℕ) (blank : X) → i < room → set (each f i ++ replicate (room - i) blank) i (f i) ≡ each f (i + 1) ++ replicate (room - (i + 1)) blank
  store_each room i blank h =
      let left : room - i ≡ suc (room - suc i) = omega arith in
      rw (add-one, left) (set_at (each f i) blank (replicate (room - suc i) blank) (f i) i (length_each i) ∙ sym (append_snoc (each f i) (f i) (replicate (room - suc i) blank)))

module _ {ℓ} {X : Type ℓ} where
  -- functions that agree below n give the same list
  pub each_same : {f g : ℕ → X} (n : ℕ) → ((i : ℕ) → i < n → f i ≡ g i) → each f n ≡ each g n
  each_same zero h = refl
  each_same (suc n) h = rw (each_same n (λ i l. h i (omega arith)), h n (omega arith))

  pub getD_padded : (f : ℕ → X) (n i : ℕ) (pad : List X) (d : X) → i < n → get_or (each f n ++ pad) i d ≡ f i
  getD_padded f n i pad d h =
      let within : i < length (each f n) = omega (arith, length_each f n) in
      get_or-append (each f n) pad d i within ∙ getD_each f n i d h
