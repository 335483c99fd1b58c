-- What is written into the lent list, two entries a member.
-- Assumes nothing.
use Prim.Native.Nat.{ℕ, zero, suc, ◌+◌, ◌-◌, ◌*◌, ◌≤◌, ◌<◌}
use mathlib.Core.Path.{◌≡◌, refl, ap, sym, ◌∙◌}
use mathlib.Core.List.{List, [], ◌∷◌, ◌++◌}
use native.Mathlib.Decide.{dec_lt}
use native.Mathlib.Omega.{arith}
use lib.ListN.{length, drop, get_or, set, length-append, length-drop, get_or-append}
use lib.Seq.{get_or-take, get_or-append-add, get_or-drop}
use Rattle.member.specs.declared.record.Survey.{Survey}
use Rattle.member.specs.declared.record.Vehicle.{Vehicle}
use Rattle.rating.specs.Judgement.{permitted_for, rating_of, written}
use Rattle.rating.specs.Surveyed.{AllowedSurvey, member_at, members_of}
use Rattle.rating.proofs.Surveys.{members_counted}
use Rattle.rating.proofs.Turns.{pair_stored}
use Rattle.rating.proofs.Written.{written_loads}
use Rattle.between.specs.Between.{in_turn, bounds_written}

module _ (lowest highest : ℕ → ℕ) where
  in_turn_length : (n : ℕ) → length (in_turn lowest highest n) ≡ 2 * n
  in_turn_length zero = refl
  in_turn_length (suc n) = simp length-append (omega (arith, in_turn_length n))

  pub bounds_none : (list : List ℕ) → list ≡ bounds_written lowest highest 0 list
  unfolding bounds_written
  bounds_none list = refl

  pub bounds_length : (n : ℕ) (list : List ℕ) → 2 * n ≤ length list → length (bounds_written lowest highest n list) ≡ length list
  unfolding bounds_written
  bounds_length n list h = simp (length-append, length-drop) (omega (arith, in_turn_length n))

  -- entry by entry
  in_turn_at : (n i : ℕ) → i < n → (get_or (in_turn lowest highest n) (2 * i) 0 ≡ lowest i) × (get_or (in_turn lowest highest n) (2 * i + 1) 0 ≡ highest i)
  in_turn_at zero i l = absurd (omega arith)
  in_turn_at (suc n) i l = go (dec_lt i n) (in_turn_at n i)
    where
      go : Dec (i < n) → (i < n → (get_or (in_turn lowest highest n) (2 * i) 0 ≡ lowest i) × (get_or (in_turn lowest highest n) (2 * i + 1) 0 ≡ highest i)) →
          (get_or (in_turn lowest highest (suc n)) (2 * i) 0 ≡ lowest i) × (get_or (in_turn lowest highest (suc n)) (2 * i + 1) 0 ≡ highest i)
      go (yes k) at =
          let more : (j : ℕ) → j < 2 * n → get_or (in_turn lowest highest (suc n)) j 0 ≡ get_or (in_turn lowest highest n) j 0 =
          λ j h. get_or-append (in_turn lowest highest n) (lowest n ∷ highest n ∷ []) 0 j (omega (arith, in_turn_length n)) in
          (more (2 * i) (omega arith) ∙ (at k).0, more (2 * i + 1) (omega arith) ∙ (at k).1)
      go (no k) at =
          let e : i ≡ n = omega arith in
          let low : 2 * n ≡ length (in_turn lowest highest n) + 0 = omega (arith, in_turn_length n) in
          let high : 2 * n + 1 ≡ length (in_turn lowest highest n) + 1 = omega (arith, in_turn_length n) in (
            rw (e, low) (get_or-append-add (in_turn lowest highest n) (lowest n ∷ highest n ∷ []) 0 0),
            rw (e, high) (get_or-append-add (in_turn lowest highest n) (lowest n ∷ highest n ∷ []) 1 0),
          )

  module _ (n : ℕ) (list : List ℕ) where
    pub bounds_at : (i : ℕ) → i < n → (get_or (bounds_written lowest highest n list) (2 * i) 0 ≡ lowest i) × (get_or (bounds_written lowest highest n list) (2 * i + 1) 0 ≡ highest i)
    unfolding bounds_written
    bounds_at i l =
        let in_turn_lem : (j : ℕ) → j < 2 * n → get_or (in_turn lowest highest n ++ drop (2 * n) list) j 0 ≡ get_or (in_turn lowest highest n) j 0 =
        λ j h. get_or-append (in_turn lowest highest n) (drop (2 * n) list) 0 j (omega (arith, in_turn_length n)) in
        (in_turn_lem (2 * i) (omega arith) ∙ (in_turn_at n i l).0, in_turn_lem (2 * i + 1) (omega arith) ∙ (in_turn_at n i l).1)

    pub bounds_beyond : (i : ℕ) → 2 * n ≤ i → get_or (bounds_written lowest highest n list) i 0 ≡ get_or list i 0
    unfolding bounds_written
    bounds_beyond i h =
        let at : i ≡ 2 * n + (i - 2 * n) = omega arith in
        let past : 2 * n + (i - 2 * n) ≡ length (in_turn lowest highest n) + (i - 2 * n) = omega (arith, in_turn_length n) in
        ap (λ k. get_or (in_turn lowest highest n ++ drop (2 * n) list) k 0) (at ∙ past) ∙
        get_or-append-add (in_turn lowest highest n) (drop (2 * n) list) (i - 2 * n) 0 ∙
        get_or-drop (2 * n) list (i - 2 * n) 0 ∙
        ap (λ k. get_or list k 0) (sym at)

  -- two entries more
  pub bounds_next : (list : List ℕ) (i : ℕ) → 2 * i + 2 ≤ length list →
      set (set (bounds_written lowest highest i list) (2 * i) (lowest i)) (2 * i + 1) (highest i) ≡ bounds_written lowest highest (i + 1) list
  unfolding bounds_written
  bounds_next list i h =
      rw (next, odd)
      (pair_stored (in_turn lowest highest i) list (2 * i) _ _ (in_turn_length i) h ∙ rw two refl)
    where
      next : i + 1 ≡ suc i
      next = omega arith

      odd : 2 * i + 1 ≡ suc (2 * i)
      odd = omega arith

      two : 2 * i + 2 ≡ 2 * suc i
      two = omega arith

-- the same numbers of every member give the same list
in_turn_same : {l l' h h' : ℕ → ℕ} (n : ℕ) → ((i : ℕ) → i < n → l i ≡ l' i) → ((i : ℕ) → i < n → h i ≡ h' i) → in_turn l h n ≡ in_turn l' h' n
in_turn_same zero e f = refl
in_turn_same (suc n) e f = rw (in_turn_same n (λ i k. e i (omega arith)) (λ i k. f i (omega arith)), e n (omega arith), f n (omega arith))

pub bounds_same : {l l' h h' : ℕ → ℕ} (n : ℕ) (list : List ℕ) → ((i : ℕ) → i < n → l i ≡ l' i) → ((i : ℕ) → i < n → h i ≡ h' i) →
    bounds_written l h n list ≡ bounds_written l' h' n list
unfolding bounds_written
bounds_same n list e f = ap (λ (xs : List ℕ). xs ++ drop (2 * n) list) (in_turn_same n e f)

-- the permitted loads in what a judgement writes
pub written_permitted : (v : Vehicle) {s : Survey} → AllowedSurvey s → (list : List ℕ) {now : List ℕ} → now ≡ written v (members_of s) list → (i : ℕ) → i < s.count →
    get_or now (2 * i) 0 ≡ permitted_for v (member_at s.members i)
unfolding rating_of
written_permitted v {s} a list e i l =
    rw (e, ← (get_or-take s.count s.members i _ l)) (written_loads v (members_of s) list i (rw (members_counted a) l)).0
