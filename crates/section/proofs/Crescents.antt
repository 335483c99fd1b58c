-- The section modulus of a log that rots from above only: no row rises with the depth, by one test that is computed over the printed table,
-- and the tenths that the program reads are those of the definition.
-- Assumes nothing.
use Prim.Native.Nat.{ℕ, suc, ◌+◌, ◌-◌, ◌*◌, ◌≤◌, ◌<◌, min}
use mathlib.Core.Path.{◌≡◌, refl, ap}
use mathlib.Core.Bool.{Bool, true, false, ◌&&◌, ◌||◌, and-eq-true_iff}
use mathlib.Core.Logic.{◌↔◌}
use mathlib.Core.List.{List, [], ◌∷◌}
use native.Mathlib.Omega.{arith}
use lib.Dec.{eqb, leb}
use lib.ListN.{length, get_or, get_or-eq_default}
use borrow.Author.Tests.{eqb-true, leb-true}
use Rattle.section.specs.Choose.{choose}
use Rattle.section.specs.Log.{log_modulus, log_table}
use Rattle.section.specs.Crescent.{Row, ◌∥◌, crescent_table, row_of, standing, crescent_row, crescent_modulus, tiered_crescent, NeverRises}
use Rattle.section.proofs.Table.{falling, never_rises, all_at, laid_out, entry}

-- a test that every row passes
abbrev each_row : (Row → Bool) → List Row → Bool
each_row test [] = true
each_row test (r ∷ rs) = test r && each_row test rs

-- is passed by the row of any diameter, if also by that of a diameter that has none
of_row : (test : Row → Bool) (d : ℕ) → test (d ∥ []) ≡ true → (rows : List Row) → each_row test rows ≡ true → test (d ∥ row_of d rows) ≡ true
of_row test d none [] t = none
of_row test d none (r ∷ rs) t = go (eqb d r.diameter) refl (of_row test d none rs both.1)
  where
    both : (test r ≡ true) × (each_row test rs ≡ true)
    both = (and-eq-true_iff (test r) (each_row test rs)).0 t

    go : (b : Bool) → eqb d r.diameter ≡ b → test (d ∥ row_of d rs) ≡ true → test (d ∥ choose b r.printed (row_of d rs)) ≡ true
    go true e rest = rw (eqb-true d r.diameter e) both.0
    go false e rest = rest

-- no printed W is above the one to its left, the first not above the sound W
abbrev row_falls : Row → Bool
row_falls r = falling (10 * log_modulus r.diameter) r.printed

-- the one check over the whole table
rows_fall : each_row row_falls crescent_table ≡ true
unfolding crescent_table log_modulus log_table
rows_fall = refl

row_falls_lem : (d : ℕ) → falling (10 * log_modulus d) (row_of d crescent_table) ≡ true
row_falls_lem d = of_row row_falls d refl crescent_table rows_fall

-- where none rises, what is printed stands
stands : (x : ℕ) (xs : List ℕ) → falling x xs ≡ true → standing x xs ≡ xs
stands x [] t = refl
stands x (y ∷ ys) t =
    let both = (and-eq-true_iff (leb y x) (falling y ys)).0 t in
    let least : min x y ≡ y = omega (arith, leb-true y x both.0) in
    rw least (ap (λ (zs : List ℕ). y ∷ zs) (stands y ys both.1))

row_stands : (d : ℕ) → crescent_row d ≡ 10 * log_modulus d ∷ row_of d crescent_table
unfolding crescent_row
row_stands d =
    ap (λ (ws : List ℕ). 10 * log_modulus d ∷ ws)
    (stands (10 * log_modulus d) (row_of d crescent_table) (row_falls_lem d))

pub crescent_falls : NeverRises
unfolding crescent_modulus
crescent_falls d depth depth' p =
    rw (row_stands d)
    (never_rises (10 * log_modulus d) (row_of d crescent_table) (row_falls_lem d) depth depth' p)

pub sound_crescent : (d : ℕ) → crescent_modulus d 0 ≡ 10 * log_modulus d
unfolding crescent_modulus crescent_row
sound_crescent d = refl

-- the diameters that have a row are those from 14 to 36
abbrev row_within : Row → Bool
row_within r = leb (length r.printed) 0 || (leb 14 r.diameter && leb r.diameter 36)

pub row_range : (d : ℕ) → (0 < length (row_of d crescent_table)) ↔ ((14 ≤ d) × (d ≤ 36))
unfolding crescent_table
row_range d = (λ h. go (leb (length (row_of d crescent_table)) 0) refl h (of_row row_within d refl crescent_table refl), there)
  where
    go : (b : Bool) → leb (length (row_of d crescent_table)) 0 ≡ b → 0 < length (row_of d crescent_table) → (b || (leb 14 d && leb d 36)) ≡ true → (14 ≤ d) × (d ≤ 36)
    go true e h t = absurd (omega (arith, leb-true (length (row_of d crescent_table)) 0 e))
    go false e h t = let both = (and-eq-true_iff (leb 14 d) (leb d 36)).0 t in (leb-true 14 d both.0, leb-true d 36 both.1)

    there : (14 ≤ d) × (d ≤ 36) → 0 < length (row_of d crescent_table)
    there h =
        let e : 14 + (d - 14) ≡ d = omega arith in
        leb-true 1 _ (rw e at (all_at (λ r. leb 1 (length (row_of (14 + r) crescent_table))) 23 refl (d - 14) (omega arith)))

-- past a row's end there is 0, and no row is longer than the page is wide
past_the_row : (d depth : ℕ) → length (row_of d crescent_table) < depth → crescent_modulus d depth ≡ 0
unfolding crescent_modulus
past_the_row d depth h =
    rw (row_stands d) (get_or-eq_default (10 * log_modulus d ∷ row_of d crescent_table) 0 {n = depth} h)

abbrev row_short : Row → Bool
row_short r = leb (length r.printed) 17

pub past_the_page : (d depth : ℕ) → 17 < depth → crescent_modulus d depth ≡ 0
unfolding crescent_table
past_the_page d depth h =
    past_the_row d depth (omega (arith, leb-true (length (row_of d crescent_table)) 17 (of_row row_short d refl crescent_table refl)))

-- a table of tenths by diameter from 14 and depth from 1
pub crescent_entry : (table : List ℕ) → laid_out 17 23 table (λ r c. crescent_modulus (14 + r) (suc c)) ≡ true → (d depth : ℕ) → 14 ≤ d → d ≤ 36 → 0 < depth → depth ≤ 17 →
    get_or table (17 * (d - 14) + (depth - 1)) 0 ≡ crescent_modulus d depth
crescent_entry table agree d depth low high some deep =
    let row : 14 + (d - 14) ≡ d = omega arith in
    let column : suc (depth - 1) ≡ depth = omega arith in
    rw (row, column) at (entry 17 23 table (λ r c. crescent_modulus (14 + r) (suc c)) agree (d - 14) (depth - 1) (omega arith) (omega arith))

pub tiered_crescent_falls : (d depth depth' tiers : ℕ) → depth ≤ depth' → tiered_crescent d depth' tiers ≤ tiered_crescent d depth tiers
unfolding tiered_crescent
tiered_crescent_falls d depth depth' tiers p = omega (arith, crescent_falls d depth depth' p)
