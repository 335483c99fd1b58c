-- What the code computes: whole numbers, every height multiplied by P × (U - P). Nothing here has to be believed:
-- proofs/Greatest.antt ties it to Influence.
use Rattle.std.specs.Prelude.{ℕ, ◌+◌, ◌-◌, ◌*◌, max, leb}
use Rattle.section.specs.Choose.{choose}
use Rattle.section.specs.Greatest.{top}
use Rattle.influence.specs.Influence.{total}

unfoldable pub scaled_height : (U P s : ℕ) → ℕ
scaled_height U P s = choose (leb s P) (s * (U - P)) ((U - s) * P)

unfoldable pub scaled_sum : (U P : ℕ) (w b : ℕ → ℕ) (n u : ℕ) → ℕ
scaled_sum U P w b n u = total (λ i. w i * scaled_height U P (u - b i)) n

-- the greatest over the positions that put an axle over the apex
unfoldable pub apex_top : (U P : ℕ) (w b : ℕ → ℕ) (n : ℕ) → ℕ
apex_top U P w b n = top (λ j. scaled_sum U P w b n (P + b j)) n

unfoldable pub scaled_greatest : (U P : ℕ) (w b : ℕ → ℕ) (n : ℕ) → ℕ
scaled_greatest U P w b n = max (apex_top U P w b n) (apex_top U (U - P) w b n)
