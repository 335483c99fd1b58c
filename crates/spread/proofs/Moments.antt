-- Moments of inertia in twelfths: whole numbers, with their bounds.
-- Assumes nothing.
use Prim.Native.Nat.{ℕ, ◌+◌, ◌*◌, ◌≤◌}
use mathlib.Core.Path.{ap}
use native.Mathlib.Omega.{arith}
use Rattle.section.specs.Fraction.{Fraction, Sound, over, whole, cube, ◌·◌, ◌÷◌, ◌⊕◌, ◌≐◌}
use Rattle.section.proofs.Order.{≐_sym, ·_sound, ÷_sound, ⊕_sound, whole_sound, ⊕_over, times_over}
use Rattle.section.proofs.Products.{product_cap}
use Rattle.section.proofs.Sections.{sawn_modulus_sound}
use Rattle.spread.specs.Inertia.{inertia, log_inertia, tiered_inertia, sawn_inertia, deck_inertia}

inertia_sound : {W h : Fraction} → Sound W → Sound h → Sound (inertia W h)
unfolding inertia whole
inertia_sound {W} {h} s t = ·_sound s (÷_sound (whole 2) t (omega arith))

log_inertia_sound : (net : ℕ) → Sound (log_inertia net)
unfolding log_inertia
log_inertia_sound net = inertia_sound (whole_sound _) (whole_sound net)

pub tiered_inertia_sound : (d rot tiers : ℕ) → Sound (tiered_inertia d rot tiers)
unfolding tiered_inertia
tiered_inertia_sound d rot tiers = ⊕_sound (log_inertia_sound _) (·_sound (whole_sound _) (log_inertia_sound d))

pub sawn_inertia_sound : (w h side top n : ℕ) → Sound (sawn_inertia w h side top n)
unfolding sawn_inertia
sawn_inertia_sound w h side top n = inertia_sound (sawn_modulus_sound w h side top n) (whole_sound _)

pub deck_inertia_sound : (count thickness width rot : ℕ) → Sound (deck_inertia count thickness width rot)
unfolding deck_inertia cube whole ◌·◌ ◌÷◌
deck_inertia_sound count thickness width rot = record { above_0 = omega arith }

-- W in sixths times the height is the moment of inertia in twelfths
pub inertia_in_twelfths : (w h : ℕ) {W : Fraction} → over w 6 ≐ W → over (w * h) 12 ≐ inertia W (whole h)
unfolding inertia over whole ◌·◌ ◌÷◌
inertia_in_twelfths w h {W} e = record { out = omega (arith, ap (λ (x : ℕ). x * (2 * h)) e.out) }

-- the top tier and the others, in twelfths
pub tiers_added : (x y n : ℕ) {a b : Fraction} → over x 12 ≐ a → over y 12 ≐ b → over (x + n * y) 12 ≐ a ⊕ whole n · b
tiers_added x y n e f = ≐_sym (⊕_over x (n * y) 12 (≐_sym e) (times_over n y 12 (≐_sym f)))

-- the boards' net thickness is at most 20, their width 60 and their count 10
pub record DeckCaps (t w n : ℕ) : Type 0 where
  pub square : t * t ≤ 400
  pub cube : t * t * t ≤ 8000
  pub board : w * (t * t * t) ≤ 480000
  pub deck : w * (t * t * t) * n ≤ 4800000

pub deck_caps : (t w n : ℕ) → t ≤ 20 → w ≤ 60 → n ≤ 10 → DeckCaps t w n
deck_caps t w n ht hw hn =
    let square : t * t ≤ 400 = product_cap 20 20 ht ht in
    let cube : t * t * t ≤ 8000 = product_cap 400 20 square ht in
    let board : w * (t * t * t) ≤ 480000 = product_cap 60 8000 hw cube in
    record { square = square; cube = cube; board = board; deck = product_cap 480000 10 board hn }
