-- The net sections W, F and T never rise with rot or lost area.
-- Assumes nothing.
use Rattle.section.specs.Fraction.{Sound, whole, ◌⊑◌}
use Rattle.section.specs.Sawn.{sawn_modulus, sawn_area, area_left}
use Rattle.section.proofs.Order.{⊑_refl, ·_mono, ÷_mono, ·_sound, ÷_sound, whole_sound, square_sound, whole_mono, square_mono}
use Prim.Native.Nat.{ℕ, suc, ◌-◌, ◌*◌, ◌≤◌}
use mathlib.Core.Path.{◌≡◌, refl}
use mathlib.Core.Bool.{Bool, true, false}
use native.Mathlib.Nat.{mul-le-mul, mul-le-mul_left}
use native.Mathlib.Omega.{arith}
use lib.Dec.{leb}
use lib.ListN.{get_or}
use borrow.Author.Tests.{le-leb, leb-true}
use Rattle.section.specs.Choose.{choose}
use Rattle.section.specs.Log.{net_diameter, log_table, log_modulus, tiered_modulus}
use Rattle.section.proofs.Table.{never_falls}

-- W of a log never falls with the net diameter, as far as the table goes
pub log_modulus_mono : (m n : ℕ) → m ≤ n → n ≤ 39 → log_modulus m ≤ log_modulus n
unfolding log_modulus log_table
log_modulus_mono m n p h = go (leb 13 m) refl
  where
    go : (t : Bool) → leb 13 m ≡ t → choose t (get_or log_table (m - 13) 0) 0 ≤ log_modulus n
    go true e =
        let low : 13 ≤ m = leb-true 13 m e in
        rw (le-leb 13 n (omega arith)) (never_falls 0 log_table refl (suc (m - 13)) (suc (n - 13)) (omega arith) (omega arith))
    go false e = omega arith

pub log_modulus_cap : (n : ℕ) → n ≤ 39 → log_modulus n ≤ 5824
unfolding log_modulus log_table
log_modulus_cap n h = log_modulus_mono n 39 h (omega arith)

pub net_diameter_cap : (d rot : ℕ) → net_diameter d rot ≤ d
unfolding net_diameter
net_diameter_cap d rot = omega arith

-- what the sound tiers add fits
pub tiers_cap : (tiers w : ℕ) → tiers ≤ 3 → w ≤ 5824 → (tiers - 1) * w ≤ 11648
tiers_cap tiers w p q = omega (arith, mul-le-mul {n₁ = tiers - 1} {n₂ = 2} (omega arith) q)

pub tiered_modulus_cap : (d rot tiers : ℕ) → d ≤ 39 → tiers ≤ 3 → tiered_modulus d rot tiers ≤ 17472
unfolding tiered_modulus
tiered_modulus_cap d rot tiers p q =
    omega (
      arith,
      log_modulus_cap (net_diameter d rot) (omega (arith, net_diameter_cap d rot)),
      tiers_cap tiers (log_modulus d) q (log_modulus_cap d p),
    )

pub tiered_modulus_falls : (d rot rot' tiers : ℕ) → rot ≤ rot' → d ≤ 39 → tiered_modulus d rot' tiers ≤ tiered_modulus d rot tiers
unfolding tiered_modulus net_diameter
tiered_modulus_falls d rot rot' tiers p h =
    omega (arith, log_modulus_mono (d - 2 * rot') (d - 2 * rot) (omega arith) (omega arith))

-- what the products of a beam's pieces, net width and net height come to at most
pub record BeamCaps (n b h : ℕ) : Type 0 where
  pub pieces : n * b ≤ 2400
  pub area : n * b * h ≤ 144000
  pub square : h * h ≤ 3600
  pub modulus : n * b * (h * h) ≤ 8640000

pub beam_caps : (n b h : ℕ) → n ≤ 40 → b ≤ 60 → h ≤ 60 → BeamCaps n b h
beam_caps n b h pn pb ph =
    let across : n * b ≤ 2400 = mul-le-mul pn pb in
    let upright : h * h ≤ 3600 = mul-le-mul ph ph in
    record { pieces = across; area = mul-le-mul across ph; square = upright; modulus = mul-le-mul across upright }

pub sawn_modulus_sound : (w h side top n : ℕ) → Sound (sawn_modulus w h side top n)
unfolding sawn_modulus whole
sawn_modulus_sound w h side top n =
    ÷_sound _ (·_sound (·_sound (whole_sound _) (whole_sound _)) (square_sound (whole_sound _))) (omega arith)

pub sawn_modulus_falls : (w h side side' top top' n : ℕ) → side ≤ side' → top ≤ top' → sawn_modulus w h side' top' n ⊑ sawn_modulus w h side top n
unfolding sawn_modulus
sawn_modulus_falls w h side side' top top' n p q =
    ÷_mono (whole 6) (·_mono (·_mono ⊑_refl (whole_mono (omega arith))) (square_mono (whole_mono (omega arith))))

pub sawn_area_falls : (w h side side' top top' n lost lost' : ℕ) → side ≤ side' → top ≤ top' → lost ≤ lost' →
    sawn_area w h side' top' n lost' ≤ sawn_area w h side top n lost
unfolding sawn_area
sawn_area_falls w h side side' top top' n lost lost' p q r =
    omega (
      arith,
      mul-le-mul {n₁ = n * (w - side')} {m₁ = h - top'} {n₂ = n * (w - side)} {m₂ = h - top}
          (mul-le-mul_left {m = w - side'} {n = w - side} n (omega arith))
          (omega arith),
    )

pub area_left_falls : (area lost lost' : ℕ) → lost ≤ lost' → area_left area lost' ≤ area_left area lost
unfolding area_left
area_left_falls area lost lost' p = omega arith
