-- A margin is a difference of two loads: where both are below 2^63 a signed number of 64 bits holds it, and it is not negative exactly where
-- the vehicle load is at most the permitted load.
-- Assumes nothing.
use Prim.Native.Nat.{ℕ, zero, suc, ◌+◌, ◌-◌}
use mathlib.Core.Path.{◌≡◌}
use native.Mathlib.Decide.{dec_le}
use native.Mathlib.Omega.{arith}
use lib.Dec.{leb}
use lib.IntN.{pos, ◌-ℤ◌}
use lib.Signed.{le_z}
use borrow.Author.Tests.{le-leb, lt-leb, le-ltb, lt-ltb}
use mir.Syntax.{w64}
use mir.Val.{SFits}
use Rattle.section.specs.Units.{FitsSigned}

pub margin_fits : (p l : ℕ) → FitsSigned p → FitsSigned l → SFits w64 (pos p -ℤ pos l)
margin_fits p zero h k = record { sfits = omega arith }
margin_fits p (suc l) h k =
    elim (dec_le (suc l) p) [
      | yes b ↦ rw (le-ltb p (suc l) b) (record { sfits = omega arith })
      | no b ↦ rw (lt-ltb p (suc l) (omega arith)) (record { sfits = omega arith })
    ]

pub margin_sign : (p l : ℕ) → le_z (pos 0) (pos p -ℤ pos l) ≡ leb l p
margin_sign p zero = rw (le-leb 0 p (omega arith), le-leb 0 (p + 0) (omega arith))
margin_sign p (suc l) =
    elim (dec_le (suc l) p) [
      | yes b ↦ rw (le-ltb p (suc l) b, le-leb (suc l) p b, le-leb 0 (p - suc l) (omega arith))
      | no b ↦ rw (lt-ltb p (suc l) (omega arith), lt-leb (suc l) p (omega arith))
    ]
