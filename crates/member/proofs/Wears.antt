-- Rot and losses of a section stand in its own fields, s1 to s6.
-- Assumes nothing.
use Prim.Native.Nat.{ℕ, ◌≤◌, ◌<◌}
use mathlib.Core.Path.{◌≡◌, refl}
use mathlib.Core.Bool.{Bool, true, false}
use mathlib.Core.List.{List}
use mathlib.Core.Logic.{◌⊎◌, ⊎_elim}
use native.Mathlib.Omega.{arith}
use lib.Dec.{eqb}
use borrow.Author.Tests.{ne_eqb}
use Rattle.section.specs.Choose.{choose}
use Rattle.member.specs.Fields.{S1, S2, S3, S4, S5, S6}
use Rattle.member.specs.Format.{holds}
use Rattle.member.specs.Wear.{rot_fields, lost_fields}

pub neither_holds : (f : ℕ) (b : Bool) (xs ys : List ℕ) → holds f xs ≡ false → holds f ys ≡ false → holds f (choose b xs ys) ≡ false
neither_holds f true xs ys h k = h
neither_holds f false xs ys h k = k

-- a field that is none of a section's
abbrev pub Outside : ℕ → Type 0
Outside f = (f < S1) ⊎ (S6 < f)

module _ (f : ℕ) (o : Outside f) where
  pub unlike : (s : ℕ) → S1 ≤ s → s ≤ S6 → eqb f s ≡ false
  unlike s l h = ne_eqb f s (λ e. ⊎_elim (λ a. omega arith) (λ a. omega arith) o)

  pub no_rot : (code : ℕ) → holds f (rot_fields code) ≡ false
  unfolding rot_fields
  no_rot code =
      neither_holds f (eqb code 1) _ _ (rw (unlike S2 (omega arith) (omega arith)))
      (neither_holds f (eqb code 2) _ _ (rw (unlike S3 (omega arith) (omega arith), unlike S4 (omega arith) (omega arith)))
      (neither_holds f (eqb code 3) _ _ (rw (unlike S5 (omega arith) (omega arith))) (neither_holds f (eqb code 5) _ _ (rw (unlike S2 (omega arith) (omega arith))) refl)))

  pub no_loss : (code : ℕ) → holds f (lost_fields code) ≡ false
  unfolding lost_fields
  no_loss code =
      neither_holds f (eqb code 2) _ _ (rw (unlike S6 (omega arith) (omega arith))) (neither_holds f (eqb code 4) _ _ (rw (unlike S2 (omega arith) (omega arith))) refl)
