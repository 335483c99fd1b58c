-- A test holds or fails, and two tests may be the same; what holds of both cases holds of the one that a test chooses.
-- Assumes nothing.
use mathlib.Core.Path.{◌≡◌, refl, sym}
use mathlib.Core.Bool.{Bool, true, false}
use mathlib.Core.Logic.{◌⊎◌, inl, inr}
use Rattle.section.specs.Choose.{choose}

pub decided : (t : Bool) → (t ≡ true) ⊎ (t ≡ false)
decided true = inl refl
decided false = inr refl

-- two tests that follow from each other are the same
pub same_test : (a b : Bool) → (a ≡ true → b ≡ true) → (b ≡ true → a ≡ true) → a ≡ b
same_test true b f g = sym (f refl)
same_test false true f g = g refl
same_test false false f g = refl

pub of_choose : {X : Type 0} (P : X → Type 0) (t : Bool) {a b : X} → P a → P b → P (choose t a b)
of_choose P true p q = p
of_choose P false p q = q
