-- The permitted load of each kind as a formula of its named quantities. Document 01, 'Permitted load', the table: in each row
-- what stands in front, what the dead load takes, and the divisor.
use Rattle.std.specs.Prelude.{ℕ, ◌+◌, ◌<◌, ◌≡◌}
use Rattle.section.specs.Fraction.{Fraction, Sound, whole, tenths, square, floor, ◌·◌, ◌÷◌, ◌⊕◌, ◌⊖◌, ◌⊑◌, ◌⊏◌}

infix 50 ⟨◌−◌⟩/◌
-- a permitted load (front − dead) / divisor, in kgf/cm, whose difference may be negative
pub record Formula : Type 0 where
  pub front : Fraction
  pub dead : Fraction
  pub divisor : Fraction

abbrev pub ⟨◌−◌⟩/◌ : Fraction → Fraction → Fraction → Formula
⟨ a − b ⟩/ c = record { front = a; dead = b; divisor = c }

-- (13) stringer
unfoldable pub stringer : (W K n q l Kₐ : Fraction) → Formula
stringer W K n q l Kₐ = ⟨ whole 1536 · W · K − tenths 12 · q · square l ⟩/ (n · Kₐ · square l)

-- (10) closely spaced stringer: document 02, request 2/13, "(3072WK − 2.4ql²) / (nβl²)"
unfoldable pub close_stringer : (W K n q l β : Fraction) → Formula
close_stringer W K n q l β = ⟨ whole 3072 · W · K − tenths 24 · q · square l ⟩/ (n · β · square l)

-- (30) cross beam
unfoldable pub cross_beam : (W K n q l x : Fraction) → Formula
cross_beam W K n q l x = ⟨ whole 1280 · W · K − tenths 12 · q · square l ⟩/ (n · x · l)

-- (27) chord
unfoldable pub chord : (h F K n q l x Kₐ : Fraction) → Formula
chord h F K n q l x Kₐ = ⟨ whole 200 · h · F · K − tenths 12 · q · (l ⊖ x) · x ⟩/ (n · Kₐ · (l ⊖ x) · x)

-- the joints (29), (33) and (34), which differ in what stands in front
unfoldable pub joint : (front n q μ l x Kₐ : Fraction) → Formula
joint front n q μ l x Kₐ = ⟨ front − tenths 12 · q · μ · (l ⊖ x) · x ⟩/ (μ · n · Kₐ · (l ⊖ x) · x)

-- (29) dowelled joint
unfoldable pub dowelled : (h T K cuts : Fraction) → Fraction
dowelled h T K cuts = whole 2 · h · T · K · cuts

-- (33) keyed joint
unfoldable pub keyed : (h F S : Fraction) → Fraction
keyed h F S = tenths 224 · h · F · S

-- (34) steel plates
unfoldable pub plates : (h F : Fraction) → Fraction
plates h F = whole 3800 · h · F

-- "The result times 100, rounded down once, is the permitted load; where it is negative the permitted load is 0." A
-- difference that would fall below 0 gives 0.
unfoldable pub permitted : Formula → ℕ
permitted f = floor ((f.front ⊖ f.dead) ÷ f.divisor · whole 100)

-- the exact value is negative
abbrev pub Negative : Formula → Type 0
Negative f = f.front ⊏ f.dead

-- a fraction above 0
pub record Positive (a : Fraction) : Type 0 where
  pub sound : Sound a
  pub above_0 : 0 < a.num

-- "with a divisor above 0": what makes multiplying out mean anything
pub record Valid (f : Formula) : Type 0 where
  pub front : Sound f.front
  pub dead : Sound f.dead
  pub divisor : Positive f.divisor

-- What demand 3 says of a permitted load p, by multiplying out: "0 where its exact value is negative; else never above it and
-- less than one unit below". The exact value is (front − dead) / divisor × 100.
pub record Permitted (f : Formula) (p : ℕ) : Type 0 where
  pub valid : Valid f
  pub negative : Negative f → p ≡ 0
  pub never_above : f.dead ⊑ f.front → whole p · f.divisor ⊕ whole 100 · f.dead ⊑ whole 100 · f.front
  pub near : f.dead ⊑ f.front → whole 100 · f.front ⊏ whole (p + 1) · f.divisor ⊕ whole 100 · f.dead
