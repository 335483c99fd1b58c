-- The order of the records in one survey. Document 02, request 8/13: "From survey version 2 the records stand by kind, then span, then
-- spacing, each rising; equals stand as they come."
use Rattle.std.specs.Prelude.{ℕ, ◌-◌, ◌<◌, ◌≡◌, Bool, false, ◌&&◌, List, [], ◌∷◌, ◌⊎◌, eqb, ltb}
use Rattle.section.specs.Choose.{choose}
use Rattle.member.specs.Fields.{KIND, SPAN, SPACING, field}
use Rattle.member.specs.declared.record.Member.{Member}

-- "by kind, then span, then spacing"
abbrev pub sequence_fields : List ℕ
sequence_fields = KIND ∷ SPAN ∷ SPACING ∷ []

-- a record stands before another by these fields, "each rising": in the first of them in which the two differ it has the lesser number.
-- "equals" differ in none, and neither stands before the other
unfoldable pub before : List ℕ → (m m' : Member) → Bool
before [] m m' = false
before (f ∷ fs) m m' = choose (eqb (field m f) (field m' f)) (before fs m m') (ltb (field m f) (field m' f))

-- the same in words
abbrev pub Before : List ℕ → (m m' : Member) → Type 0
Before [] m m' = ⊥
Before (f ∷ fs) m m' = (field m f < field m' f) ⊎ ((field m f ≡ field m' f) × Before fs m m')

-- of the records by index, from 0
module _ (at : ℕ → Member) where
  -- "a record before its predecessor"; the first has none
  abbrev pub before_predecessor : (i : ℕ) → Bool
  before_predecessor i = ltb 0 i && before sequence_fields (at i) (at (i - 1))

  abbrev pub BeforePredecessor : (i : ℕ) → Type 0
  BeforePredecessor i = (0 < i) × Before sequence_fields (at i) (at (i - 1))

  -- the first n stand in order: none stands before an earlier one
  abbrev pub InSequence : (n : ℕ) → Type 0
  InSequence n = (i k : ℕ) → i < k → k < n → ¬ (Before sequence_fields (at k) (at i))
