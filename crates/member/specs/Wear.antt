-- Two records of one member, the second with as great or greater rot, lost area and dead load. Document 01, 'Judgement': "Rot is s2
-- of code 1, s3 and s4 of code 2, s5 of code 3; lost area is s6 of code 2, s2 of code 4; dead load is q. These are compared field by
-- field in each shared member". "All else is every other number in a shared member's record". By document 02, request 1/13, the depth,
-- s2 of code 5, is rot too; by request 2/13 "deck rot counts as rot".
use Rattle.std.specs.Prelude.{ℕ, ◌≤◌, ◌<◌, ◌≡◌, Bool, true, false, ◌&&◌, ◌||◌, List, [], ◌∷◌, eqb}
use Rattle.section.specs.Choose.{choose}
use Rattle.member.specs.Fields.{KIND, DEAD_LOAD, CODE, S2, S3, S4, S5, S6, MU_B, FIELDS, field}
use Rattle.member.specs.Format.{holds}
use Rattle.member.specs.declared.record.Member.{Member}

unfoldable pub rot_fields : (code : ℕ) → List ℕ
rot_fields code =
    choose (eqb code 1) (S2 ∷ [])
    (choose (eqb code 2) (S3 ∷ S4 ∷ [])
    (choose (eqb code 3) (S5 ∷ [])
    (choose (eqb code 5) (S2 ∷ []) [])))

unfoldable pub lost_fields : (code : ℕ) → List ℕ
lost_fields code = choose (eqb code 2) (S6 ∷ []) (choose (eqb code 4) (S2 ∷ []) [])

-- the field is rot: of the section, or of the deck, which is B of kind 7
unfoldable pub rots : (kind code f : ℕ) → Bool
rots kind code f = holds f (rot_fields code) || (eqb f MU_B && eqb kind 7)

-- the field is rot, lost area or dead load
unfoldable pub wears : (kind code f : ℕ) → Bool
wears kind code f = rots kind code f || holds f (lost_fields code) || eqb f DEAD_LOAD

-- the second record has each rot, lost area and dead load as great or greater, all else alike
pub record Worn (m m' : Member) : Type 0 where
  pub greater : (f : ℕ) → f < FIELDS → wears (field m KIND) (field m CODE) f ≡ true → field m f ≤ field m' f
  pub alike : (f : ℕ) → f < FIELDS → wears (field m KIND) (field m CODE) f ≡ false → field m f ≡ field m' f

-- "Rot changes the spread, so what demand 3 says of the permitted loads, figure and verdicts of two surveys now has one more premise: a
-- kind 7 record has the same rot in both surveys, deck rot included." Without it the permitted load may rise: beech, l 1009, d 89, q 100,
-- three tiers of log 31 with rot 7, three boards 44 wide and 15 thick, class 0, track 190, give 2653 with deck rot 9 and 2678 with deck
-- rot 10
abbrev pub SpreadKept : (m m' : Member) → Type 0
SpreadKept m m' = field m KIND ≡ 7 → (f : ℕ) → f < FIELDS → rots 7 (field m CODE) f ≡ true → field m f ≡ field m' f

-- a field counts as rot in the records of which P holds: one that is greater, all else alike, makes a worn record
abbrev pub CountsAsRot : (P : Member → Type 0) (f : ℕ) → Type 0
CountsAsRot P f = (m m' : Member) → P m → field m f ≤ field m' f → ((g : ℕ) → g < FIELDS → ¬ (g ≡ f) → field m g ≡ field m' g) → Worn m m'

-- "Depth is rot wherever rot is spoken of"
abbrev pub DepthIsRot : Type 0
DepthIsRot = CountsAsRot (λ m. field m CODE ≡ 5) S2

-- "In demand 3 deck rot counts as rot."
abbrev pub DeckRotIsRot : Type 0
DeckRotIsRot = CountsAsRot (λ m. field m KIND ≡ 7) MU_B
