-- Two surveys of one bridge in order. Document 02, request 5/13: "Take two surveys of one bridge, the second with rot, losses and dead load
-- as great or greater and all else equal." What is rot, a loss and dead load is the table of demand 3, in member/specs/Wear.antt.
use Rattle.std.specs.Prelude.{ℕ, ◌≤◌, ◌<◌, ◌≡◌, Bool, true, not, ◌&&◌, ◌||◌, List, ◌∷◌, eqb, leb}
use Rattle.section.specs.Choose.{choose, all}
use Rattle.member.specs.Fields.{KIND, CODE, FIELDS, field}
use Rattle.member.specs.Format.{holds}
use Rattle.member.specs.Wear.{rots, lost_fields, wears, Worn, SpreadKept}
use Rattle.member.specs.declared.record.Member.{Member}
use Rattle.files.specs.Reading.{Reading, ◌unless◌, first_fault}
use Rattle.surveys.specs.SurveyFile.{count_of, record_at}
use Rattle.files.specs.Words.{each}

-- "For kind 7 the records must have the same rot and losses, deck rot included."
unfoldable pub must_stay : (kind code f : ℕ) → Bool
must_stay kind code f = eqb kind 7 && (rots kind code f || holds f (lost_fields code))

-- the field may be greater in the second record: "rot, losses and dead load"
unfoldable pub may_grow : (kind code f : ℕ) → Bool
may_grow kind code f = wears kind code f && not (must_stay kind code f)

module _ (m m' : Member) where
  -- "as great or greater and all else equal"
  abbrev pub field_ordered : (f : ℕ) → Bool
  field_ordered f = choose (may_grow (field m KIND) (field m CODE) f) (leb (field m f) (field m' f)) (eqb (field m f) (field m' f))

  unfoldable pub ordered : Bool
  ordered = all field_ordered FIELDS

  -- 15 where it is not so
  abbrev pub order_fault : ℕ
  order_fault = 15 unless ordered

  -- the same in plain words: worn as in demand 3, and of kind 7 "the same rot and losses, deck rot included"
  pub record Ordered : Type 0 where
    pub worn : Worn m m'
    pub same_rot : SpreadKept m m'
    pub same_losses : field m KIND ≡ 7 → (f : ℕ) → f < FIELDS → holds f (lost_fields (field m CODE)) ≡ true → field m f ≡ field m' f

-- the records of a survey and of a second one, by index from 0
module _ (count count' : ℕ) (at at' : ℕ → Member) where
  -- "15: a different count, place 0, else the first record that is not so ordered or, for kind 7, not so equal"
  abbrev pub order_faults : List ℕ
  order_faults = 15 unless eqb count count' ∷ each (λ i. order_fault (at i) (at' i)) count

  unfoldable pub order_answer : Reading
  order_answer = first_fault 0 order_faults

-- of two files
abbrev pub order_of : (first second : List ℕ) → Reading
order_of first second = order_answer (count_of first) (count_of second) (record_at first) (record_at second)

-- the records before index i are in order
abbrev pub OrderedBefore : (first second : List ℕ) (i : ℕ) → Type 0
OrderedBefore first second i = (k : ℕ) → k < i → Ordered (record_at first k) (record_at second k)

-- two surveys of one bridge, the second as worn or more
pub record InOrder (first second : List ℕ) : Type 0 where
  pub count : count_of first ≡ count_of second
  pub records : OrderedBefore first second (count_of first)

-- a survey lies between the two, "field by field"
pub record LiesBetween (first third second : List ℕ) : Type 0 where
  pub count : count_of third ≡ count_of first
  pub fields : (i f : ℕ) → i < count_of first → f < FIELDS →
      (field (record_at first i) f ≤ field (record_at third i) f) × (field (record_at third i) f ≤ field (record_at second i) f)
