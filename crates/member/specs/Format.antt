-- What the files may hold: the ranges, the fields that are used, the sections that suit a kind. Document 01, 'Net
-- section' (the table of codes) and 'Files'; code 5, kind 7 and the weights
-- from document 02, requests 1/13, 2/13 and 9/13.
use Rattle.std.specs.Prelude.{ℕ, ◌-◌, ◌≤◌, ◌<◌, ◌≡◌, Bool, true, false, not, ◌&&◌, ◌||◌, List, [], ◌∷◌, ◌↔◌, length, get_or, eqb, leb}
use Rattle.section.specs.Choose.{choose}
use Rattle.section.specs.Crescent.{crescent_table, row_of}
use Rattle.section.specs.Units.{weight, distance}
use Rattle.member.specs.Fields.{KIND, SPECIES, SPAN, SPACING, DISTANCE, HEIGHT, CODE, S3, S4, S5, S6, MU_A, MU_B, FIELDS, LAST_KIND, LAST_CODE, MOST_AXLES, field}
use Rattle.member.specs.declared.record.Member.{Member}
use Rattle.member.specs.declared.record.Vehicle.{Vehicle}

infix 80 ◌‥◌
-- a range of whole numbers, both ends included
pub record Range : Type 0 where
  pub low : ℕ
  pub high : ℕ

abbrev pub ◌‥◌ : ℕ → ℕ → Range
a ‥ b = record { low = a; high = b }

abbrev pub In : Range → ℕ → Type 0
In r n = (r.low ≤ n) × (n ≤ r.high)

-- "Section code and its fields s1 to s6", each with its range. Code 5: "s1 diameter, s2 depth 0..60, s3 tiers 1..3"; its diameters are
-- those of `RangeOfRows`
unfoldable pub section_ranges : ℕ → List Range
section_ranges code =
    choose (eqb code 1) (13 ‥ 39 ∷ 0 ‥ 60 ∷ 1 ‥ 3 ∷ [])
    (choose (eqb code 2) (1 ‥ 60 ∷ 1 ‥ 60 ∷ 0 ‥ 60 ∷ 0 ‥ 60 ∷ 1 ‥ 40 ∷ 0 ‥ 10000 ∷ [])
    (choose (eqb code 3) (1 ‥ 3 ∷ 1 ‥ 60 ∷ 1 ‥ 60 ∷ 1 ‥ 60 ∷ 0 ‥ 60 ∷ 1 ‥ 200 ∷ [])
    (choose (eqb code 4) (1 ‥ 10000 ∷ 0 ‥ 10000 ∷ [])
    (choose (eqb code 5) (14 ‥ 36 ∷ 0 ‥ 60 ∷ 1 ‥ 3 ∷ []) []))))

unfoldable pub section_range : (code s : ℕ) → Range
section_range code s = get_or (section_ranges code) s (0 ‥ 0)

-- "A diameter without a row, or above 39, is out of range": the range of code 5 is that of the diameters that have a row
abbrev pub RangeOfRows : Type 0
RangeOfRows = (diameter : ℕ) → In (section_range 5 0) diameter ↔ ((0 < length (row_of diameter crescent_table)) × (diameter ≤ 39))

-- "In bending (kinds 1 and 2)", and kind 7
unfoldable pub bending : ℕ → Bool
bending kind = leb kind 2 || eqb kind 7

-- which section codes suit a kind: the column 'section' of the table of permitted loads, and code 5 "for kinds 1 and 2". "Section codes
-- 1 and 2 suit kind 7; code 5 does not."
unfoldable pub suits : ℕ → ℕ → Bool
suits kind code =
    choose (leb kind 2) (eqb code 1 || eqb code 2 || eqb code 5)
    (choose (eqb kind 3) (eqb code 2)
    (choose (eqb kind 4) (eqb code 3)
    (choose (eqb kind 7) (eqb code 1 || eqb code 2) (eqb code 4))))

-- "Unused and therefore 0: kind 1 x, h, A, B; kind 2 d, h, A, B; kind 3 A, B; kind 6 species"; kind 7 uses them all
unfoldable pub unused_by_kind : ℕ → List ℕ
unused_by_kind kind =
    choose (eqb kind 1) (DISTANCE ∷ HEIGHT ∷ MU_A ∷ MU_B ∷ [])
    (choose (eqb kind 2) (SPACING ∷ HEIGHT ∷ MU_A ∷ MU_B ∷ [])
    (choose (eqb kind 3) (MU_A ∷ MU_B ∷ [])
    (choose (eqb kind 6) (SPECIES ∷ []) [])))

-- "the section fields that a code lacks", and the lost area (s6 of code 2) in bending; of kind 7 "Lost area must be 0."
unfoldable pub unused_by_code : ℕ → ℕ → List ℕ
unused_by_code kind code =
    choose (eqb code 1) (S4 ∷ S5 ∷ S6 ∷ [])
    (choose (eqb code 2) (choose (bending kind) (S6 ∷ []) [])
    (choose (eqb code 4) (S3 ∷ S4 ∷ S5 ∷ S6 ∷ [])
    (choose (eqb code 5) (S4 ∷ S5 ∷ S6 ∷ []) [])))

abbrev pub holds : ℕ → List ℕ → Bool
holds n [] = false
holds n (x ∷ xs) = eqb n x || holds n xs

-- a record of this kind and code uses the field
unfoldable pub used : (kind code f : ℕ) → Bool
used kind code f = not (holds f (unused_by_kind kind)) && not (holds f (unused_by_code kind code))

-- "x 1..l−1 (kind 2: 10..1000)"
abbrev pub distance_range : (kind l : ℕ) → Range
distance_range kind l = choose (eqb kind 2) (10 ‥ 1000) (1 ‥ (l - 1))

-- the range of kind 7, or that of the other kinds
abbrev pub for_kind7 : (kind : ℕ) → Range → Range → Range
for_kind7 kind own others = choose (eqb kind 7) own others

-- "Ranges: l 100..5000, d 10..1000, x 1..l−1 (kind 2: 10..1000), h 10..500, q 0..10000, A and B 1..1000", with the kinds, the species
-- and the codes, in the order of the record. Kind 7: "d 30..100. The deck fields use x for board count 1..10, h for board thickness 1..20,
-- A for board width 1..60 and B for deck rot 0..20"
unfoldable pub ranges : (kind code l : ℕ) → List Range
ranges kind code l =
    1 ‥ LAST_KIND ∷ 1 ‥ 8 ∷ 100 ‥ 5000 ∷ for_kind7 kind (30 ‥ 100) (10 ‥ 1000) ∷ for_kind7 kind (1 ‥ 10) (distance_range kind l) ∷
    for_kind7 kind (1 ‥ 20) (10 ‥ 500) ∷ 0 ‥ 10000 ∷ 1 ‥ LAST_CODE ∷
    section_range code 0 ∷ section_range code 1 ∷ section_range code 2 ∷ section_range code 3 ∷ section_range code 4 ∷ section_range code 5 ∷
    for_kind7 kind (1 ‥ 60) (1 ‥ 1000) ∷ for_kind7 kind (0 ‥ 20) (1 ‥ 1000) ∷ []

-- the range of a field
unfoldable pub range_of : (kind code l f : ℕ) → Range
range_of kind code l f = get_or (ranges kind code l) f (0 ‥ 0)

-- What a member's record may hold, with no order of tests in it.
pub record AllowedMember (m : Member) : Type 0 where
  pub kind : In (1 ‥ LAST_KIND) (field m KIND)
  pub section : suits (field m KIND) (field m CODE) ≡ true
  pub unused : (f : ℕ) → f < FIELDS → used (field m KIND) (field m CODE) f ≡ false → field m f ≡ 0
  pub range : (f : ℕ) → f < FIELDS → used (field m KIND) (field m CODE) f ≡ true → In (range_of (field m KIND) (field m CODE) (field m SPAN) f) (field m f)
  -- "A at most B"; of kind 7 "A may exceed B"
  pub ordered : ¬ (field m KIND ≡ 7) → field m MU_A ≤ field m MU_B

-- "class 0 (lorries), .. class 1 (wheeled tractors, heavy trailers)"
abbrev pub class_range : Range
class_range = 0 ‥ 1

-- "u16 track 100..300"
abbrev pub track_range : Range
track_range = 100 ‥ 300

-- document 02, request 9/13: "1..200000"; a file of version 1 has less, vehicles/specs/VehicleFile.antt
abbrev pub weight_range : Range
weight_range = 1 ‥ 200000

-- "u16 distance from the axle in front, 0 for the first, 1..2000 after"
abbrev pub later_range : Range
later_range = 1 ‥ 2000

-- What a vehicle may be: "u8 class, u16 track, u8 axles 1..16, then per axle" weight and distance.
pub record AllowedVehicle (v : Vehicle) : Type 0 where
  pub class : In class_range v.class
  pub track : In track_range v.track.0
  pub axles : In (1 ‥ MOST_AXLES) v.axles
  pub weights : (i : ℕ) → i < v.axles → In weight_range (weight v.weights i)
  pub first : distance v.distances 0 ≡ 0
  pub distances : (i : ℕ) → 0 < i → i < v.axles → In later_range (distance v.distances i)
