-- What a refusal says of a survey file, in plain words beside the ordered tests of `SurveyFile`: what it names has the fault of its number,
-- and nothing before that has any. proofs/ (Refusals, Sequences, Surveys) shows that the ordered tests come to just this.
use Rattle.std.specs.Prelude.{ℕ, ◌-◌, ◌≤◌, ◌<◌, ◌≡◌, Bool, true, false, List, ◌⊎◌}
use Rattle.member.specs.declared.record.Member.{Member}
use Rattle.member.specs.Fields.{KIND, SPECIES, SPAN, CODE, MU_A, MU_B, FIELDS, LAST_KIND, MOST_MEMBERS, field}
use Rattle.member.specs.Format.{◌‥◌, In, used, range_of, suits, AllowedMember}
use Rattle.files.specs.declared.Refusal.{Refusal}
use Rattle.files.specs.Header.{version_of}
use Rattle.files.specs.Refused.{Headed, HeaderFault}
use Rattle.surveys.specs.Sequence.{BeforePredecessor}
use Rattle.surveys.specs.SurveyFile.{SURVEY_HEADER, RECORD, SURVEY_VERSIONS, SEQUENCE_FROM, count_of, record_at}

-- the record uses the field
abbrev pub uses : Member → ℕ → Bool
uses m f = used (field m KIND) (field m CODE) f

-- what 4, 5 and 6 ask of a record
abbrev pub KindGood : Member → Type 0
KindGood m = In (1 ‥ LAST_KIND) (field m KIND)

abbrev pub SpeciesGood : Member → Type 0
SpeciesGood m = uses m SPECIES ≡ true → In (1 ‥ 8) (field m SPECIES)

abbrev pub SectionGood : Member → Type 0
SectionGood m = suits (field m KIND) (field m CODE) ≡ true

-- what 8 asks
abbrev pub UnusedGood : Member → Type 0
UnusedGood m = (f : ℕ) → f < FIELDS → uses m f ≡ false → field m f ≡ 0

-- "in each 4, 5, 6, 8, 7": that test fails, and those before it hold
pub data MemberFault (m : Member) : ℕ → Type 0 where
  -- "4 kind"
  wrong_kind : ¬ (KindGood m) → MemberFault m 4
  -- "5 species, where used"
  wrong_species : KindGood m → uses m SPECIES ≡ true → ¬ (In (1 ‥ 8) (field m SPECIES)) → MemberFault m 5
  -- "6 section code does not suit the kind"
  wrong_section : KindGood m → SpeciesGood m → suits (field m KIND) (field m CODE) ≡ false → MemberFault m 6
  -- "8 an unused field is not 0 (lost area in bending too)"
  not_0 : KindGood m → SpeciesGood m → SectionGood m → (f : ℕ) → f < FIELDS → uses m f ≡ false → ¬ (field m f ≡ 0) →
      MemberFault m 8
  -- "7 a used number .. outside its range"
  out_of_range : KindGood m → SpeciesGood m → SectionGood m → UnusedGood m → (f : ℕ) → f < FIELDS → uses m f ≡ true →
      ¬ (In (range_of (field m KIND) (field m CODE) (field m SPAN) f) (field m f)) →
      MemberFault m 7
  -- "as A above B"; of kind 7 "A may exceed B"
  A_above_B : KindGood m → SpeciesGood m → SectionGood m → UnusedGood m → ¬ (field m KIND ≡ 7) → field m MU_B < field m MU_A → MemberFault m 7

-- the header is good, the record of index i is the first that the documents do not allow, and this is its fault
pub record FirstRecord (bytes : List ℕ) (number i : ℕ) : Type 0 where
  pub headed : Headed 82 SURVEY_VERSIONS SURVEY_HEADER MOST_MEMBERS RECORD bytes
  pub within : i < count_of bytes
  pub fault : MemberFault (record_at bytes i) number
  pub before : (k : ℕ) → k < i → AllowedMember (record_at bytes k)

-- "16: a record before its predecessor .. after all records are otherwise good", from version 2: the record of index i is the first such
pub record FirstOutOfSequence (bytes : List ℕ) (i : ℕ) : Type 0 where
  pub headed : Headed 82 SURVEY_VERSIONS SURVEY_HEADER MOST_MEMBERS RECORD bytes
  pub version : SEQUENCE_FROM ≤ version_of bytes
  pub good : (k : ℕ) → k < count_of bytes → AllowedMember (record_at bytes k)
  pub within : i < count_of bytes
  pub fault : BeforePredecessor (record_at bytes) i
  pub first : (k : ℕ) → k < i → ¬ (BeforePredecessor (record_at bytes) k)

-- "The first fault in record order ends the reading, and its place is given with 4 to 8 .. The other refusals have place 0."; of 16 "place
-- of the later one"
pub record SurveyRefusal (bytes : List ℕ) (r : Refusal) : Type 0 where
  pub number : (In (1 ‥ 8) r.number) ⊎ (r.number ≡ 16)
  pub header : r.number ≤ 3 → r.place ≡ 0
  pub place : 4 ≤ r.number → In (1 ‥ count_of bytes) r.place
  -- what is named has the fault, and is the first that has any
  pub header_fault : r.place ≡ 0 → HeaderFault 82 SURVEY_VERSIONS SURVEY_HEADER MOST_MEMBERS RECORD bytes r.number
  pub record_fault : 0 < r.place → r.number ≤ 8 → FirstRecord bytes r.number (r.place - 1)
  pub sequence_fault : r.number ≡ 16 → FirstOutOfSequence bytes (r.place - 1)
