-- The bytes of a survey's file: how many they are, and that they stand where the loops put them.
-- Assumes nothing.
use Prim.Native.Nat.{ℕ, ◌+◌, ◌*◌, ◌≤◌}
use mathlib.Core.Path.{◌≡◌, refl, ap, ◌∙◌}
use mathlib.Core.List.{List, ◌++◌}
use native.Mathlib.Numerals.{add-one}
use native.Mathlib.Omega.{arith}
use lib.ListN.{length, drop}
use lib.Seq.{paste, take_all}
use Rattle.member.specs.Fields.{FIELDS, field}
use Rattle.member.specs.declared.record.Member.{Member}
use Rattle.surveys.specs.SurveyFile.{SURVEY_HEADER, RECORD}
use Rattle.files.specs.Words.{bytes_of, in_row}
use Rattle.files.specs.Writing.{onto}
use Rattle.files.proofs.Writing.{paste_behind, length_row}
use Rattle.join.specs.SurveyBytes.{head_bytes, record_bytes, survey_bytes}

-- the first f numbers of a record
abbrev pub numbers : Member → (f : ℕ) → List ℕ
numbers m f = in_row (λ k. bytes_of 2 (field m k)) f

pub length_numbers : (m : Member) (f : ℕ) → length (numbers m f) ≡ 2 * f
length_numbers m f = length_row (λ k. bytes_of 2 (field m k)) 2 (λ k. refl) f

-- one number more
pub number_put : (out : List ℕ) (at : ℕ) (m : Member) (f : ℕ) → at ≤ length out →
    paste (paste out at (numbers m f) (2 * f)) (at + 2 * f) (bytes_of 2 (field m f)) 2 ≡ paste out at (numbers m (f + 1)) (2 * (f + 1))
number_put out at m f long =
    let next : 2 * (f + 1) ≡ 2 * f + 2 = omega arith in
    rw (next, add-one) (paste_behind out at (numbers m f) (bytes_of 2 (field m f)) (2 * f) 2 long (length_numbers m f) refl)

length_record : (m : Member) → length (record_bytes m) ≡ RECORD
length_record m = length_numbers m FIELDS

-- of the records by index
module _ (at : ℕ → Member) where
  -- the first n
  abbrev pub records : (n : ℕ) → List ℕ
  records n = in_row (λ i. record_bytes (at i)) n

  pub length_records : (n : ℕ) → length (records n) ≡ RECORD * n
  length_records = length_row (λ i. record_bytes (at i)) RECORD (λ i. length_record (at i))

  pub length_survey : (count : ℕ) → length (survey_bytes count at) ≡ SURVEY_HEADER + RECORD * count
  unfolding survey_bytes
  length_survey count = omega (arith, length_records count)

  -- one record more
  pub record_put : (out : List ℕ) (i : ℕ) → SURVEY_HEADER ≤ length out →
      paste (paste out SURVEY_HEADER (records i) (RECORD * i)) (SURVEY_HEADER + RECORD * i) (record_bytes (at i)) RECORD ≡ paste out SURVEY_HEADER (records (i + 1)) (RECORD * (i + 1))
  record_put out i long =
      let next : RECORD * (i + 1) ≡ RECORD * i + RECORD = omega arith in
      rw (next, add-one) (paste_behind out SURVEY_HEADER (records i) (record_bytes (at i)) (RECORD * i) RECORD long (length_records i) (length_record (at i)))

  -- and all of them, behind the header
  pub survey_put : (out : List ℕ) (count : ℕ) →
      paste (paste out 0 (head_bytes count) SURVEY_HEADER) SURVEY_HEADER (records count) (RECORD * count) ≡ onto (survey_bytes count at) out
  unfolding survey_bytes
  survey_put out count =
      let size : length (head_bytes count ++ records count) ≡ SURVEY_HEADER + RECORD * count = omega (arith, length_records count) in
      let all = take_all (SURVEY_HEADER + RECORD * count) (head_bytes count ++ records count) (omega (arith, size)) in
      let end : 0 + (SURVEY_HEADER + RECORD * count) ≡ length (head_bytes count ++ records count) = omega (arith, size) in
      paste_behind out 0 (head_bytes count) (records count) SURVEY_HEADER (RECORD * count) (omega arith) refl (length_records count) ∙ rw all (ap (λ (k : ℕ). head_bytes count ++ records count ++ drop k out) end)
