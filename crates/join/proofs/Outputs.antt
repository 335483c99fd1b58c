-- The joined survey's file: its numbers are those that were joined, and the documents allow it.
-- Assumes nothing.
use Prim.Native.Nat.{ℕ, ◌+◌, ◌*◌, ◌≤◌, ◌<◌}
use mathlib.Core.Path.{◌≡◌, refl, sym, ap, ◌∙◌}
use mathlib.Core.List.{List, [], ◌∷◌, ◌++◌, append_assoc}
use native.Mathlib.Omega.{arith}
use lib.ListN.{length, take, length-append}
use Rattle.member.specs.Fields.{FIELDS, field}
use Rattle.member.specs.Format.{AllowedMember}
use Rattle.member.specs.declared.record.Member.{Member}
use Rattle.member.proofs.Ranges.{number_cap}
use Rattle.surveys.specs.Allowed.{AllowedSurveyFile}
use Rattle.files.specs.Header.{version_of}
use Rattle.surveys.specs.SurveyFile.{SURVEY_HEADER, RECORD, count_of, record_at}
use Rattle.files.specs.Words.{word_at, number_at, bytes_of}
use Rattle.files.proofs.Each.{each_same}
use Rattle.files.proofs.Numbers.{FitsIn, number_written, two_bytes_at}
use Rattle.files.proofs.Writing.{row_split}
use Rattle.join.specs.Join.{joined_field, joined_member, joined_at, output}
use Rattle.join.specs.Fault.{BothAllowed, JoinableBefore}
use Rattle.join.specs.SurveyBytes.{head_bytes, record_bytes, survey_bytes}
use Rattle.join.proofs.Means.{joined_field_lem, joined_allowed}
use Rattle.join.proofs.Surveys.{numbers, length_numbers, records, length_records, length_survey}

-- brackets
nested : (a b c d x y : List ℕ) → a ++ (b ++ (c ++ d ++ x) ++ y) ≡ a ++ b ++ c ++ d ++ (x ++ y)
nested a b c d x y = simp append_assoc refl

-- the file of some records, each of whose numbers two bytes hold
module _ (count : ℕ) (at : ℕ → Member) where
  abbrev file : List ℕ
  file = survey_bytes count at

  -- the number f of the record i stands behind the header, the records before it and its own numbers before it
  parts : (i f : ℕ) → i < count → f < FIELDS → (rest : List ℕ) × (file ≡ head_bytes count ++ records at i ++ numbers (at i) f ++ bytes_of 2 (field (at i) f) ++ rest)
  unfolding survey_bytes
  parts i f h l =
      let head = head_bytes count in
      let before = records at i in
      let own = numbers (at i) f in
      let number = bytes_of 2 (field (at i) f) in
      let (behind, e) = row_split (λ k. record_bytes (at k)) i count h in
      let (after, g) = row_split (λ k. bytes_of 2 (field (at i) k)) f FIELDS l in
      (after ++ behind, ap (λ (l : List ℕ). head ++ l) (e ∙ ap (λ (l : List ℕ). before ++ l ++ behind) g) ∙ nested head before own number after behind)

  word_written : (i f : ℕ) → i < count → f < FIELDS → field (at i) f ≤ 10000 → word_at file (SURVEY_HEADER + RECORD * i + 2 * f) ≡ field (at i) f
  word_written i f h l cap =
      let place = SURVEY_HEADER + RECORD * i + 2 * f in
      let before = head_bytes count ++ records at i ++ numbers (at i) f in
      let (rest, e) = parts i f h l in
      let long : length before ≡ place = simp length-append (omega (arith, length_records at i, length_numbers (at i) f)) in
      let fits : FitsIn 2 (field (at i) f) = omega arith in
      sym (two_bytes_at file place) ∙ ap (λ (l : List ℕ). number_at 2 l place) e ∙ number_written 2 (field (at i) f) fits before rest place long

  pub version_written : version_of file ≡ 1
  unfolding survey_bytes
  version_written = omega arith

  count_written : count < 256 → count_of file ≡ count
  unfolding survey_bytes
  count_written h = omega arith

  mark_written : take 3 file ≡ 84 ∷ 66 ∷ 82 ∷ []
  unfolding survey_bytes
  mark_written = refl

-- two surveys that may be joined
module _ (first second : List ℕ) (allowed : BothAllowed first second) (counts : count_of first ≡ count_of second) (joinable : JoinableBefore first second (count_of first)) where
  member_allowed : (i : ℕ) → i < count_of first → AllowedMember (joined_at first second i)
  member_allowed i l = joined_allowed _ _ (joinable i l).agreed (allowed.first_allowed.members i l) (allowed.second_allowed.members i (omega arith))

  pub record_written : (i : ℕ) → i < count_of first → record_at (output first second) i ≡ joined_at first second i
  unfolding joined_member
  record_written i l =
      let m = record_at first i in
      let n = record_at second i in
      ap (λ (fields : List ℕ). record { fields = fields })
      (each_same {g = joined_field m n} FIELDS (λ f h. word_written (count_of first) (joined_at first second) i f l h (number_cap (member_allowed i l) f h) ∙ joined_field_lem m n (joinable i l).agreed f h))

  pub count_kept : count_of (output first second) ≡ count_of first
  count_kept = count_written (count_of first) (joined_at first second) (omega (arith, allowed.first_allowed.count.1))

  pub output_allowed : AllowedSurveyFile (output first second)
  output_allowed =
      let version = version_written (count_of first) (joined_at first second) in
      record {
        mark = mark_written (count_of first) (joined_at first second);
        version = rw version (omega arith, omega arith);
        count = rw count_kept allowed.first_allowed.count;
        size = length_survey (joined_at first second) (count_of first) ∙ rw count_kept;
        members = λ i l. let h = rw count_kept at l in rw (record_written i h) (member_allowed i h);
        order = λ v. absurd (omega (arith, version));
      }
