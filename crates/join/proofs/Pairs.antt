-- Two survey files: their tests in a row, from what was read, and what passes them all.
-- Assumes nothing.
use Rattle.std.specs.Prelude.{Result, Ok, Err}
use Prim.Native.Nat.{ℕ, ◌+◌, ◌*◌, ◌≤◌}
use mathlib.Core.Path.{◌≡◌, sym}
use mathlib.Core.List.{List}
use native.Mathlib.Omega.{arith}
use lib.ListN.{length}
use borrow.Author.Tests.{leb-true, le-leb}
use Rattle.files.specs.Reading.{first_fault, first_refusal}
use Rattle.surveys.specs.SurveyFile.{SURVEY_HEADER, RECORD, count_of, read_survey}
use Rattle.files.specs.Writing.{written_answer, onto}
use Rattle.files.specs.declared.Refusal.{Refusal}
use Rattle.files.proofs.Faults.{refusal, both_taken, test_holds, counts_differ, counts_alike, counts_same}
use Rattle.join.specs.Join.{pair_faults, pair_answer, output, join_tests, joined, joined_bytes, joined_out}
use Rattle.join.proofs.Surveys.{length_survey}

module _ (first second : List ℕ) where
  -- another count is the refusal, else the first record at fault
  pub count_differs : ¬ (count_of first ≡ count_of second) → pair_answer first second ≡ refusal 18 0
  unfolding pair_answer
  count_differs = counts_differ 18 (omega arith) (count_of first) (count_of second) (pair_faults first second (count_of first))

  pub count_alike : count_of first ≡ count_of second → pair_answer first second ≡ first_fault 1 (pair_faults first second (count_of first))
  unfolding pair_answer
  count_alike = counts_alike 18 (omega arith) (count_of first) (count_of second) (pair_faults first second (count_of first))

  -- surveys that may be joined have the same count
  pub pair_count : pair_answer first second ≡ (Ok tt) → count_of first ≡ count_of second
  unfolding pair_answer
  pair_count = counts_same 18 (omega arith) (count_of first) (count_of second) (pair_faults first second (count_of first))

  pub length_output : length (output first second) ≡ SURVEY_HEADER + RECORD * count_of first
  length_output = length_survey _ (count_of first)

  -- what holds where no test fails
  pub record Passed (room : ℕ) : Type 0 where
    pub first_taken : (read_survey first).answer ≡ (Ok tt)
    pub second_taken : (read_survey second).answer ≡ (Ok tt)
    pub pair : pair_answer first second ≡ (Ok tt)
    pub room_enough : length (output first second) ≤ room

  module _ (room : ℕ) where
    pub all_passed : first_refusal (join_tests first second room) ≡ (Ok tt) → Passed room
    all_passed e =
        let (a, files) = both_taken _ _ e in
        let (b, rest) = both_taken _ _ files in
        let (pair, end) = both_taken _ _ rest in
        let (enough, none) = both_taken _ _ end in
        record { first_taken = a; second_taken = b; pair = pair; room_enough = leb-true _ _ (test_holds 14 _ enough) }

    pub passed_all : Passed room → first_refusal (join_tests first second room) ≡ (Ok tt)
    passed_all p = rw (p.first_taken, p.second_taken, p.pair, le-leb _ _ p.room_enough)

    -- the answer and the output, where no test fails and where one does
    pub written_given : Passed room → {n : ℕ} → n ≡ length (output first second) → written_answer (Ok n) ≡ joined first second room
    unfolding joined
    written_given p e = rw (passed_all p, e)

    pub refusal_given : (r : Refusal) → first_refusal (join_tests first second room) ≡ Err r → written_answer (Err r) ≡ joined first second room
    unfolding joined
    refusal_given r e = rw e

  pub out_written : (out : List ℕ) → Passed (length out) → joined_out first second out ≡ onto (output first second) out
  unfolding joined_bytes
  out_written out p = rw (passed_all (length out) p)

  pub out_kept : (out : List ℕ) (r : Refusal) → first_refusal (join_tests first second (length out)) ≡ Err r → joined_out first second out ≡ out
  unfolding joined_bytes
  out_kept out r e = rw e

  -- both of a call that is refused
  pub refused : (out : List ℕ) {a : Result ℕ Refusal} (r : Refusal) → a ≡ Err r → first_refusal (join_tests first second (length out)) ≡ Err r →
      (written_answer a ≡ joined first second (length out)) × (out ≡ joined_out first second out)
  refused out r is e = (rw is (refusal_given (length out) r e), sym (out_kept out r e))
