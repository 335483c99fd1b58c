-- What is claimed of the join, proved.
-- Assumes nothing.
use Prim.Native.Nat.{ℕ, ◌<◌}
use mathlib.Core.Path.{◌≡◌, sym, subst, ◌∙◌}
use mathlib.Core.List.{List}
use mathlib.Core.Logic.{inl, inr, ⊎_elim}
use native.Mathlib.Omega.{arith}
use lib.ListN.{length}
use Rattle.member.specs.Fields.{KIND, CODE, field}
use Rattle.member.specs.declared.record.Member.{Member}
use Rattle.files.specs.Answer.{RefusedAt}
use Rattle.files.specs.Reading.{first_refusal}
use Rattle.surveys.specs.SurveyFile.{count_of, record_at}
use Rattle.files.specs.Writing.{onto}
use Rattle.files.proofs.Writing.{onto_first, onto_beyond, onto_length, written_tests, refused_tests}
use Rattle.join.specs.Join.{joined_at, output, join_tests, joined, joined_bytes, joined_out}
use Rattle.join.specs.Fault.{JoinFault}
use Rattle.join.specs.Claims.{LiesBetween, MeanInRange, OtherMember, Writes, written, JoinAnswered, JoinedFile, JoinTaken}
use Rattle.join.proofs.Records.{not_agreed_fault}
use Rattle.join.proofs.Means.{kind_agrees, code_agrees, same_field, joined_between, joined_allowed}
use Rattle.join.proofs.Outputs.{version_written, record_written, count_kept, output_allowed}
use Rattle.join.proofs.Pairs.{length_output, Passed, all_passed, passed_all, out_written}
use Rattle.join.proofs.Named.{fault_refused, passed_good, good_passed, passed_or_fault}

-- kind and code must agree, whatever they are
pub other_member : OtherMember
other_member m n d =
    not_agreed_fault m n
    (λ g. ⊎_elim (λ k. k (same_field m n g KIND (omega arith) (kind_agrees _ _))) (λ c. c (same_field m n g CODE (omega arith) (code_agrees _ _))) d)

-- a mean is in its range
pub mean_in_range : MeanInRange
mean_in_range m n a b g = joined_allowed m n g a b

module _ (first second out : List ℕ) where
  refused_by_lem : (n p : ℕ) → JoinFault first second (length out) n p → joined first second (length out) ≡ RefusedAt n p
  unfolding joined
  refused_by_lem n p f = rw (fault_refused first second (length out) n p f)

  pub join_answered : JoinAnswered first second out
  unfolding joined joined_bytes
  join_answered =
      record {
        answered =
            ⊎_elim (λ p. inl (length (output first second), rw (passed_all first second (length out) p)))
            (λ (n, p, f). inr (n, p, refused_by_lem n p f, f))
            (passed_or_fault first second (length out));
        named = refused_by_lem;
        out_kept = λ n p e. rw (refused_tests (first_refusal (join_tests first second (length out))) (length (output first second)) n p (output first second) e);
      }

  -- where bytes are written
  module _ (n : ℕ) (w : Writes first second out n) where
    passed_n : (Passed first second (length out)) × (n ≡ length (output first second))
    unfolding joined
    passed_n =
        let (none, size) = written_tests (first_refusal (join_tests first second (length out))) (length (output first second)) n w in
        (all_passed first second (length out) none, size)

    out_is : joined_out first second out ≡ onto (output first second) out
    out_is = out_written first second out passed_n.0

    written_is : written first second out n ≡ output first second
    written_is = rw out_is (onto_first (output first second) out n passed_n.1)

    joined_file : JoinedFile first second out n
    joined_file =
        let p = passed_n.0 in
        let size = passed_n.1 in
        let g = passed_good first second (length out) p in
        let record_is : (i : ℕ) → i < count_of first → record_at (written first second out n) i ≡ joined_at first second i =
        λ i l. rw written_is (record_written first second g.allowed g.counts g.joinable i l) in
        record {
          count = size ∙ length_output first second;
          beyond = rw out_is (onto_beyond (output first second) out n size);
          length_kept = rw out_is (onto_length (output first second) out p.room_enough);
          allowed = rw written_is (output_allowed first second g.allowed g.counts g.joinable);
          version = rw written_is (version_written (count_of first) _);
          members = rw written_is (count_kept first second g.allowed g.counts g.joinable);
          records = record_is;
          between = λ i f l h.
              subst (λ (m : Member). LiesBetween (field (record_at first i) f) (field (record_at second i) f) (field m f)) (sym (record_is i l)) (joined_between (record_at first i) (record_at second i) (g.joinable i l).agreed f h);
        }

  pub join_taken : JoinTaken first second out
  unfolding joined
  join_taken =
      record {
        taken = (
          λ (n, w). passed_good first second (length out) (passed_n n w).0,
          λ g. (length (output first second), rw (passed_all first second (length out) (good_passed first second (length out) g))),
        );
        files = joined_file;
      }
