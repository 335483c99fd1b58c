-- Two survey files read: what was read is in order exactly when the files are, and the tests that the code makes come to those of the
-- definition.
-- Assumes nothing.
use Rattle.std.specs.Prelude.{Ok, Err}
use Prim.Native.Nat.{ℕ, ◌*◌, ◌≤◌, ◌<◌}
use mathlib.Core.Path.{◌≡◌, sym, ap, ◌∙◌}
use mathlib.Core.List.{List}
use native.Mathlib.Decide.{ℕ_discrete}
use native.Mathlib.Omega.{arith}
use lib.ListN.{length}
use lib.Seq.{take_at}
use borrow.Author.Tests.{leb-true, le-leb, ne_eqb}
use Rattle.member.specs.Fields.{MOST_MEMBERS}
use Rattle.member.specs.declared.record.Survey.{Survey}
use Rattle.member.specs.declared.record.Vehicle.{Vehicle}
use Rattle.rating.specs.Judgement.{permitted_for, judgement_of}
use Rattle.rating.specs.Surveyed.{AllowedSurvey, member_at, members_of}
use Rattle.files.specs.Reading.{Reading, or_else, test, first_refusal}
use Rattle.surveys.specs.SurveyFile.{count_of, record_at, records_of, survey_of, read_survey}
use Rattle.files.specs.declared.Refusal.{Refusal}
use Rattle.files.proofs.Each.{each_same, length_each}
use Rattle.files.proofs.Faults.{reading_case, both_taken, test_holds}
use Rattle.files.proofs.Tests.{not_none}
use Rattle.surveys.proofs.Surveys.{taken_survey, taken_record, taken_count, taken_members, refused_blank}
use Rattle.between.specs.Order.{order_answer, order_of}
use Rattle.between.specs.Between.{between_tests, verdict_between, bounds_written, answered_between, between_list}
use Rattle.between.specs.declared.Between.{Between}
use Rattle.between.proofs.Orders.{count_differs, count_alike, order_count}
use Rattle.between.proofs.Lists.{bounds_same}

-- a survey that was taken is allowed, and holds the file's records
module _ (bytes : List ℕ) where
  pub taken_survey_allowed : (read_survey bytes).answer ≡ (Ok tt) → AllowedSurvey (read_survey bytes).survey
  taken_survey_allowed e = record { count = taken_count bytes e; members = λ i h. taken_members bytes e i _ h }

  pub read_count : (read_survey bytes).answer ≡ (Ok tt) → (read_survey bytes).survey.count ≡ count_of bytes
  read_count e = rw (taken_survey bytes e)

  pub survey_members : members_of (survey_of bytes) ≡ records_of bytes
  survey_members = take_at (records_of bytes) _ (count_of bytes) (length_each (record_at bytes) (count_of bytes))

  pub read_members : (read_survey bytes).answer ≡ (Ok tt) → members_of (read_survey bytes).survey ≡ records_of bytes
  read_members e = rw (taken_survey bytes e) survey_members

  -- a refused one has no members
  pub read_few : (read_survey bytes).survey.count ≤ MOST_MEMBERS
  read_few =
      reading_case (read_survey bytes).answer (λ a. (read_survey bytes).survey.count ≤ MOST_MEMBERS) (λ e. (taken_count bytes e).1)
      (λ r e. rw (refused_blank bytes r e) (omega arith))

module _ (first second : List ℕ) where
  module _ (e : (read_survey first).answer ≡ (Ok tt)) (f : (read_survey second).answer ≡ (Ok tt)) where
    -- what was read is in order exactly when the files are
    pub order_read : order_answer (read_survey first).survey.count (read_survey second).survey.count (member_at (read_survey first).survey.members) (member_at (read_survey second).survey.members) ≡ order_of first second
    order_read =
        rw (read_count first e, read_count second f)
        (elim (ℕ_discrete (count_of first) (count_of second)) [
          | yes same ↦
              count_alike _ _ _ _ same ∙
              ap (λ ns. Rattle.files.specs.Reading.first_fault 1 ns)
              (each_same (count_of first) (λ i l. rw (taken_record first e i _ l, taken_record second f i _ (omega arith)))) ∙
              sym (count_alike _ _ _ _ same)
          | no other ↦ count_differs _ _ _ _ other ∙ sym (count_differs _ _ _ _ other)
        ])

  -- so of the surveys that the files gave
  pub read_order : {s s' : Survey} → ((read_survey first).answer ≡ Ok tt) × ((read_survey first).survey ≡ s) → ((read_survey second).answer ≡ Ok tt) × ((read_survey second).survey ≡ s') →
      order_of first second ≡ order_answer s.count s'.count (member_at s.members) (member_at s'.members)
  read_order a b = rw (← a.1, ← b.1) (sym (order_read a.0 b.0))

-- what holds where no test fails
pub record Passed (v : Vehicle) (first second : List ℕ) (room : ℕ) : Type 0 where
  pub vehicle : 0 < v.axles
  pub first_taken : (read_survey first).answer ≡ (Ok tt)
  pub second_taken : (read_survey second).answer ≡ (Ok tt)
  pub order : order_of first second ≡ (Ok tt)
  pub room_enough : 2 * count_of first ≤ room

module _ (v : Vehicle) (first second : List ℕ) (room : ℕ) where
  pub all_passed : first_refusal (between_tests v first second room) ≡ (Ok tt) → Passed v first second room
  all_passed e =
      let (vehicle, files) = both_taken _ _ e in
      let (a, rest) = both_taken _ _ files in
      let (b, end) = both_taken _ _ rest in
      let (order, last) = both_taken _ _ end in
      let (enough, none) = both_taken _ _ last in
      record {
        vehicle = not_none v.axles (test_holds 12 _ vehicle);
        first_taken = a;
        second_taken = b;
        order = order;
        room_enough = leb-true _ _ (test_holds 14 _ enough);
      }

  pub passed_all : Passed v first second room → first_refusal (between_tests v first second room) ≡ (Ok tt)
  passed_all p = rw (ne_eqb v.axles 0 (omega (arith, p.vehicle)), p.first_taken, p.second_taken, p.order, le-leb _ _ p.room_enough)

  -- the answer by the tests: none fails
  module _ (p : Passed v first second room) where
    pub same_count : (read_survey first).survey.count ≡ (read_survey second).survey.count
    same_count = rw (read_count first p.first_taken, read_count second p.second_taken) (order_count first second p.order)

    pub verdict_given : {b : Between} → b ≡ verdict_between (judgement_of (members_of (read_survey first).survey) v).verdict (judgement_of (members_of (read_survey second).survey) v).verdict →
        Ok b ≡ answered_between v first second room
    unfolding answered_between
    verdict_given e = rw (passed_all p, e, read_members first p.first_taken, read_members second p.second_taken)

  -- or one does
  pub refusal_given : (r : Refusal) → first_refusal (between_tests v first second room) ≡ Err r → Err r ≡ answered_between v first second room
  unfolding answered_between
  refusal_given r e = rw e

-- what the list then holds
module _ (v : Vehicle) (first second list : List ℕ) where
  pub list_filled : Passed v first second (length list) → {now : List ℕ} →
      now ≡ bounds_written (λ i. permitted_for v (member_at (read_survey second).survey.members i)) (λ i. permitted_for v (member_at (read_survey first).survey.members i)) (read_survey first).survey.count list →
      now ≡ between_list v first second list
  unfolding between_list
  list_filled p e =
      let same = order_count first second p.order in
      rw (passed_all v first second (length list) p, e, read_count first p.first_taken)
      (bounds_same (count_of first) list (λ i l. ap (permitted_for v) (taken_record second p.second_taken i _ (omega arith))) (λ i l. ap (permitted_for v) (taken_record first p.first_taken i _ l)))

  pub list_kept : (r : Refusal) → first_refusal (between_tests v first second (length list)) ≡ Err r → list ≡ between_list v first second list
  unfolding between_list
  list_kept r e = rw e

  -- the answer and the list of a call that is refused
  pub refused : (r : Refusal) → first_refusal (between_tests v first second (length list)) ≡ Err r →
      (Err r ≡ answered_between v first second (length list)) × (list ≡ between_list v first second list)
  refused r e = (refusal_given v first second (length list) r e, list_kept r e)
