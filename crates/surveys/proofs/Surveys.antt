-- Reading a survey, beside what the document allows: a file is taken exactly when it is allowed, the survey then holds the
-- file's numbers, and a refusal has its number and its place.
use Rattle.std.specs.Prelude.{Result, Ok, Err}
use Prim.Native.Nat.{ℕ, zero, suc, ◌+◌, ◌-◌, ◌*◌, ◌≤◌, ◌<◌}
use mathlib.Core.Path.{◌≡◌, refl, ap, sym, ◌∙◌}
use mathlib.Core.List.{List, ◌∷◌}
use mathlib.Core.Logic.{◌⊎◌, inl, inr, ⊎_elim}
use native.Mathlib.Omega.{arith}
use lib.ListN.{length, get_or, replicate}
use Rattle.member.specs.declared.record.Member.{Member}
use Rattle.member.specs.declared.record.Survey.{Survey}
use Rattle.member.specs.Blank.{blank_member, blank_survey}
use Rattle.member.specs.Fields.{MOST_MEMBERS, FIELDS, field}
use Rattle.member.specs.Format.{◌‥◌, In, AllowedMember}
use Rattle.files.specs.Words.{word_at}
use Rattle.files.specs.Reading.{Reading, first_fault, or_else, taken}
use Rattle.surveys.specs.SurveyFile.{SURVEY_HEADER, RECORD, SURVEY_VERSIONS, count_of, record_at, survey_header, member_fault, record_faults, sequence_fault, sequence_answer, survey_answer, survey_of, read_survey}
use Rattle.surveys.specs.Allowed.{AllowedSurveyFile}
use Rattle.files.specs.Refused.{Headed}
use Rattle.surveys.specs.Refused.{FirstRecord, SurveyRefusal}
use Rattle.files.specs.declared.Refusal.{Refusal}
use Rattle.files.proofs.Each.{length_each, getD_each, getD_padded}
use Rattle.files.proofs.Faults.{refusal, reading_case, both_taken, one_refused, head_first, head_clear, fault_at, taken_none, none_taken, FaultAt, refused_at}
use Rattle.files.proofs.Headers.{headed, header_clear, header_named, header_is, header_number}
use Rattle.surveys.proofs.Sequences.{record_field, fault_given, fault_read, sequence_read, sequence_given, sequence_first, sequence_refused}
use Rattle.surveys.proofs.Refusals.{clear_allowed, allowed_clear, member_named, member_is, member_number}

-- what is read: the survey where the tests find nothing, else their refusal
pub read_ok : (bytes : List ℕ) → survey_answer bytes ≡ Ok tt → ◌≡◌ {A = Result Survey Refusal} (Ok (survey_of bytes)) (taken (read_survey bytes).answer (read_survey bytes).survey)
unfolding read_survey
read_ok bytes e = rw e

pub read_err : (bytes : List ℕ) (r : Refusal) → survey_answer bytes ≡ Err r → ◌≡◌ {A = Result Survey Refusal} (Err r) (taken (read_survey bytes).answer (read_survey bytes).survey)
unfolding read_survey
read_err bytes r e = rw e

module _ (bytes : List ℕ) where
  -- the answer for header and records, before their order
  abbrev faults_answer : Reading
  faults_answer = first_fault 0 (survey_header bytes ∷ record_faults bytes (count_of bytes))

  abbrev HeadedSurvey : Type 0
  HeadedSurvey = Headed 82 SURVEY_VERSIONS SURVEY_HEADER MOST_MEMBERS RECORD bytes

  abbrev AllowedRecords : Type 0
  AllowedRecords = (i : ℕ) → i < count_of bytes → AllowedMember (record_at bytes i)

  pub headed_survey : survey_header bytes ≡ 0 → HeadedSurvey
  headed_survey = headed 82 SURVEY_VERSIONS SURVEY_HEADER MOST_MEMBERS RECORD bytes (omega arith)

  -- a fault of the header is the answer; after a good one the records decide, and then their order
  pub headed_first : (n : ℕ) → survey_header bytes ≡ n → (n ≡ 0 → ⊥) → survey_answer bytes ≡ refusal n 0
  unfolding survey_answer
  headed_first n e some = rw (head_first 0 n (survey_header bytes) (record_faults bytes (count_of bytes)) e some)

  pub headed_clear : survey_header bytes ≡ 0 → survey_answer bytes ≡ or_else (first_fault 1 (record_faults bytes (count_of bytes))) (sequence_answer bytes (count_of bytes))
  unfolding survey_answer
  headed_clear e = rw (head_clear 0 (survey_header bytes) (record_faults bytes (count_of bytes)) e)

  -- behind a good header a record's fault is the answer, and where no record has one their order is
  pub records_first : (r : Refusal) → survey_header bytes ≡ 0 → first_fault 1 (record_faults bytes (count_of bytes)) ≡ Err r → survey_answer bytes ≡ Err r
  records_first r clear e = headed_clear clear ∙ ap (λ (a : Reading). or_else a (sequence_answer bytes (count_of bytes))) e

  pub order_last : survey_header bytes ≡ 0 → first_fault 1 (record_faults bytes (count_of bytes)) ≡ Ok tt → survey_answer bytes ≡ sequence_answer bytes (count_of bytes)
  order_last clear e = headed_clear clear ∙ ap (λ (a : Reading). or_else a (sequence_answer bytes (count_of bytes))) e

  survey_clear : HeadedSurvey → survey_header bytes ≡ 0
  survey_clear = header_clear 82 SURVEY_VERSIONS SURVEY_HEADER MOST_MEMBERS RECORD bytes (omega arith)

  -- it takes them exactly where the header and every record are good
  records_good : faults_answer ≡ (Ok tt) → HeadedSurvey × AllowedRecords
  records_good e =
      let none = taken_none 0 (survey_header bytes ∷ record_faults bytes (count_of bytes)) e in (
        headed_survey (none 0),
        λ i l. clear_allowed (record_at bytes i) (sym (getD_each (λ k. member_fault (record_at bytes k)) (count_of bytes) i 0 l) ∙ none (suc i)),
      )

  good_records : HeadedSurvey → AllowedRecords → faults_answer ≡ (Ok tt)
  good_records h members =
      head_clear 0 _ (record_faults bytes (count_of bytes)) (survey_clear h) ∙ none_taken 1 (λ k. member_fault (record_at bytes k)) (count_of bytes) (λ i l. allowed_clear (record_at bytes i) (members i l))

  -- a file is taken exactly when it is allowed
  pub taken_allowed : (read_survey bytes).answer ≡ (Ok tt) → AllowedSurveyFile bytes
  unfolding read_survey survey_answer
  taken_allowed e =
      let (records, sequence) = both_taken faults_answer _ e in
      let (h, members) = records_good records in
      record {
        mark = h.marked.0;
        version = h.marked.1;
        count = h.count;
        size = h.sized;
        members = members;
        order = λ v. sequence_read bytes (count_of bytes) sequence (omega arith);
      }

  pub allowed_taken : AllowedSurveyFile bytes → (read_survey bytes).answer ≡ (Ok tt)
  unfolding read_survey survey_answer
  allowed_taken a =
      let long : SURVEY_HEADER ≤ length bytes = omega (arith, a.size) in
      let h : HeadedSurvey = record { long = long; marked = (a.mark, a.version); count = a.count; sized = a.size } in
      rw (good_records h a.members) (sequence_given bytes (count_of bytes) (λ v. a.order (omega arith)))

  -- a taken file's survey is the file's
  pub taken_survey : (read_survey bytes).answer ≡ (Ok tt) → (read_survey bytes).survey ≡ survey_of bytes
  unfolding read_survey
  taken_survey e = rw e

  -- record by record
  pub taken_record : (read_survey bytes).answer ≡ (Ok tt) → (i : ℕ) (d : Member) → i < count_of bytes → get_or (read_survey bytes).survey.members i d ≡ record_at bytes i
  taken_record e i d l =
      rw (taken_survey e) (getD_padded (record_at bytes) (count_of bytes) i (replicate (MOST_MEMBERS - count_of bytes) blank_member) d l)

  -- and number by number
  pub taken_field : (read_survey bytes).answer ≡ (Ok tt) → (i f : ℕ) (d : Member) → i < count_of bytes → f < FIELDS → field (get_or (read_survey bytes).survey.members i d) f ≡ word_at bytes (SURVEY_HEADER + RECORD * i + 2 * f)
  taken_field e i f d l h = rw (taken_record e i d l) (record_field bytes i f h)

  -- its count is in range and its members are allowed
  pub taken_count : (read_survey bytes).answer ≡ (Ok tt) → In (1 ‥ MOST_MEMBERS) (read_survey bytes).survey.count
  taken_count e = rw (taken_survey e) (taken_allowed e).count

  pub taken_members : (read_survey bytes).answer ≡ (Ok tt) → (i : ℕ) (d : Member) → i < (read_survey bytes).survey.count → AllowedMember (get_or (read_survey bytes).survey.members i d)
  taken_members e i d l =
      let within : i < count_of bytes = rw (taken_survey e) at l in
      rw (taken_record e i d within) ((taken_allowed e).members i within)

  -- a refused file gives a blank survey
  pub refused_blank : (r : Refusal) → (read_survey bytes).answer ≡ Err r → (read_survey bytes).survey ≡ blank_survey
  unfolding read_survey
  refused_blank r e = rw e

  -- a refusal of header or record is the first fault by place, and says so of the file
  record_refusal : (r : Refusal) (p : ℕ) → r.place ≡ p → FaultAt 0 (survey_header bytes ∷ record_faults bytes (count_of bytes)) r → SurveyRefusal bytes r
  record_refusal r zero e h =
      let none : r.place - 0 ≡ 0 = omega arith in
      let fault = header_named 82 SURVEY_VERSIONS SURVEY_HEADER MOST_MEMBERS RECORD bytes (omega arith) r.number (rw none at h.number) h.fault in
      let small = header_number fault in
      record {
        number = inl (omega arith);
        header = λ l. e;
        place = λ l. absurd (omega arith);
        header_fault = λ z. fault;
        record_fault = λ l s. absurd (omega arith);
        sequence_fault = λ z. absurd (omega arith);
      }
  record_refusal r (suc i) e h =
      let fault : ℕ → ℕ = λ k. member_fault (record_at bytes k) in
      let step : r.place - 0 ≡ suc i = omega arith in
      let within : i < count_of bytes = omega (arith, h.below, length_each fault (count_of bytes)) in
      let at : fault i ≡ r.number = sym (getD_each fault (count_of bytes) i 0 within) ∙ (rw step at h.number) in
      let named = member_named (record_at bytes i) r.number at h.fault in
      let large = member_number named in
      let first : (k : ℕ) → k ≡ i → FirstRecord bytes r.number k =
      λ k same.
      rw same
      (record {
        headed = headed_survey (h.first 0 (omega arith));
        within = within;
        fault = named;
        before = λ k b. clear_allowed (record_at bytes k) (sym (getD_each fault (count_of bytes) k 0 (omega arith)) ∙ h.first (suc k) (omega arith));
      }) in
      record {
        number = inl (omega arith);
        header = λ l. absurd (omega arith);
        place = λ l. omega arith;
        header_fault = λ z. absurd (omega arith);
        record_fault = λ l s. first _ (omega arith);
        sequence_fault = λ z. absurd (omega arith);
      }

  -- and one of their order
  sequence_refusal : (r : Refusal) → faults_answer ≡ (Ok tt) → sequence_answer bytes (count_of bytes) ≡ Err r → SurveyRefusal bytes r
  sequence_refusal r e f =
      let (version, h) = sequence_first bytes (count_of bytes) r f in
      let i = r.place - 1 in
      let from = h.from in
      let within : i < count_of bytes = omega (arith, h.below, length_each (sequence_fault bytes) (count_of bytes)) in
      let (is, at) = fault_read bytes i r.number (sym (getD_each (sequence_fault bytes) (count_of bytes) i 0 within) ∙ h.number) h.fault in
      let (head, members) = records_good e in
      record {
        number = inr is;
        header = λ l. absurd (omega arith);
        place = λ l. omega arith;
        header_fault = λ z. absurd (omega arith);
        record_fault = λ l s. absurd (omega arith);
        sequence_fault = λ z.
            record {
              headed = head;
              version = version;
              good = λ k l. members k (omega (arith, within));
              within = within;
              fault = at;
              first = λ k l b. omega (arith, fault_given bytes k b, getD_each (sequence_fault bytes) (count_of bytes) k 0 (omega arith), h.first k (omega arith));
            };
      }

  -- what a refusal says of the file
  pub refused_named : (r : Refusal) → (read_survey bytes).answer ≡ Err r → SurveyRefusal bytes r
  unfolding read_survey survey_answer
  refused_named r e =
      ⊎_elim (λ f. record_refusal r r.place refl (refused_at 0 (survey_header bytes ∷ record_faults bytes (count_of bytes)) r f)) (λ (t, f). sequence_refusal r t f)
      (one_refused faults_answer _ r e)

  -- and a file of which a refusal says so is refused by it
  pub named_refused : (r : Refusal) → SurveyRefusal bytes r → (read_survey bytes).answer ≡ Err r
  unfolding read_survey survey_answer
  named_refused r h = ⊎_elim (λ small. rw (of_record small r.place refl)) of_sequence h.number
    where
      of_record : In (1 ‥ 8) r.number → (p : ℕ) → r.place ≡ p → faults_answer ≡ Err r
      of_record small zero e =
          head_first 0 r.number (survey_header bytes) (record_faults bytes (count_of bytes)) (header_is 82 SURVEY_VERSIONS SURVEY_HEADER MOST_MEMBERS RECORD bytes (omega arith) (h.header_fault e)) (omega (arith, small)) ∙ ap (refusal r.number) (sym e)
      of_record small (suc i) e =
          let fault : ℕ → ℕ = λ k. member_fault (record_at bytes k) in
          let here : r.place - 1 ≡ i = omega arith in
          let first = rw here at (h.record_fault (omega arith) small.1) in
          let before = none_taken 1 fault i (λ k l. allowed_clear (record_at bytes k) (first.before k l)) in
          let there : i + 1 ≡ r.place = omega arith in
          head_clear 0 _ (record_faults bytes (count_of bytes)) (survey_clear first.headed) ∙ fault_at fault 1 i (count_of bytes) r.number first.within before (member_is (record_at bytes i) first.fault) (omega (arith, small)) ∙ ap (refusal r.number) there

      of_sequence : r.number ≡ 16 → or_else faults_answer (sequence_answer bytes (count_of bytes)) ≡ Err r
      of_sequence e =
          let f = h.sequence_fault e in
          let there : r.place - 1 + 1 ≡ r.place = omega (arith, h.place (omega arith)) in
          rw (good_records f.headed (λ k l. f.good k (omega arith)))
          (sequence_refused bytes (count_of bytes) (r.place - 1) f.version f.within f.fault (λ k l. f.first k (omega arith)) ∙ rw (there, e))

  -- a survey file is allowed, or refused by its own refusal
  pub either_file : AllowedSurveyFile bytes ⊎ ((r : Refusal) × SurveyRefusal bytes r)
  either_file =
      reading_case (read_survey bytes).answer (λ a. AllowedSurveyFile bytes ⊎ ((r : Refusal) × SurveyRefusal bytes r)) (λ e. inl (taken_allowed e))
      (λ r e. inr (r, refused_named r e))
