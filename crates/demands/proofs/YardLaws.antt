-- What is claimed of the yard's call holds: each part of the tests has its own plain words, and an entry is what judge answers of its vehicle.
-- Assumes nothing.
use Prim.Native.Nat.{ℕ, zero, suc, ◌+◌, ◌-◌, ◌*◌, ◌≤◌, ◌<◌}
use mathlib.Core.Path.{◌≡◌, refl, sym, ap, subst, ◌∙◌}
use mathlib.Core.List.{List, [], ◌∷◌, ◌++◌, map, append-nil}
use mathlib.Core.Logic.{◌⊎◌, inl, inr, ⊎_elim}
use native.Mathlib.Decide.{dec_le}
use native.Mathlib.Omega.{arith}
use lib.ListN.{length, get_or, take, drop, length-append, length-drop, length-map, get_or-append}
use lib.Seq.{take_at, get_or-append-add, get_or-drop}
use borrow.Author.Tests.{ne_eqb, le-leb, lt-leb}
use Rattle.member.specs.Format.{◌‥◌}
use Rattle.rating.specs.Judgement.{judgement_of}
use Rattle.vehicles.specs.Allowed.{AllowedVehicleFile}
use Rattle.files.specs.Reading.{first_of, is_in}
use Rattle.vehicles.specs.Refused.{VehicleRefusal}
use Rattle.vehicles.specs.VehicleFile.{VEHICLE_VERSIONS, vehicle_of}
use Rattle.vehicles.specs.YardFile.{MOST_VEHICLES, AllowedYard, vehicles_of, vehicle_files, files_in, left_after, left_over, joined}
use Rattle.files.specs.declared.Refusal.{Refusal}
use Rattle.files.proofs.Tests.{in_range, range_in, refutes}
use Rattle.vehicles.proofs.Vehicles as vehicles
use Rattle.vehicles.proofs.Yards.{AllowedTo, length_files, files_joined, joined_files, joined_left}
use Rattle.session.specs.Answers.{Answer, Outcome, Values, RefusedAt, refused_by, values_of, judgement_answer}
use Rattle.session.specs.Calls.{Valid, members, load_vehicle, judge, unless_refused}
use Rattle.session.specs.Yard.{Entry, alone, vehicle_answers, passing, first_refusal, front_tests, answered_yard, judge_yard, yard_list}
use Rattle.demands.specs.YardCall.{file_at, entry_at, GoodBefore, Counted, YardFault, no_survey, no_count, wrong_count, faulty_vehicle, bytes_left, short_list, Passing, YardAnswered, YardFigures, YardTaken}
use Rattle.session.specs.Loaded.{Session}
use Rattle.session.proofs.Loads.{never_both, vehicle_load}
use Rattle.session.proofs.State as state
use Rattle.demands.proofs.Answered.{all_answers}
use Rattle.session.proofs.YardTests as tests

-- one vehicle alone: where its file is allowed the answer is its judgement, and else the file's own refusal
module _ (s : Session) (file : List ℕ) where
  -- the session with that vehicle
  abbrev with : Session
  with = record { survey = s.survey; vehicle = vehicle_of file }

  loaded : AllowedVehicleFile file → load_vehicle s file ≡ record { session = with; answer = Values [] }
  loaded a = vehicle_load s file (vehicles.allowed_taken VEHICLE_VERSIONS file a)

  judged : 0 < s.survey.count → AllowedVehicleFile file → (lent : List ℕ) → 2 * s.survey.count ≤ length lent →
      (judge (load_vehicle s file).session lent).answer ≡ judgement_answer (judgement_of (members s) (vehicle_of file))
  judged h a lent l =
      ap (λ (o : Outcome). (judge o.session lent).answer) (loaded a) ∙ (all_answers with h a.vehicle.axles.0).judged lent l

  alone_answer : Valid s → 0 < s.survey.count → AllowedVehicleFile file → alone s file ≡ judgement_answer (judgement_of (members s) (vehicle_of file))
  alone_answer v h a =
      let e = vehicles.allowed_taken VEHICLE_VERSIONS file a in
      state.alone_taken s file (v.survey h) e ∙ rw (vehicles.taken_vehicle VEHICLE_VERSIONS file e)

  alone_refused : (r : Refusal) → VehicleRefusal file r → alone s file ≡ refused_by r
  alone_refused r h = state.alone_refused s file r (vehicles.named_refused VEHICLE_VERSIONS file r h)

module _ (s : Session) (v : Valid s) (h : 0 < s.survey.count) where
  -- files that are all allowed are not refused
  all_good : (files : List (List ℕ)) → AllowedTo files (length files) → first_refusal (map (alone s) files) (Values []) ≡ Values []
  all_good [] a = refl
  all_good (file ∷ files) a =
      ap (λ (x : Answer). unless_refused x x (first_refusal (map (alone s) files) (Values []))) (alone_answer s file v h (a 0 (omega arith))) ∙ all_good files (λ i l. a (suc i) (omega arith))

  -- the first faulty file is the refusal
  first_faulty : (files : List (List ℕ)) (i : ℕ) → i < length files → AllowedTo files i → (r : Refusal) → VehicleRefusal (get_or files i []) r →
      first_refusal (map (alone s) files) (Values []) ≡ refused_by r
  first_faulty [] i l a r f = absurd (omega arith)
  first_faulty (file ∷ files) zero l a r f =
      ap (λ (x : Answer). unless_refused x x (first_refusal (map (alone s) files) (Values []))) (alone_refused s file r f)
  first_faulty (file ∷ files) (suc i) l a r f =
      ap (λ (x : Answer). unless_refused x x (first_refusal (map (alone s) files) (Values []))) (alone_answer s file v h (a 0 (omega arith))) ∙ first_faulty files i (omega arith) (λ k b. a (suc k) (omega arith)) r f

  -- and it is one of the two: all are allowed, or one is the first that is not
  abbrev Faulty : List (List ℕ) → Type 0
  Faulty files = (i : ℕ) × (i < length files) × (AllowedTo files i) × ((r : Refusal) × VehicleRefusal (get_or files i []) r)

  one_more : (file : List ℕ) (files : List (List ℕ)) (n : ℕ) → AllowedVehicleFile file → AllowedTo files n → AllowedTo (file ∷ files) (suc n)
  one_more file files n a b zero l = a
  one_more file files n a b (suc i) l = b i (omega arith)

  good_or_faulty : (files : List (List ℕ)) → AllowedTo files (length files) ⊎ Faulty files
  good_or_faulty [] = inl (λ i l. absurd (omega arith))
  good_or_faulty (file ∷ files) = go (vehicles.either_file VEHICLE_VERSIONS file) (good_or_faulty files)
    where
      go : AllowedVehicleFile file ⊎ ((r : Refusal) × VehicleRefusal file r) → AllowedTo files (length files) ⊎ Faulty files → AllowedTo (file ∷ files) (length (file ∷ files)) ⊎ Faulty (file ∷ files)
      go (inr f) rest = inr (0, omega arith, (λ i l. absurd (omega arith)), f)
      go (inl a) (inl b) = inl (one_more file files (length files) a b)
      go (inl a) (inr (i, l, b, f)) = inr (suc i, omega arith, one_more file files i a b, f)

none_left : {A : Type 0} (l : List A) → length l ≡ 0 → l ≡ []
none_left [] e = refl
none_left (x ∷ l) e = absurd (omega arith)

module _ (s : Session) (v : Valid s) (yard : List ℕ) (room : ℕ) where
  -- all files of the yard, as many as its count says
  counted_files : length (vehicle_files yard) ≡ vehicles_of yard
  counted_files = length_files (vehicles_of yard) (drop 1 yard)

  front_0 : Counted s yard → first_of (front_tests s.survey.count yard) ≡ 0
  front_0 c = rw (ne_eqb s.survey.count 0 (omega (arith, c.survey)), le-leb 1 (length yard) c.byte, range_in (1 ‥ MOST_VEHICLES) (vehicles_of yard) c.count)

  good_files : Counted s yard → GoodBefore yard (vehicles_of yard) → first_refusal (vehicle_answers s yard) (Values []) ≡ Values []
  good_files c g = all_good s v c.survey (vehicle_files yard) (λ i l. g i (omega (arith, counted_files)))

  -- a fault in plain words is the answer
  named : (n p : ℕ) → YardFault s yard room n p → answered_yard s yard room ≡ RefusedAt n p
  named n p (no_survey e) = tests.front_refused s yard room 11 (rw e) (omega arith)
  named n p (no_count h e) = tests.front_refused s yard room 1 (rw (ne_eqb s.survey.count 0 (omega arith), e)) (omega arith)
  named n p (wrong_count h l out) =
      tests.front_refused s yard room 3 (rw (ne_eqb s.survey.count 0 (omega arith), le-leb 1 (length yard) l, refutes (is_in (1 ‥ MOST_VEHICLES) (vehicles_of yard)) (in_range (1 ‥ MOST_VEHICLES) (vehicles_of yard)) out)) (omega arith)
  named n p (faulty_vehicle c i l g r f) =
      tests.vehicle_refused s yard room (front_0 c) r.number r.place (first_faulty s v c.survey (vehicle_files yard) i (omega (arith, counted_files)) g r f)
  named n p (bytes_left c g left) =
      tests.end_refused s yard room (front_0 c) (good_files c g) 1 (rw (ne_eqb (length (left_over yard)) 0 (λ e. left (none_left (left_over yard) e)))) (omega arith)
  named n p (short_list c g e l) =
      tests.end_refused s yard room (front_0 c) (good_files c g) 14 (rw (e, lt-leb (vehicles_of yard) room l)) (omega arith)

  -- no fault
  record Good : Type 0 where
    counted : Counted s yard
    files : GoodBefore yard (vehicles_of yard)
    none_over : left_over yard ≡ []
    fits : vehicles_of yard ≤ room

  taken : Good → answered_yard s yard room ≡ Values (passing (vehicle_answers s yard) ∷ [])
  taken g =
      tests.not_refused s yard room (front_0 g.counted) (good_files g.counted g.files) (rw (g.none_over, le-leb (vehicles_of yard) room g.fits))

  -- there is a fault or none
  fault_or_good : ((n p : ℕ) × YardFault s yard room n p) ⊎ Good
  fault_or_good = front (dec_le s.survey.count 0) (dec_le (length yard) 0)
    where
      behind : (c : Counted s yard) → GoodBefore yard (vehicles_of yard) → Dec (length (left_over yard) ≤ 0) → Dec (vehicles_of yard ≤ room) → ((n p : ℕ) × YardFault s yard room n p) ⊎ Good
      behind c g (no l) d = inl (1, 0, bytes_left c g (λ e. let z : length (left_over yard) ≡ 0 = rw e in l (omega arith)))
      behind c g (yes l) (no d) = inl (14, 0, short_list c g (none_left (left_over yard) (omega arith)) (omega arith))
      behind c g (yes l) (yes d) = inr (record { counted = c; files = g; none_over = none_left (left_over yard) (omega arith); fits = d })

      vehicles_of_lem : Counted s yard → ((n p : ℕ) × YardFault s yard room n p) ⊎ Good
      vehicles_of_lem c =
          ⊎_elim
          (λ g. behind c (λ i l. g i (omega (arith, counted_files))) (dec_le (length (left_over yard)) 0) (dec_le (vehicles_of yard) room))
          (λ f. inl (f.3.0.number, f.3.0.place, faulty_vehicle c f.0 (omega (arith, counted_files, f.1)) f.2 f.3.0 f.3.1))
          (good_or_faulty s v c.survey (vehicle_files yard))

      front : Dec (s.survey.count ≤ 0) → Dec (length yard ≤ 0) → ((n p : ℕ) × YardFault s yard room n p) ⊎ Good
      front (yes h) d = inl (11, 0, no_survey (omega arith))
      front (no h) (yes d) = inl (1, 0, no_count (omega arith) (omega arith))
      front (no h) (no d) =
          elim (dec_le 1 (vehicles_of yard)) [
            | no l ↦ inl (3, 0, wrong_count (omega arith) (omega arith) (λ i. l i.0))
            | yes l ↦ elim (dec_le (vehicles_of yard) MOST_VEHICLES) [
              | no m ↦ inl (3, 0, wrong_count (omega arith) (omega arith) (λ i. m i.1))
              | yes m ↦ vehicles_of_lem (record { survey = omega arith; byte = omega arith; count = (l, m) })
            ]
          ]

getD_mapped : {A B : Type 0} (f : A → B) (l : List A) (i : ℕ) (b : B) (a : A) → i < length l → get_or (map f l) i b ≡ f (get_or l i a)
getD_mapped f [] i b a h = absurd (omega arith)
getD_mapped f (x ∷ l) zero b a h = refl
getD_mapped f (x ∷ l) (suc i) b a h = getD_mapped f l i b a (omega arith)

-- the bytes of a yard with a count are the count and what is behind it
cons_of : (yard : List ℕ) → 1 ≤ length yard → yard ≡ vehicles_of yard ∷ drop 1 yard
cons_of [] l = absurd (omega arith)
cons_of (b ∷ yard) l = refl

module _ (s : Session) (v : Valid s) (yard : List ℕ) where
  -- a yard with no fault is a count and that many allowed files joined
  allowed : (room : ℕ) → Good s v yard room → AllowedYard yard
  allowed room g =
      let n = counted_files s v yard room in
      record {
        files = vehicle_files yard;
        count = rw n g.counted.count;
        allowed = λ i l. g.files i (omega (arith, n));
        bytes =
            cons_of yard g.counted.byte ∙ rw n (ap (λ (l : List ℕ). vehicles_of yard ∷ l) (sym (files_joined (vehicles_of yard) (drop 1 yard)) ∙ rw g.none_over (append-nil (joined (vehicle_files yard)))));
      }

  -- and the other way round: the files are cut as they were joined
  good : (room : ℕ) → 0 < s.survey.count → (a : AllowedYard yard) → vehicles_of yard ≤ room → Good s v yard room
  good room h a l =
      let count : vehicles_of yard ≡ length a.files = ap vehicles_of a.bytes in
      let behind : drop 1 yard ≡ joined a.files = ap (drop 1) a.bytes in
      let cut : vehicle_files yard ≡ a.files = ap (λ (n : ℕ). files_in n (drop 1 yard)) count ∙ ap (files_in (length a.files)) behind ∙ joined_files a.files a.allowed in
      record {
        counted = record { survey = h; byte = omega (arith, ap (length {A = ℕ}) a.bytes); count = rw count a.count };
        files = λ i b. subst (λ (files : List (List ℕ)). AllowedVehicleFile (get_or files i [])) (sym cut) (a.allowed i (omega arith));
        none_over = ap (λ (n : ℕ). left_after n (drop 1 yard)) count ∙ ap (left_after (length a.files)) behind ∙ joined_left a.files a.allowed;
        fits = l;
      }

  module _ (list : List Entry) where
    -- a yard that is judged has no fault
    judged_good : (n : ℕ) → Passing s yard list n → Good s v yard (length list)
    unfolding judge_yard
    judged_good n e =
        ⊎_elim (λ f. never_both (n ∷ []) f.0 f.1 (sym e ∙ named s v yard (length list) f.0 f.1 f.2)) (λ g. g) (fault_or_good s v yard (length list))

    -- what is then written
    written : Good s v yard (length list) → yard_list s yard list ≡ vehicle_answers s yard ++ drop (vehicles_of yard) list
    unfolding yard_list
    written g = rw (taken s v yard (length list) g)

    as_many : length (vehicle_answers s yard) ≡ vehicles_of yard
    as_many = length-map (vehicle_files yard) (alone s) ∙ counted_files s v yard (length list)

    module _ (n : ℕ) (e : Passing s yard list n) where
      abbrev g : Good s v yard (length list)
      g = judged_good n e

      entry : (i : ℕ) → i < vehicles_of yard → entry_at (yard_list s yard list) i ≡ judgement_answer (judgement_of (members s) (vehicle_of (file_at yard i)))
      entry i l =
          ap (λ (m : List Entry). entry_at m i) (written g) ∙ get_or-append (vehicle_answers s yard) (drop (vehicles_of yard) list) (Values []) i (omega (arith, as_many)) ∙ getD_mapped (alone s) (vehicle_files yard) i (Values []) [] (omega (arith, counted_files s v yard (length list))) ∙ alone_answer s (file_at yard i) v g.counted.survey (g.files i l)

      past : (i : ℕ) → vehicles_of yard ≤ i → entry_at (vehicle_answers s yard ++ drop (vehicles_of yard) list) i ≡ entry_at list i
      past i l =
          let first : length (vehicle_answers s yard) + (i - vehicles_of yard) ≡ i = omega (arith, as_many) in
          let second : vehicles_of yard + (i - vehicles_of yard) ≡ i = omega arith in
          ap (entry_at (vehicle_answers s yard ++ drop (vehicles_of yard) list)) (sym first) ∙ get_or-append-add (vehicle_answers s yard) (drop (vehicles_of yard) list) (i - vehicles_of yard) (Values []) ∙ get_or-drop (vehicles_of yard) list (i - vehicles_of yard) (Values []) ∙ ap (entry_at list) second

      figures : YardFigures s yard list n
      unfolding judge_yard
      figures =
          record {
            loaded = λ i l. ap (λ (o : Outcome). o.answer) (loaded s (file_at yard i) (g.files i l));
            judged = λ i l lent r. judged s (file_at yard i) g.counted.survey (g.files i l) lent r ∙ sym (entry i l);
            figures = entry;
            passes =
                ap (λ (a : Answer). get_or (values_of a) 0 0) (sym e ∙ taken s v yard (length list) g) ∙ ap passing (sym (ap (take (vehicles_of yard)) (written g) ∙ take_at (vehicle_answers s yard) (drop (vehicles_of yard) list) (vehicles_of yard) as_many));
            beyond = λ i l. ap (λ (m : List Entry). entry_at m i) (written g) ∙ past i l;
            length_kept =
                ap length (written g) ∙ omega (arith, length-append (vehicle_answers s yard) (drop (vehicles_of yard) list), length-drop (vehicles_of yard) list, as_many, g.fits);
          }

-- what is claimed, of every valid session, all bytes and every list
pub yard_answered : (s : Session) → Valid s → (yard : List ℕ) (list : List Entry) → YardAnswered s yard list
unfolding judge_yard yard_list
yard_answered s v yard list =
    record {
      answered =
          ⊎_elim (λ f. inr (f.0, f.1, named s v yard (length list) f.0 f.1 f.2, f.2)) (λ g. inl (_, taken s v yard (length list) g)) (fault_or_good s v yard (length list));
      named = named s v yard (length list);
      session_kept = refl;
      list_kept = λ n p e. rw e;
    }

pub yard_taken : (s : Session) → Valid s → (yard : List ℕ) (list : List Entry) → YardTaken s yard list
unfolding judge_yard
yard_taken s v yard list =
    record {
      taken = (
        λ h. let g = judged_good s v yard list h.0 h.1 in (g.counted.survey, allowed s v yard (length list) g, g.fits),
        λ h. (_, taken s v yard (length list) (good s v yard (length list) h.0 h.1 h.2)),
      );
      figures = figures s v yard list;
    }
