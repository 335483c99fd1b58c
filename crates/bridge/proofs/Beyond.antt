-- Bytes beyond the longest survey and the longest vehicle change nothing. A vehicle file that is longer than any count byte can call
-- for is refused by its header, and the header's tests look only at its first bytes and at the length being another.
-- Assumes nothing.
use Prim.Native.Nat.{ℕ, ◌+◌, ◌-◌, ◌*◌, ◌≤◌, ◌<◌}
use mathlib.Core.Path.{◌≡◌, ap, sym, ◌∙◌}
use mathlib.Core.List.{List, [], ◌∷◌}
use native.Mathlib.Decide.{dec_le}
use native.Mathlib.Omega.{arith}
use lib.ListN.{length, take, drop, length-take}
use lib.Seq.{take_all, take-take, take-add, drop_at, length-take-le, get_or-take, get_or-drop}
use borrow.Author.Tests.{le-leb, ne_eqb}
use Rattle.member.specs.Format.{Range, ◌‥◌}
use Rattle.member.specs.Fields.{MOST_AXLES}
use Rattle.files.specs.Words.{byte_at, Bytes}
use Rattle.files.specs.Reading.{◌unless◌, first_of, is_in}
use Rattle.files.specs.Header.{version_of, marked, header_fault}
use Rattle.surveys.specs.SurveyFile.{count_of}
use Rattle.vehicles.specs.VehicleFile.{VEHICLE_HEADER, LONGEST_AXLE, VEHICLE_VERSIONS, axle_size, axles_of, axle_faults, blank_vehicle, vehicle_header, vehicle_answer, read_vehicle_of, read_vehicle}
use Rattle.vehicles.specs.VehicleFile.{VehicleRead}
use Rattle.section.proofs.Products.{product_cap}
use Rattle.files.proofs.Tests.{first_is}
use Rattle.files.proofs.Faults.{refusal, head_first}
use Rattle.vehicles.proofs.Axles.{longest_axle}
use Rattle.session.specs.Answers.{Outcome}
use Rattle.session.specs.Calls.{new_session, load_survey, load_vehicle, load_files, and_then}
use Rattle.session.specs.Loaded.{Session}
use Rattle.bridge.specs.Input.{ENOUGH, LoadedFrom, survey_length, survey_part, vehicle_part, load_input}

then_same : (o : Outcome) (f g : Session → Outcome) → ((s : Session) → f s ≡ g s) → and_then o f ≡ and_then o g
then_same o f g h = rw (h o.session)

-- the header's fault of a file that is longer than its count says
long_fault : (letter : ℕ) (versions : Range) (header most : ℕ) → List ℕ → ℕ
long_fault letter versions header most bytes =
    first_of (2 unless marked bytes letter versions ∷ 3 unless is_in (1 ‥ most) (byte_at bytes (header - 1)) ∷ 1 ∷ [])

module _ (letter : ℕ) (versions : Range) (header most size : ℕ) (bytes : List ℕ) where
  long_fault_lem : header + size * byte_at bytes (header - 1) < length bytes → header_fault letter versions header most size bytes ≡ long_fault letter versions header most bytes
  unfolding header_fault long_fault
  long_fault_lem h =
      rw
      (le-leb header (length bytes) (omega arith), ne_eqb (length bytes) (header + size * byte_at bytes (header - 1)) (λ e. omega arith))

  some_fault : 0 < long_fault letter versions header most bytes
  unfolding long_fault
  some_fault =
      let some : ℕ → Type 0 = λ n. 0 < n in
      let counted = is_in (1 ‥ most) (byte_at bytes (header - 1)) in
      first_is some 2 (marked bytes letter versions) (3 unless counted ∷ 1 ∷ []) (omega arith)
      (first_is some 3 counted (1 ∷ []) (omega arith) (omega arith))

-- it is the same of two files with the same header
same_fault : (letter : ℕ) (versions : Range) (header most : ℕ) (v w : List ℕ) → 5 ≤ header → ((i : ℕ) → i < header → byte_at w i ≡ byte_at v i) → long_fault letter versions header most w ≡ long_fault letter versions header most v
unfolding long_fault marked
same_fault letter versions header most v w five same =
    rw
    (same 0 (omega arith), same 1 (omega arith), same 2 (omega arith), same 3 (omega arith), same 4 (omega arith), same (header - 1) (omega arith))

-- what a vehicle file is read as whose header has a fault
module _ (v : List ℕ) (n : ℕ) (fault : 0 < n) where
  faulty_header : header_fault 86 VEHICLE_VERSIONS VEHICLE_HEADER MOST_AXLES (axle_size (version_of v)) v ≡ n → vehicle_header VEHICLE_VERSIONS v ≡ n
  unfolding vehicle_header
  faulty_header e = rw (e, ne_eqb n 0 (λ z. omega arith))

  faulty_answer : vehicle_header VEHICLE_VERSIONS v ≡ n → vehicle_answer VEHICLE_VERSIONS v ≡ refusal n 0
  unfolding vehicle_answer
  faulty_answer e = head_first 0 n (vehicle_header VEHICLE_VERSIONS v) (axle_faults v (axles_of v)) e (λ z. omega arith)

  faulty_read : vehicle_answer VEHICLE_VERSIONS v ≡ refusal n 0 → ◌≡◌ {A = VehicleRead} (read_vehicle v) (record { answer = refusal n 0; vehicle = blank_vehicle })
  unfolding read_vehicle_of
  faulty_read e = rw e

-- a vehicle file that is longer than its count says is refused with its header's fault, at place 0
long_vehicle : (v : List ℕ) → VEHICLE_HEADER + axle_size (version_of v) * axles_of v < length v →
    ◌≡◌ {A = VehicleRead} (read_vehicle v) (record { answer = refusal (long_fault 86 VEHICLE_VERSIONS VEHICLE_HEADER MOST_AXLES v) 0; vehicle = blank_vehicle })
long_vehicle v h =
    let n = long_fault 86 VEHICLE_VERSIONS VEHICLE_HEADER MOST_AXLES v in
    let fault = some_fault 86 VEHICLE_VERSIONS VEHICLE_HEADER MOST_AXLES (axle_size (version_of v)) v in
    faulty_read v n fault (faulty_answer v n fault (faulty_header v n fault (long_fault_lem 86 VEHICLE_VERSIONS VEHICLE_HEADER MOST_AXLES (axle_size (version_of v)) v h)))

-- a count byte calls for no more than so many of the longest axles
longer : (v : List ℕ) → axles_of v ≤ 255 → VEHICLE_HEADER + LONGEST_AXLE * 255 < length v → VEHICLE_HEADER + axle_size (version_of v) * axles_of v < length v
longer v count h = omega (arith, product_cap LONGEST_AXLE 255 (longest_axle (version_of v)) count)

-- a vehicle file and its beginning, where both are longer than any count byte calls for, are read alike
pub same_vehicle : (v : List ℕ) (n : ℕ) → byte_at v 8 < 256 → VEHICLE_HEADER + LONGEST_AXLE * 255 < n → read_vehicle (take n v) ≡ read_vehicle v
same_vehicle v n byte enough =
    elim (dec_le (length v) n) [
      | yes h ↦ rw (take_all n v h)
      | no h ↦
          let w = take n v in
          let size : length w ≡ n = length-take-le n v (omega arith) in
          let same : (i : ℕ) → i < VEHICLE_HEADER → byte_at w i ≡ byte_at v i = λ i l. get_or-take n v i 0 (omega arith) in
          let count : byte_at w 8 ≤ 255 = omega (arith, same 8 (omega arith)) in
          long_vehicle w (longer w count (omega arith)) ∙ rw (same_fault 86 VEHICLE_VERSIONS VEHICLE_HEADER MOST_AXLES v w (omega arith) same) (sym (long_vehicle v (longer v (omega arith) (omega arith))))
    ]

-- the end of a beginning is a beginning of the end
drop_take : (s n : ℕ) (l : List ℕ) → s ≤ n → s ≤ length l → drop s (take n l) ≡ take (n - s) (drop s l)
drop_take s n l h k =
    let sum : n ≡ s + (n - s) = omega arith in
    ap (λ (m : ℕ). drop s (take m l)) sum ∙ rw (take-add s (n - s) l) (drop_at (take s l) (take (n - s) (drop s l)) s (length-take-le s l k))

module _ (input : List ℕ) (n : ℕ) (bytes : Bytes input) (enough : ENOUGH ≤ n) where
  count_same : count_of (take n input) ≡ count_of input
  count_same = get_or-take n input 5 0 (omega arith)

  length_same : survey_length (take n input) ≡ survey_length input
  length_same = rw (count_same, length-take) (omega (arith, bytes 5))

  survey_same : survey_part (take n input) ≡ survey_part input
  survey_same = rw length_same (take-take (survey_length input) n input (omega (arith, bytes 5)))

  vehicle_same : vehicle_part (take n input) ≡ take (n - survey_length input) (vehicle_part input)
  vehicle_same = rw length_same (drop_take (survey_length input) n input (omega (arith, bytes 5)) (omega arith))

  read_same : read_vehicle (vehicle_part (take n input)) ≡ read_vehicle (vehicle_part input)
  read_same =
      rw vehicle_same
      (same_vehicle (vehicle_part input) (n - survey_length input) (rw (get_or-drop) (bytes (survey_length input + 8))) (omega (arith, bytes 5)))

  load_same : (s : Session) → load_vehicle s (vehicle_part (take n input)) ≡ load_vehicle s (vehicle_part input)
  unfolding load_vehicle
  load_same s = rw read_same

  -- what the program keeps of its input is enough
  pub rest_changes_nothing : load_input (take n input) ≡ load_input input
  unfolding load_input load_files
  rest_changes_nothing =
      rw survey_same
      (then_same (load_survey new_session (survey_part input)) (λ s. load_vehicle s (vehicle_part (take n input))) (λ s. load_vehicle s (vehicle_part input)) load_same)

-- so the outcome of what was read into a buffer that holds enough is that of the whole input
pub read_enough : (buffer : List ℕ) (n : ℕ) (o : Outcome) → ENOUGH ≤ length buffer → o ≡ load_input (take n buffer) → LoadedFrom buffer n o
read_enough buffer n o enough e =
    λ input read. e ∙ rw read.start (rest_changes_nothing input (length buffer) read.bytes enough)
