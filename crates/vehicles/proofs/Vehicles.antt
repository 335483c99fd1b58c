-- Reading a vehicle, beside what the document allows: a file is taken exactly when it is allowed, the vehicle then holds the
-- file's numbers, and a refusal has its number and its place.
use Rattle.std.specs.Prelude.{Result, Ok, Err}
use Prim.Native.Nat.{ℕ, zero, suc, ◌+◌, ◌-◌, ◌≤◌, ◌<◌}
use mathlib.Core.Path.{◌≡◌, refl, ap, sym, ◌∙◌}
use mathlib.Core.List.{List, [], ◌∷◌}
use mathlib.Core.Logic.{◌⊎◌, inl, inr, ⊎_elim, ◌↔◌}
use mathlib.Core.Bool.{Bool, true, false, ◌&&◌, and-false}
use native.Mathlib.Omega.{arith}
use lib.ListN.{length, get_or}
use borrow.Author.Tests.{lt-leb, ne_eqb}
use Rattle.section.specs.Units.{weight, distance}
use Rattle.member.specs.declared.record.Vehicle.{Vehicle}
use Rattle.member.specs.Format.{Range, ◌‥◌, In, class_range, track_range, later_range, AllowedVehicle}
use Rattle.files.specs.Reading.{◌unless◌, first_of, first_fault, taken, is_in}
use Rattle.files.specs.Header.{version_of, header_fault}
use Rattle.member.specs.Fields.{MOST_AXLES}
use Rattle.vehicles.specs.VehicleFile.{VEHICLE_HEADER, AXLE_FIELDS, WEIGHT, DISTANCE, axle_size, axles_of, class_of, track_of, weight_at, distance_at, weights_in, axle_range, vehicle_header, field_within, axle_within, axle_fault, axle_faults, vehicle_answer, blank_vehicle, vehicle_of, read_vehicle_of}
use Rattle.vehicles.specs.Allowed.{AllowedVehicleOf}
use Rattle.vehicles.specs.Refused.{FieldGood, VehicleHeaded, Fronted, FrontFault, wrong_header, wrong_class_or_track, FirstAxle, VehicleRefusalOf}
use Rattle.files.specs.declared.Refusal.{Refusal}
use Rattle.section.proofs.Table.{all_at}
use Rattle.files.proofs.Tests.{in_range, range_in, refuted, refutes, all_of, all_failing, all_fails, passed}
use Rattle.files.proofs.Each.{length_each, getD_each}
use Rattle.files.proofs.Faults.{refusal, reading_case, head_first, head_clear, fault_at, taken_none, none_taken, FaultAt, refused_at}
use Rattle.vehicles.specs.Padded.{Padded}
use Rattle.vehicles.proofs.Rows.{row_weight, row_distance, padded_rows}
use Rattle.vehicles.proofs.Axles.{weight_field, distance_field, lighter}
use Rattle.files.proofs.Headers.{headed, header_clear, header_named, header_is, header_number}

module _ (versions : Range) (bytes : List ℕ) where
  pub front_clear : Fronted versions bytes → vehicle_header versions bytes ≡ 0
  unfolding vehicle_header
  front_clear h =
      rw (header_clear 86 versions VEHICLE_HEADER MOST_AXLES (axle_size (version_of bytes)) bytes (omega arith) h.head, range_in class_range (class_of bytes) h.class, range_in track_range (track_of bytes) h.track)

  -- too short for a header
  pub short_front : length bytes < VEHICLE_HEADER → vehicle_header versions bytes ≡ 1
  unfolding vehicle_header header_fault
  short_front h = rw (lt-leb VEHICLE_HEADER (length bytes) h)

  -- the tests in their order: all hold, or the first that fails gives its number
  front_case : Fronted versions bytes ⊎ FrontFault versions bytes (vehicle_header versions bytes)
  unfolding vehicle_header
  front_case =
      go (header_fault 86 versions VEHICLE_HEADER MOST_AXLES (axle_size (version_of bytes)) bytes) refl (is_in class_range (class_of bytes)) (is_in track_range (track_of bytes)) (in_range _ _, range_in _ _) (in_range _ _, range_in _ _)
    where
      go : (n : ℕ) → header_fault 86 versions VEHICLE_HEADER MOST_AXLES (axle_size (version_of bytes)) bytes ≡ n → (a b : Bool) → (a ≡ true) ↔ In class_range (class_of bytes) → (b ≡ true) ↔ In track_range (track_of bytes) → Fronted versions bytes ⊎ FrontFault versions bytes (first_of (n ∷ 7 unless (a && b) ∷ []))
      go (suc n) e a b class track =
          inr (rw (ne_eqb (suc n) 0 (omega arith)) (wrong_header (header_named 86 versions VEHICLE_HEADER MOST_AXLES (axle_size (version_of bytes)) bytes (omega arith) (suc n) e (omega arith))))
      go zero e false b class track =
          inr (wrong_class_or_track (headed 86 versions VEHICLE_HEADER MOST_AXLES (axle_size (version_of bytes)) bytes (omega arith) e) (inl (refuted class)))
      go zero e true false class track =
          inr (wrong_class_or_track (headed 86 versions VEHICLE_HEADER MOST_AXLES (axle_size (version_of bytes)) bytes (omega arith) e) (inr (refuted track)))
      go zero e true true class track =
          inl (record { head = headed 86 versions VEHICLE_HEADER MOST_AXLES (axle_size (version_of bytes)) bytes (omega arith) e; class = class.0 refl; track = track.0 refl })

-- and the number of a test that fails is the front's
pub front_is : {versions : Range} {bytes : List ℕ} {n : ℕ} → FrontFault versions bytes n → vehicle_header versions bytes ≡ n
unfolding vehicle_header
front_is {versions} {bytes} (wrong_header {n} f) =
    rw (header_is 86 versions VEHICLE_HEADER MOST_AXLES (axle_size (version_of bytes)) bytes (omega arith) f, ne_eqb n 0 (omega (arith, header_number f)))
front_is {versions} {bytes} (wrong_class_or_track h (inl c)) =
    rw (header_clear 86 versions VEHICLE_HEADER MOST_AXLES (axle_size (version_of bytes)) bytes (omega arith) h, refutes (is_in class_range (class_of bytes)) (in_range _ _) c)
front_is {versions} {bytes} (wrong_class_or_track h (inr t)) =
    rw (header_clear 86 versions VEHICLE_HEADER MOST_AXLES (axle_size (version_of bytes)) bytes (omega arith) h, refutes (is_in track_range (track_of bytes)) (in_range _ _) t, and-false)

-- the header's faults are 1, 2 and 3, then 7 for class or track
pub front_number : {versions : Range} {bytes : List ℕ} {n : ℕ} → FrontFault versions bytes n → (In (1 ‥ 3) n) ⊎ (n ≡ 7)
front_number (wrong_header f) = inl (header_number f)
front_number (wrong_class_or_track h f) = inr refl

module _ (versions : Range) (bytes : List ℕ) where
  pub fronted : vehicle_header versions bytes ≡ 0 → Fronted versions bytes
  fronted e =
      ⊎_elim (λ h. h) (λ f. ⊎_elim (λ n. absurd (omega arith)) (λ n. absurd (omega arith)) (front_number f)) (front_case versions bytes)

  pub front_named : (n : ℕ) → vehicle_header versions bytes ≡ n → ¬ (n ≡ 0) → FrontFault versions bytes n
  front_named n e some =
      ⊎_elim (λ h. absurd (some (sym e ∙ front_clear versions bytes h))) (λ f. rw e at f) (front_case versions bytes)

-- what is read: the vehicle where the tests find nothing, else their refusal
pub read_ok : (versions : Range) (bytes : List ℕ) → vehicle_answer versions bytes ≡ Ok tt → ◌≡◌ {A = Result Vehicle Refusal} (Ok (vehicle_of bytes)) (taken (read_vehicle_of versions bytes).answer (read_vehicle_of versions bytes).vehicle)
unfolding read_vehicle_of
read_ok versions bytes e = rw e

pub read_err : (versions : Range) (bytes : List ℕ) (r : Refusal) → vehicle_answer versions bytes ≡ Err r → ◌≡◌ {A = Result Vehicle Refusal} (Err r) (taken (read_vehicle_of versions bytes).answer (read_vehicle_of versions bytes).vehicle)
unfolding read_vehicle_of
read_err versions bytes r e = rw e

-- an axle has no fault exactly where each of its fields is in its range
pub axle_ranges : (bytes : List ℕ) (i : ℕ) → axle_fault bytes i ≡ 0 → (f : ℕ) → f < AXLE_FIELDS → FieldGood bytes i f
unfolding axle_within field_within
axle_ranges bytes i e f h = in_range _ _ (all_at (field_within bytes i) AXLE_FIELDS (passed 7 (axle_within bytes i) (omega arith) e) f h)

pub axle_clear : (bytes : List ℕ) (i : ℕ) → ((f : ℕ) → f < AXLE_FIELDS → FieldGood bytes i f) → axle_fault bytes i ≡ 0
unfolding axle_within field_within
axle_clear bytes i h = rw (all_of (field_within bytes i) AXLE_FIELDS (λ f l. range_in _ _ (h f l)))

-- else its fault is 7, and one field is not
pub axle_named : (bytes : List ℕ) (i n : ℕ) → axle_fault bytes i ≡ n → ¬ (n ≡ 0) → (n ≡ 7) × ((f : ℕ) × (f < AXLE_FIELDS) × (¬ (FieldGood bytes i f)))
unfolding axle_within field_within
axle_named bytes i n e some = go (axle_within bytes i) refl e
  where
    go : (b : Bool) → axle_within bytes i ≡ b → 7 unless b ≡ n → (n ≡ 7) × ((f : ℕ) × (f < AXLE_FIELDS) × (¬ (FieldGood bytes i f)))
    go true t e = absurd (some (sym e))
    go false t e =
        let (f, h, out) = all_failing (field_within bytes i) AXLE_FIELDS t in
        (sym e, (f, h, λ inside. mathlib.Core.Bool.false≢true (sym out ∙ range_in _ _ inside)))

pub axle_is : (bytes : List ℕ) (i f : ℕ) → f < AXLE_FIELDS → ¬ (FieldGood bytes i f) → axle_fault bytes i ≡ 7
unfolding axle_within field_within
axle_is bytes i f h out =
    rw (all_fails (field_within bytes i) AXLE_FIELDS f h (refutes (field_within bytes i f) (in_range _ _) out))

module _ (bytes : List ℕ) where
  -- the vehicle's axles are the file's
  pub weight_is : (i : ℕ) → i < axles_of bytes → weight (vehicle_of bytes).weights i ≡ weight_at bytes i
  weight_is i l = row_weight (weight_at bytes) (axles_of bytes) i _ l

  pub distance_is : (i : ℕ) → i < axles_of bytes → distance (vehicle_of bytes).distances i ≡ distance_at bytes i
  distance_is i l = row_distance (distance_at bytes) (axles_of bytes) i _ l

  -- behind the axles the rows hold 0
  pub padded_file : Padded (vehicle_of bytes)
  padded_file = padded_rows (vehicle_of bytes) (weight_at bytes) (distance_at bytes) refl refl

  -- the ranges of an axle's two fields
  weight_range_lem : (i : ℕ) → axle_range (version_of bytes) i WEIGHT ≡ weights_in (version_of bytes)
  unfolding axle_range
  weight_range_lem i = refl

  first_range : axle_range (version_of bytes) 0 DISTANCE ≡ 0 ‥ 0
  unfolding axle_range
  first_range = refl

  later_range_lem : (i : ℕ) → 0 < i → axle_range (version_of bytes) i DISTANCE ≡ later_range
  unfolding axle_range
  later_range_lem i h = rw (ne_eqb i 0 (omega arith))

  -- the weights of the file by its axles' fields
  weights_within : ((i : ℕ) → i < axles_of bytes → axle_fault bytes i ≡ 0) → (i : ℕ) → i < axles_of bytes → In (weights_in (version_of bytes)) (weight_at bytes i)
  weights_within clear i l =
      rw (weight_range_lem i, weight_field bytes i) at (axle_ranges bytes i (clear i l) WEIGHT (omega arith))

  -- a vehicle is allowed exactly when header and axles have no fault
  clear_vehicle : {versions : Range} → Fronted versions bytes → ((i : ℕ) → i < axles_of bytes → axle_fault bytes i ≡ 0) → AllowedVehicle (vehicle_of bytes)
  clear_vehicle h clear =
      let inside : (i : ℕ) → i < axles_of bytes → (f : ℕ) → f < AXLE_FIELDS → FieldGood bytes i f = λ i l. axle_ranges bytes i (clear i l) in
      let count = h.head.count in
      record {
        class = h.class;
        track = h.track;
        axles = count;
        weights = λ i l. rw (weight_is i l) (lighter (version_of bytes) (weight_at bytes i) (weights_within clear i l));
        first = rw (distance_is 0 (omega arith)) (omega (arith, rw (first_range, distance_field bytes 0) at (inside 0 (omega arith) DISTANCE (omega arith))));
        distances = λ i z l. rw (distance_is i l) (rw (later_range_lem i z, distance_field bytes i) at (inside i l DISTANCE (omega arith)));
      }

  vehicle_clear : AllowedVehicle (vehicle_of bytes) → ((i : ℕ) → i < axles_of bytes → In (weights_in (version_of bytes)) (weight_at bytes i)) → (i : ℕ) → i < axles_of bytes → axle_fault bytes i ≡ 0
  vehicle_clear a w i l = axle_clear bytes i (inside i l)
    where
      inside : (i : ℕ) → i < axles_of bytes → (f : ℕ) → f < AXLE_FIELDS → FieldGood bytes i f
      inside i l zero h = rw (weight_range_lem i, weight_field bytes i) (w i l)
      inside zero l (suc zero) h = let first = rw (distance_is 0 l) at a.first in rw (first_range, distance_field bytes 0) (omega arith)
      inside (suc i) l (suc zero) h =
          rw (later_range_lem (suc i) (omega arith), distance_field bytes (suc i)) (rw (distance_is (suc i) l) at (a.distances (suc i) (omega arith) l))
      inside i l (suc (suc f)) h = absurd (omega arith)

module _ (versions : Range) (bytes : List ℕ) where
  -- a file is taken exactly when it is allowed
  clear : ((i : ℕ) → get_or (vehicle_header versions bytes ∷ axle_faults bytes (axles_of bytes)) i 0 ≡ 0) → (i : ℕ) → i < axles_of bytes → axle_fault bytes i ≡ 0
  clear none i l = sym (getD_each (axle_fault bytes) (axles_of bytes) i 0 l) ∙ none (suc i)

  pub taken_allowed : (read_vehicle_of versions bytes).answer ≡ (Ok tt) → AllowedVehicleOf versions bytes
  unfolding read_vehicle_of vehicle_answer
  taken_allowed e =
      let none = taken_none 0 (vehicle_header versions bytes ∷ axle_faults bytes (axles_of bytes)) e in
      let h = fronted versions bytes (none 0) in
      record {
        mark = h.head.marked.0;
        version = h.head.marked.1;
        size = h.head.sized;
        vehicle = clear_vehicle bytes h (clear none);
        weights = weights_within bytes (clear none);
      }

  pub allowed_taken : AllowedVehicleOf versions bytes → (read_vehicle_of versions bytes).answer ≡ (Ok tt)
  unfolding read_vehicle_of vehicle_answer
  allowed_taken a =
      let long : VEHICLE_HEADER ≤ length bytes = omega (arith, a.size) in
      let head : VehicleHeaded versions bytes = record { long = long; marked = (a.mark, a.version); count = a.vehicle.axles; sized = a.size } in
      let front = front_clear versions bytes (record { head = head; class = a.vehicle.class; track = a.vehicle.track }) in
      head_clear 0 _ (axle_faults bytes (axles_of bytes)) front ∙ none_taken 1 (axle_fault bytes) (axles_of bytes) (vehicle_clear bytes a.vehicle a.weights)

  -- a taken file's vehicle is the file's, axle by axle, and is allowed
  pub taken_vehicle : (read_vehicle_of versions bytes).answer ≡ (Ok tt) → (read_vehicle_of versions bytes).vehicle ≡ vehicle_of bytes
  unfolding read_vehicle_of
  taken_vehicle e = rw e

  pub taken_weight : (read_vehicle_of versions bytes).answer ≡ (Ok tt) → (i : ℕ) → i < axles_of bytes → weight (read_vehicle_of versions bytes).vehicle.weights i ≡ weight_at bytes i
  taken_weight e i l = rw (taken_vehicle e) (weight_is bytes i l)

  pub taken_distance : (read_vehicle_of versions bytes).answer ≡ (Ok tt) → (i : ℕ) → i < axles_of bytes → distance (read_vehicle_of versions bytes).vehicle.distances i ≡ distance_at bytes i
  taken_distance e i l = rw (taken_vehicle e) (distance_is bytes i l)

  pub taken_vehicle_allowed : (read_vehicle_of versions bytes).answer ≡ (Ok tt) → AllowedVehicle (read_vehicle_of versions bytes).vehicle
  taken_vehicle_allowed e = rw (taken_vehicle e) (taken_allowed e).vehicle

  -- a refused file gives a blank vehicle
  pub refused_blank : (r : Refusal) → (read_vehicle_of versions bytes).answer ≡ Err r → (read_vehicle_of versions bytes).vehicle ≡ blank_vehicle
  unfolding read_vehicle_of
  refused_blank r e = rw e

  -- whatever is answered, its rows hold 0 behind the axles
  pub padded_read : Padded (read_vehicle_of versions bytes).vehicle
  padded_read =
      reading_case (read_vehicle_of versions bytes).answer (λ a. Padded (read_vehicle_of versions bytes).vehicle) (λ e. rw (taken_vehicle e) (padded_file bytes))
      (λ r e. rw (refused_blank r e) (padded_rows blank_vehicle (λ i. 0) (λ i. 0) refl refl))

  -- a refusal is the first fault by place
  pub refused_first : (r : Refusal) → (read_vehicle_of versions bytes).answer ≡ Err r → FaultAt 0 (vehicle_header versions bytes ∷ axle_faults bytes (axles_of bytes)) r
  unfolding read_vehicle_of vehicle_answer
  refused_first r e = refused_at 0 (vehicle_header versions bytes ∷ axle_faults bytes (axles_of bytes)) r e

  refusal_at : (r : Refusal) (p : ℕ) → r.place ≡ p → FaultAt 0 (vehicle_header versions bytes ∷ axle_faults bytes (axles_of bytes)) r → VehicleRefusalOf versions bytes r
  refusal_at r zero e h =
      let same : r.place - 0 ≡ 0 = omega arith in
      let fault = front_named versions bytes r.number (rw same at h.number) h.fault in
      record {
        number = front_number fault;
        header = λ l. e;
        place = omega arith;
        front_fault = λ z. fault;
        axle_fault = λ l. absurd (omega arith);
      }
  refusal_at r (suc i) e h =
      let step : r.place - 0 ≡ suc i = omega arith in
      let within : i < axles_of bytes = omega (arith, h.below, length_each (axle_fault bytes) (axles_of bytes)) in
      let at : axle_fault bytes i ≡ r.number = sym (getD_each (axle_fault bytes) (axles_of bytes) i 0 within) ∙ (rw step at h.number) in
      let named = axle_named bytes i r.number at h.fault in
      let first : (k : ℕ) → k ≡ i → FirstAxle versions bytes k =
      λ k same.
      rw same
      (record {
        fronted = fronted versions bytes (h.first 0 (omega arith));
        within = within;
        fault = named.1;
        before = λ k f b. axle_ranges bytes k (sym (getD_each (axle_fault bytes) (axles_of bytes) k 0 (omega arith)) ∙ h.first (suc k) (omega arith)) f;
      }) in
      record {
        number = inr named.0;
        header = λ l. absurd (omega (arith, named.0));
        place = omega arith;
        front_fault = λ z. absurd (omega arith);
        axle_fault = λ l. (named.0, first _ (omega arith));
      }

  -- what it says of the file
  pub refused_named : (r : Refusal) → (read_vehicle_of versions bytes).answer ≡ Err r → VehicleRefusalOf versions bytes r
  refused_named r e = refusal_at r r.place refl (refused_first r e)

  -- and a file of which a refusal says so is refused by it
  pub named_refused : (r : Refusal) → VehicleRefusalOf versions bytes r → (read_vehicle_of versions bytes).answer ≡ Err r
  unfolding read_vehicle_of vehicle_answer
  named_refused r h = go r.place refl
    where
      go : (p : ℕ) → r.place ≡ p → first_fault 0 (vehicle_header versions bytes ∷ axle_faults bytes (axles_of bytes)) ≡ Err r
      go zero e =
          head_first 0 r.number (vehicle_header versions bytes) (axle_faults bytes (axles_of bytes)) (front_is (h.front_fault e)) (⊎_elim (λ n. omega arith) (λ n. omega arith) h.number) ∙ ap (refusal r.number) (sym e)
      go (suc i) e =
          let here : r.place - 1 ≡ i = omega arith in
          let axle = rw here at (h.axle_fault (omega arith)) in
          let first = axle.1 in
          let before = none_taken 1 (axle_fault bytes) i (λ k l. axle_clear bytes k (λ f h. first.before k f l h)) in
          let (f, within, out) = first.fault in
          let there : i + 1 ≡ r.place = omega arith in
          let seven : r.number ≡ 7 = axle.0 in
          head_clear 0 _ (axle_faults bytes (axles_of bytes)) (front_clear versions bytes first.fronted) ∙ fault_at (axle_fault bytes) 1 i (axles_of bytes) 7 first.within before (axle_is bytes i f within out) (omega arith) ∙ rw (there, ← seven)

  -- a vehicle file is allowed, or refused by its own refusal
  pub either_file : AllowedVehicleOf versions bytes ⊎ ((r : Refusal) × VehicleRefusalOf versions bytes r)
  either_file =
      reading_case (read_vehicle_of versions bytes).answer (λ a. AllowedVehicleOf versions bytes ⊎ ((r : Refusal) × VehicleRefusalOf versions bytes r)) (λ e. inl (taken_allowed e))
      (λ r e. inr (r, refused_named r e))

  -- whatever is answered, there are no more axles than a vehicle may have
  pub few_axles : (read_vehicle_of versions bytes).vehicle.axles ≤ MOST_AXLES
  few_axles =
      reading_case (read_vehicle_of versions bytes).answer (λ a. (read_vehicle_of versions bytes).vehicle.axles ≤ MOST_AXLES) (λ e. (taken_vehicle_allowed e).axles.1)
      (λ r e. rw (refused_blank r e) (omega arith))
