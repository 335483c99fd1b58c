-- `convert` meets its contract: the tests come to the definition's, and the bytes of what was read are those of the file's vehicle.
-- Assumes nothing.
use Rattle.std.specs.Prelude.{Ok, Err}
use Prim.Native.Nat.{ℕ, ◌+◌, ◌*◌, ◌≤◌}
use mathlib.Core.Path.{◌≡◌, sym, ◌∙◌}
use native.Mathlib.Omega.{arith}
use lib.ListN.{length, length-take}
use borrow.Author.Tests.{leb-true}
use Rattle.std.proofs.lemmas.Result.{err_from_is_err_and}
use Rattle.section.proofs.Products.{product_cap, product_fits}
use Rattle.member.specs.Fields.{MOST_AXLES}
use lib.Dec.{leb}
use Rattle.files.specs.Reading.{test, first_refusal}
use Rattle.files.proofs.Faults.{taken_ok, taken_err, test_holds}
use Rattle.vehicles.specs.VehicleFile.{VEHICLE_HEADER, LONGEST_AXLE, vehicle_of, read_vehicle_of}
use Rattle.vehicles.proofs.Vehicles.{few_axles, taken_vehicle}
use Rattle.convert.specs.Convert.{wanted_version, given_version, only, heavy_answer, output, convert_tests}
use Rattle.convert.proofs.Files.{length_vehicle}
use Rattle.convert.proofs.Converting.{Passed, taken_is, refused_is, taken_out, refused_out}
use Rattle.convert.proofs.convert.Goals as goal
use Rattle.convert.proofs.convert.Goals.{In_err-v, In_ok-v, In_err-heavy_answer, In_ok-heavy_answer, After-axle_size, In_err-unless, In_ok-unless, After-vehicle_bytes-bytes}

-- the file is read, as its own vehicle
read : (c : In_ok-v) → let r = read_vehicle_of (only (given_version c.args.wanted)) c.args.file.now in (r.answer ≡ Ok tt) × (r.vehicle ≡ c.in_ok-v.v)
read c = taken_ok _ _ _ (sym c.read_given.ensures ∙ c.in_ok-v.was)

own : (c : In_ok-v) → vehicle_of c.args.file.now ≡ c.in_ok-v.v
own c = sym (taken_vehicle _ _ (read c).0) ∙ (read c).1

few : (c : In_ok-v) → c.in_ok-v.v.axles ≤ MOST_AXLES
few c = rw (read c).1 at (few_axles (only (given_version c.args.wanted)) c.args.file.now)

-- no weight is too great
light : (c : In_ok-heavy_answer) → heavy_answer c.args.wanted c.in_ok-v.v ≡ Ok tt
light c = sym c.heavy_answer.ensures ∙ c.in_ok-heavy_answer.was

-- as many bytes as the vehicle's file
sized : (c : After-axle_size) → vehicle_of c.args.file.now ≡ c.in_ok-v.v → VEHICLE_HEADER + c.axle_size.result * c.in_ok-v.v.axles ≡ length (output c.args.wanted c.args.file.now)
sized c same =
    rw (c.axle_size.ensures.is, c.wanted_version-version.ensures, ← same) (sym (length_vehicle (wanted_version c.args.wanted) (vehicle_of c.args.file.now)))

-- the refusal is the first test's that fails
unread : (c : In_err-v) → first_refusal (convert_tests c.args.wanted c.args.file.now (length c.args.out.now)) ≡ Err c.in_err-v.field-0.0
unread c = rw (taken_err _ _ _ (sym c.read_given.ensures ∙ c.in_err-v.was))

pub returns-in_err-v-clause-is : goal.returns-in_err-v-clause-is
returns-in_err-v-clause-is c =
    let p = err_from_is_err_and c.from_residual.result c.from_residual.ensures.1 in
    rw (p.1, p.2) (refused_is c.args.wanted c.args.file.now (length c.args.out.now) _ (unread (goal.at.returns-in_err-v-clause-is c).In_err-v))

pub returns-in_err-v-clause-out : goal.returns-in_err-v-clause-out
returns-in_err-v-clause-out c = refused_out _ _ _ _ (unread (goal.at.returns-in_err-v-clause-out c).In_err-v)

pub heavy_answer-requires : goal.heavy_answer-requires
heavy_answer-requires c = few (goal.at.heavy_answer-requires c).In_ok-v

heavy : (c : In_err-heavy_answer) → (read_vehicle_of (only (given_version c.args.wanted)) c.args.file.now).answer ≡ Ok tt → vehicle_of c.args.file.now ≡ c.in_ok-v.v →
    first_refusal (convert_tests c.args.wanted c.args.file.now (length c.args.out.now)) ≡ Err c.in_err-heavy_answer.field-0.0
heavy c taken same =
    let found = sym c.heavy_answer.ensures ∙ c.in_err-heavy_answer.was in
    rw (taken, same, found)

pub returns-in_err-heavy_answer-clause-is : goal.returns-in_err-heavy_answer-clause-is
returns-in_err-heavy_answer-clause-is c =
    let at = goal.at.returns-in_err-heavy_answer-clause-is c in
    let p = err_from_is_err_and c.from_residual-in_err-heavy_answer.result c.from_residual-in_err-heavy_answer.ensures.1 in
    rw (p.1, p.2) (refused_is c.args.wanted c.args.file.now (length c.args.out.now) _ (heavy at.In_err-heavy_answer (read at.In_ok-v).0 (own at.In_ok-v)))

pub returns-in_err-heavy_answer-clause-out : goal.returns-in_err-heavy_answer-clause-out
returns-in_err-heavy_answer-clause-out c =
    let at = goal.at.returns-in_err-heavy_answer-clause-out c in
    refused_out _ _ _ _ (heavy at.In_err-heavy_answer (read at.In_ok-v).0 (own at.In_ok-v))

pub overflow_mul-length : goal.overflow_mul-length
overflow_mul-length c = product_fits LONGEST_AXLE MOST_AXLES tt c.axle_size.ensures.cap (few (goal.at.overflow_mul-length c).In_ok-v)

pub overflow_add-length : goal.overflow_add-length
overflow_add-length c = record { fits = omega (arith, product_cap LONGEST_AXLE MOST_AXLES c.axle_size.ensures.cap (few (goal.at.overflow_add-length c).In_ok-v)) }

short : (c : In_err-unless) → (read_vehicle_of (only (given_version c.args.wanted)) c.args.file.now).answer ≡ Ok tt → vehicle_of c.args.file.now ≡ c.in_ok-v.v → heavy_answer c.args.wanted c.in_ok-v.v ≡ Ok tt →
    VEHICLE_HEADER + c.axle_size.result * c.in_ok-v.v.axles ≡ length (output c.args.wanted c.args.file.now) →
    first_refusal (convert_tests c.args.wanted c.args.file.now (length c.args.out.now)) ≡ Err c.in_err-unless.field-0.0
short c taken same weights size =
    let fourteen : test 14 (leb (VEHICLE_HEADER + c.axle_size.result * c.in_ok-v.v.axles) (length c.args.out.now)) ≡ Err c.in_err-unless.field-0.0 = sym c.unless.ensures ∙ c.in_err-unless.was in
    let found = rw size at fourteen in
    let fit : heavy_answer c.args.wanted (vehicle_of c.args.file.now) ≡ Ok tt = rw same weights in
    rw (taken, fit, found)

pub returns-in_err-unless-clause-is : goal.returns-in_err-unless-clause-is
returns-in_err-unless-clause-is c =
    let at = goal.at.returns-in_err-unless-clause-is c in
    let p = err_from_is_err_and c.from_residual-in_err-unless.result c.from_residual-in_err-unless.ensures.1 in
    let same = own at.In_ok-v in
    rw (p.1, p.2) (refused_is c.args.wanted c.args.file.now (length c.args.out.now) _ (short at.In_err-unless (read at.In_ok-v).0 same (light at.In_ok-heavy_answer) (sized at.After-axle_size same)))

pub returns-in_err-unless-clause-out : goal.returns-in_err-unless-clause-out
returns-in_err-unless-clause-out c =
    let at = goal.at.returns-in_err-unless-clause-out c in
    let same = own at.In_ok-v in
    refused_out _ _ _ _ (short at.In_err-unless (read at.In_ok-v).0 same (light at.In_ok-heavy_answer) (sized at.After-axle_size same))

pub vehicle_bytes-bytes-requires : goal.vehicle_bytes-bytes-requires
vehicle_bytes-bytes-requires c = few (goal.at.vehicle_bytes-bytes-requires c).In_ok-v

-- the output and the array have room for the bytes
fits : (c : In_ok-unless) → VEHICLE_HEADER + c.axle_size.result * c.in_ok-v.v.axles ≤ length c.args.out.now
fits c =
    let enough : test 14 (leb (VEHICLE_HEADER + c.axle_size.result * c.in_ok-v.v.axles) (length c.args.out.now)) ≡ Ok tt = sym c.unless.ensures ∙ c.in_ok-unless.was in
    leb-true _ _ (test_holds 14 _ enough)

holds : (c : After-vehicle_bytes-bytes) → c.in_ok-v.v.axles ≤ MOST_AXLES → VEHICLE_HEADER + c.axle_size.result * c.in_ok-v.v.axles ≤ length c.vehicle_bytes-bytes.result
holds c few = omega (arith, product_cap LONGEST_AXLE MOST_AXLES c.axle_size.ensures.cap few, c.vehicle_bytes-bytes.type_inv)

pub slice_bounds-bytes-end : goal.slice_bounds-bytes-end
slice_bounds-bytes-end c = let at = goal.at.slice_bounds-bytes-end c in holds at.After-vehicle_bytes-bytes (few at.In_ok-v)

pub slice_bounds-copy_from_slice-end-3 : goal.slice_bounds-copy_from_slice-end-3
slice_bounds-copy_from_slice-end-3 c =
    let at = goal.at.slice_bounds-copy_from_slice-end-3 c in
    omega (arith, holds at.After-vehicle_bytes-bytes (few at.In_ok-v), length-take (VEHICLE_HEADER + c.axle_size.result * c.in_ok-v.v.axles) c.vehicle_bytes-bytes.result)

pub copy_from_slice-requires : goal.copy_from_slice-requires
copy_from_slice-requires c =
    let at = goal.at.copy_from_slice-requires c in
    let n : ℕ = VEHICLE_HEADER + c.axle_size.result * c.in_ok-v.v.axles in
    omega (arith, holds at.After-vehicle_bytes-bytes (few at.In_ok-v), fits at.In_ok-unless, length-take n c.vehicle_bytes-bytes.result, length-take n c.args.out.now)

-- every test holds
passed : (c : In_ok-unless) → (read_vehicle_of (only (given_version c.args.wanted)) c.args.file.now).answer ≡ Ok tt → vehicle_of c.args.file.now ≡ c.in_ok-v.v → heavy_answer c.args.wanted c.in_ok-v.v ≡ Ok tt →
    VEHICLE_HEADER + c.axle_size.result * c.in_ok-v.v.axles ≡ length (output c.args.wanted c.args.file.now) → Passed c.args.wanted c.args.file.now (length c.args.out.now)
passed c taken same weights size = record { taken = taken; light = rw same weights; room_enough = rw size at (fits c) }

pub returns-clause-is : goal.returns-clause-is
returns-clause-is c =
    let at = goal.at.returns-clause-is c in
    let same = own at.In_ok-v in
    let size = sized at.After-axle_size same in
    rw size (taken_is _ _ _ (passed at.In_ok-unless (read at.In_ok-v).0 same (light at.In_ok-heavy_answer) size))

pub returns-clause-out : goal.returns-clause-out
returns-clause-out c =
    let at = goal.at.returns-clause-out c in
    let same = own at.In_ok-v in
    let size = sized at.After-axle_size same in
    let bytes = rw (c.wanted_version-version.ensures, ← same) at c.vehicle_bytes-bytes.ensures in
    rw (c.copy_from_slice.ensures.after, size, bytes) (taken_out _ _ _ (passed at.In_ok-unless (read at.In_ok-v).0 same (light at.In_ok-heavy_answer) size))
