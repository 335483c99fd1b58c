-- `read_vehicle_of` meets its contract: a fault of the header, class or track is the answer, else the axles' first fault is.
use mathlib.Core.Path.{◌≡◌, sym, ◌∙◌}
use native.Mathlib.Omega.{arith}
use Rattle.std.proofs.lemmas.Result.{err_from_is_err_and}
use Rattle.member.specs.Format.{◌‥◌}
use Rattle.files.proofs.Faults.{head_first, head_clear, some_fault, fault_clear, fault_found}
use Rattle.vehicles.specs.VehicleFile.{axles_of, axle_faults, vehicle_header, vehicle_answer}
use Rattle.vehicles.specs.Refused.{Fronted}
use Rattle.vehicles.proofs.Vehicles.{fronted, read_ok, read_err}
use Rattle.vehicles.proofs.file.read_vehicle_of.Goals as goal
use Rattle.vehicles.proofs.file.read_vehicle_of.Goals.{In_ok-vehicle_header, After-first_fault}

pub returns-in_err-vehicle_header : goal.returns-in_err-vehicle_header
unfolding vehicle_answer
returns-in_err-vehicle_header c =
    let p = err_from_is_err_and c.from_residual.result c.from_residual.ensures.1 in
    let b = c.args.bytes.now in
    let found = fault_found _ c.in_err-vehicle_header.was c.vehicle_header.ensures in
    rw (p.1, p.2) (read_err _ b _ (head_first 0 _ _ (axle_faults b (axles_of b)) found (some_fault _)))

-- where the front has no fault
clear : (c : In_ok-vehicle_header) → vehicle_header (c.args.versions.low ‥ c.args.versions.high) c.args.bytes.now ≡ 0
clear c = fault_clear c.in_ok-vehicle_header.was c.vehicle_header.ensures

front : (c : In_ok-vehicle_header) → Fronted (c.args.versions.low ‥ c.args.versions.high) c.args.bytes.now
front c = fronted _ c.args.bytes.now (clear c)

pub word_at-requires : goal.word_at-requires
word_at-requires c = omega (arith, (front (goal.at.word_at-requires c).In_ok-vehicle_header).head.long)

pub bounds-bytes-8 : goal.bounds-bytes-8
bounds-bytes-8 c = omega (arith, (front (goal.at.bounds-bytes-8 c).In_ok-vehicle_header).head.long)

-- as many axles as the header says lie within the file
pub invariant_of-axles : goal.invariant_of-axles
invariant_of-axles c =
    let h = (front (goal.at.invariant_of-axles c).In_ok-vehicle_header).head in
    let n = c.from.ensures in
    record { own = c.word_at.ensures; few = omega (arith, h.count, n); whole = rw n (omega (arith, h.sized)) }

-- the axles' first fault is the answer
answered : (c : After-first_fault) → c.first_fault.result ≡ vehicle_answer (c.args.versions.low ‥ c.args.versions.high) c.args.bytes.now
unfolding vehicle_answer
answered c =
    let b = c.args.bytes.now in
    (rw c.from.ensures at c.first_fault.ensures) ∙ sym (head_clear 0 _ (axle_faults b (axles_of b)) (fault_clear c.in_ok-vehicle_header.was c.vehicle_header.ensures))

pub returns-in_err-first_fault : goal.returns-in_err-first_fault
returns-in_err-first_fault c =
    let p = err_from_is_err_and c.from_residual-in_err-first_fault.result c.from_residual-in_err-first_fault.ensures.1 in
    rw (p.1, p.2) (read_err _ c.args.bytes.now _ (sym (answered (goal.at.returns-in_err-first_fault c).After-first_fault) ∙ c.in_err-first_fault.was))

pub returns : goal.returns
returns c = rw c.vehicle_of.ensures (read_ok _ c.args.bytes.now (sym (answered (goal.at.returns c).After-first_fault) ∙ c.in_ok-first_fault.was))
