-- `vehicle_header` meets its contract: a file too short for its header is refused for that; else the header's fault is the callee's, then class and
-- track are tested.
use mathlib.Core.Path.{◌≡◌, sym, ◌∙◌}
use mathlib.Core.Bool.{◌&&◌}
use borrow.Author.Tests.{ne_eqb}
use Rattle.std.proofs.lemmas.Result.{err_from_is_err_and}
use Rattle.member.specs.Fields.{MOST_AXLES}
use Rattle.member.specs.Format.{◌‥◌, class_range, track_range}
use Rattle.files.specs.Header.{version_of, header_fault}
use Rattle.files.specs.Reading.{is_in}
use Rattle.files.proofs.Faults.{some_fault, fault_clear, fault_found}
use Rattle.vehicles.specs.VehicleFile.{VEHICLE_HEADER, axle_size, class_of, track_of, vehicle_header}
use Rattle.vehicles.proofs.Vehicles.{short_front}
use Rattle.vehicles.proofs.file.vehicle_header.Goals as goal
use Rattle.vehicles.proofs.file.vehicle_header.Goals.{In_ok-header_fault, After-contains-track}

pub returns-then-bytes-lt-HEADER : goal.returns-then-bytes-lt-HEADER
returns-then-bytes-lt-HEADER c = sym (short_front _ c.args.bytes.now c.if-bytes-lt-HEADER.true)

pub returns-in_err-header_fault : goal.returns-in_err-header_fault
unfolding vehicle_header
returns-in_err-header_fault c =
    let p = err_from_is_err_and c.from_residual.result c.from_residual.ensures.1 in
    let found = rw (c.axle_size-size.ensures.is, c.word_at.ensures) at (fault_found c.in_err-header_fault.field-0.0 c.in_err-header_fault.was c.header_fault.ensures) in
    rw (p.1, p.2, found, ne_eqb _ 0 (some_fault c.in_err-header_fault.field-0.0))

-- the header has no fault, by the file's own version
clear : (c : In_ok-header_fault) → let b = c.args.bytes.now in header_fault 86 (c.args.versions.low ‥ c.args.versions.high) VEHICLE_HEADER MOST_AXLES (axle_size (version_of b)) b ≡ 0
clear c = rw (c.axle_size-size.ensures.is, c.word_at.ensures) at (fault_clear c.in_ok-header_fault.was c.header_fault.ensures)

-- both tests, said of the file's numbers
tested : (c : After-contains-track) → let b = c.args.bytes.now in (c.contains-class.result && c.contains-track.result) ≡ (is_in class_range (class_of b) && is_in track_range (track_of b))
tested c = rw (c.contains-class.ensures, c.contains-track.ensures, c.from.ensures, c.from-2.ensures, c.word_at-2.ensures)

pub returns-then-not-class-track : goal.returns-then-not-class-track
unfolding vehicle_header
returns-then-not-class-track c =
    let at = goal.at.returns-then-not-class-track c in
    rw (clear at.In_ok-header_fault, sym (tested at.After-contains-track) ∙ c.if-not-class-track.true)

pub returns : goal.returns
unfolding vehicle_header
returns c =
    let at = goal.at.returns c in
    rw (clear at.In_ok-header_fault, sym (tested at.After-contains-track) ∙ c.if-not-class-track.false)
