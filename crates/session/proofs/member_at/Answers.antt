-- `member_at` meets its contract: where no test fails the survey has the place.
use native.Mathlib.Omega.{arith}
use mathlib.Core.Path.{◌≡◌, refl}
use Rattle.files.proofs.Faults.{fault_clear}
use Rattle.session.specs.Place.{fault_at}
use Rattle.session.proofs.State.{at_place, found_at}
use Rattle.session.proofs.member_at.Goals as goal
use Rattle.session.proofs.member_at.Goals.{In_ok-rate_fault}

clear : (c : In_ok-rate_fault) → fault_at (record { survey = c.session.inside.survey; vehicle = c.session.inside.vehicle }) c.args.place ≡ 0
clear c = fault_clear c.in_ok-rate_fault.was c.rate_fault.ensures

pub overflow_sub-result : goal.overflow_sub-result
overflow_sub-result c = (at_place _ _ c.session.invariant (clear (goal.at.overflow_sub-result c).In_ok-rate_fault)).first

pub offset_bounds-session-inside-place : goal.offset_bounds-session-inside-place
offset_bounds-session-inside-place c =
    omega (arith, (at_place _ _ c.session.invariant (clear (goal.at.offset_bounds-session-inside-place c).In_ok-rate_fault)).index)

pub bounds-session-inside-place : goal.bounds-session-inside-place
bounds-session-inside-place c = (at_place _ _ c.session.invariant (clear (goal.at.bounds-session-inside-place c).In_ok-rate_fault)).index

pub returns : goal.returns
returns c = rw (← c.session.view_is) (found_at _ _ c.session.invariant (clear (goal.at.returns c).In_ok-rate_fault) _ refl)
