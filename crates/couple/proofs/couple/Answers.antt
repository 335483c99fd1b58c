-- `couple` meets its contract: the tests are the definition's row, and what is coupled is what was read.
-- Assumes nothing.
use Rattle.std.specs.Prelude.{Result, Ok, Err}
use Prim.Native.Nat.{ℕ, ◌≤◌}
use mathlib.Core.Path.{◌≡◌, sym, ◌∙◌}
use mathlib.Core.List.{List}
use mathlib.Core.Logic.{inl, inr}
use native.Mathlib.Omega.{arith}
use borrow.Author.Tests.{leb-true}
use Rattle.std.proofs.lemmas.Result.{err_from_is_err_and}
use Rattle.member.specs.Fields.{MOST_AXLES}
use Rattle.member.specs.declared.record.Vehicle.{Vehicle}
use Rattle.files.specs.declared.Refusal.{Refusal}
use Rattle.files.specs.Reading.{test, first_refusal, taken}
use Rattle.files.proofs.Faults.{taken_ok, taken_err, test_holds, both_taken, one_refused}
use Rattle.vehicles.specs.VehicleFile.{VEHICLE_VERSIONS, read_vehicle}
use Rattle.vehicles.proofs.Vehicles.{few_axles, padded_read}
use Rattle.couple.specs.Couple.{may_follow, few_enough, coupled_vehicle, couple_tests, couple}
use Rattle.couple.proofs.couple.Goals as goal
use Rattle.couple.proofs.couple.Goals.{In_ok-lorry, In_ok-trailer, In_ok-or_else}

-- what the tests find is answered
module _ (first second : List ℕ) (gap : ℕ) where
  found : (r : Refusal) → first_refusal (couple_tests first second gap) ≡ Err r → ◌≡◌ {A = Result Vehicle Refusal} (Err r) (taken (couple first second gap).answer (couple first second gap).vehicle)
  unfolding couple
  found r e = rw e

  clear : first_refusal (couple_tests first second gap) ≡ Ok tt → ◌≡◌ {A = Result Vehicle Refusal} (Ok (coupled_vehicle (read_vehicle first).vehicle (read_vehicle second).vehicle gap)) (taken (couple first second gap).answer (couple first second gap).vehicle)
  unfolding couple
  clear e = rw e

-- what was read
lorry : (c : In_ok-lorry) → ((read_vehicle c.args.first.now).answer ≡ Ok tt) × ((read_vehicle c.args.first.now).vehicle ≡ c.in_ok-lorry.lorry)
lorry c = taken_ok _ _ _ (sym c.read_vehicle.ensures ∙ c.in_ok-lorry.was)

trailer : (c : In_ok-trailer) → ((read_vehicle c.args.second.now).answer ≡ Ok tt) × ((read_vehicle c.args.second.now).vehicle ≡ c.in_ok-trailer.trailer)
trailer c = taken_ok _ _ _ (sym c.read_vehicle-2.ensures ∙ c.in_ok-trailer.was)

few_first : (c : In_ok-lorry) → c.in_ok-lorry.lorry.axles ≤ MOST_AXLES
few_first c = rw (lorry c).1 at (few_axles VEHICLE_VERSIONS c.args.first.now)

few_second : (c : In_ok-trailer) → c.in_ok-trailer.trailer.axles ≤ MOST_AXLES
few_second c = rw (trailer c).1 at (few_axles VEHICLE_VERSIONS c.args.second.now)

pub returns-in_err-lorry : goal.returns-in_err-lorry
returns-in_err-lorry c =
    let p = err_from_is_err_and c.from_residual.result c.from_residual.ensures.1 in
    let own = taken_err _ _ _ (sym c.read_vehicle.ensures ∙ c.in_err-lorry.was) in
    rw (p.1, p.2) (found _ _ _ _ (rw own))

pub returns-in_err-trailer : goal.returns-in_err-trailer
returns-in_err-trailer c =
    let p = err_from_is_err_and c.from_residual-in_err-trailer.result c.from_residual-in_err-trailer.ensures.1 in
    let own = taken_err _ _ _ (sym c.read_vehicle-2.ensures ∙ c.in_err-trailer.was) in
    rw (p.1, p.2) (found _ _ _ _ (rw ((lorry (goal.at.returns-in_err-trailer c).In_ok-lorry).0, own)))

pub overflow_add-few : goal.overflow_add-few
overflow_add-few c =
    let at = goal.at.overflow_add-few c in
    record { fits = omega (arith, few_first at.In_ok-lorry, few_second at.In_ok-trailer) }

-- the pair's two tests hold
both : (c : In_ok-or_else) → (test 7 (may_follow c.in_ok-lorry.lorry c.in_ok-trailer.trailer c.args.gap.0) ≡ Ok tt) × (test 3 (few_enough c.in_ok-lorry.lorry c.in_ok-trailer.trailer) ≡ Ok tt)
both c =
    let (a, b) = both_taken _ _ (sym c.or_else.ensures ∙ c.in_ok-or_else.was) in
    let seven : test 7 c.may_follow-alike.result ≡ Ok tt = sym c.unless.ensures ∙ a in
    (rw c.may_follow-alike.ensures at seven, sym c.unless-2.ensures ∙ b)

-- or the first of them that fails decides
pub returns-in_err-or_else : goal.returns-in_err-or_else
returns-in_err-or_else c =
    let at = goal.at.returns-in_err-or_else c in
    let p = err_from_is_err_and c.from_residual-in_err-or_else.result c.from_residual-in_err-or_else.ensures.1 in
    let (first, a) = lorry at.In_ok-lorry in
    let (second, b) = trailer at.In_ok-trailer in
    elim (one_refused _ _ _ (sym c.or_else.ensures ∙ c.in_err-or_else.was)) [
      | inl e ↦
          let seven : test 7 c.may_follow-alike.result ≡ Err _ = sym c.unless.ensures ∙ e in
          let differ = rw c.may_follow-alike.ensures at seven in
          rw (p.1, p.2) (found _ _ _ _ (rw (first, second, a, b, differ)))
      | inr (e, f) ↦
          let seven : test 7 c.may_follow-alike.result ≡ Ok tt = sym c.unless.ensures ∙ e in
          let alike = rw c.may_follow-alike.ensures at seven in
          let three = sym c.unless-2.ensures ∙ f in
          rw (p.1, p.2) (found _ _ _ _ (rw (first, second, a, b, alike, three)))
    ]

pub coupled-requires : goal.coupled-requires
coupled-requires c =
    let at = goal.at.coupled-requires c in
    (rw (lorry at.In_ok-lorry).1 at (padded_read VEHICLE_VERSIONS c.args.first.now), leb-true _ _ (test_holds 3 _ (both at.In_ok-or_else).1))

pub returns : goal.returns
returns c =
    let at = goal.at.returns c in
    let (first, a) = lorry at.In_ok-lorry in
    let (second, b) = trailer at.In_ok-trailer in
    let all = clear c.args.first.now c.args.second.now c.args.gap.0 (rw (first, second, a, b, (both at.In_ok-or_else).0, (both at.In_ok-or_else).1)) in
    rw (c.coupled.ensures, ← a, ← b) all
