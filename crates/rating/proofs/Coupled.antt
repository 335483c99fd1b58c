-- Two vehicles coupled: the load on a member is at most the sum of their loads and at least each of them, and what one of them is refused alone the
-- two are refused coupled.
-- Assumes nothing.
use Prim.Native.Nat.{◌+◌, ◌≤◌}
use mathlib.Core.Path.{◌≡◌}
use mathlib.Core.Bool.{true}
use mathlib.Core.List.{List}
use native.Mathlib.Omega.{arith}
use Rattle.influence.proofs.Coupled.{Coupled, coupled_at_most, at_least_first, at_least_second}
use Rattle.member.specs.Format.{AllowedMember}
use Rattle.member.specs.declared.record.Member.{Member}
use Rattle.member.specs.declared.record.Vehicle.{Vehicle}
use Rattle.rating.specs.Judgement.{permitted_for, passes, rating_of, judgement_of}
use Rattle.rating.specs.Surveyed.{AllowedMembers, member_at}
use Rattle.rating.specs.VehicleLoad.{vehicle_load_on}
use Rattle.rating.specs.declared.judging.Verdict.TheVariants.{Refuse}
use Rattle.rating.proofs.Judged.{stays_refused, passes_with_less, all_stay_refused}
use Rattle.rating.proofs.Lines.{line_sized}

module _ (first second v : Vehicle) (axles : v.axles ≡ first.axles + second.axles) (c : Coupled first.weights first.distances first.axles second.weights second.distances second.axles v.weights v.distances) {m : Member} (a : AllowedMember m) where
  pub load_at_most_sum : vehicle_load_on m v ≤ vehicle_load_on m first + vehicle_load_on m second
  unfolding vehicle_load_on
  load_at_most_sum = rw axles (coupled_at_most c (line_sized a).triangle)

  pub load_at_least_first : vehicle_load_on m first ≤ vehicle_load_on m v
  unfolding vehicle_load_on
  load_at_least_first = rw axles (at_least_first c (line_sized a).triangle)

  pub load_at_least_second : vehicle_load_on m second ≤ vehicle_load_on m v
  unfolding vehicle_load_on
  load_at_least_second = rw axles (at_least_second c (line_sized a).triangle)

-- of two vehicles of the same class and track
module _ (v v' : Vehicle) (class : v'.class ≡ v.class) (track : v'.track ≡ v.track) where
  pub permitted_same : (m : Member) → permitted_for v' m ≡ permitted_for v m
  permitted_same m = rw (class, track)

  pub figure_same : (ms : List Member) → (judgement_of ms v').figure.0 ≡ (judgement_of ms v).figure.0
  unfolding judgement_of
  figure_same ms = rw (class, track)

  -- where the second loads every member as much or more
  module _ (more : (m : Member) → AllowedMember m → vehicle_load_on m v ≤ vehicle_load_on m v') where
    passed_alone : (m : Member) → AllowedMember m → passes v' m ≡ true → passes v m ≡ true
    passed_alone m a = passes_with_less v v' m m (more m a) (omega (arith, permitted_same m))

    pub member_refused : (m : Member) → AllowedMember m → (rating_of m v).verdict ≡ Refuse → (rating_of m v').verdict ≡ Refuse
    unfolding rating_of
    member_refused m a = stays_refused (passes v m) (passes v' m) (passed_alone m a)

    pub bridge_refused : (ms : List Member) → AllowedMembers ms → (judgement_of ms v).verdict ≡ Refuse → (judgement_of ms v').verdict ≡ Refuse
    bridge_refused ms a = all_stay_refused v v' ms ms (λ i. i) (λ i l. l) (λ i l. passed_alone (member_at ms i) (a i l))
