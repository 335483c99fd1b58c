-- The vehicle that two vehicles of equal class and track give: its axles in plain words, and that it is what a vehicle may be.
-- Assumes nothing.
use Prim.Native.Nat.{ℕ, zero, suc, ◌+◌, ◌-◌, ◌≤◌, ◌<◌}
use mathlib.Core.Path.{◌≡◌, refl, subst, ◌∙◌}
use native.Mathlib.Decide.{dec_lt}
use native.Mathlib.Nat.{add-zero}
use native.Mathlib.Omega.{arith}
use borrow.Author.Tests.{ne_eqb}
use Rattle.section.specs.Units.{weight, distance}
use Rattle.member.specs.Fields.{MOST_AXLES}
use Rattle.member.specs.Format.{In, weight_range, later_range, AllowedVehicle}
use Rattle.member.specs.declared.record.Vehicle.{Vehicle}
use Rattle.vehicles.specs.Padded.{Padded}
use Rattle.vehicles.proofs.Rows.{row_weight, row_distance, padded_rows}
use Rattle.couple.specs.Claims.{Couples}
use Rattle.couple.specs.Couple.{gap_range, coupled_axles, coupled_weight, coupled_distance, coupled_vehicle}
use Rattle.couple.proofs.Axles.{weight_ahead, distance_ahead, weight_after, distance_after}

module _ (first second : Vehicle) (gap : ℕ) where
  abbrev coupled : Vehicle
  coupled = coupled_vehicle first second gap

  weight_is : (i : ℕ) → i < coupled_axles first second → weight coupled.weights i ≡ coupled_weight first second i
  weight_is i l = row_weight (coupled_weight first second) (coupled_axles first second) i _ l

  distance_is : (i : ℕ) → i < coupled_axles first second → distance coupled.distances i ≡ coupled_distance first second gap i
  distance_is i l = row_distance (coupled_distance first second gap) (coupled_axles first second) i _ l

  pub padded_coupled : Padded coupled
  padded_coupled = padded_rows coupled (coupled_weight first second) (coupled_distance first second gap) refl refl

  -- an axle is one of the first's, or behind those one of the second's
  each_axle : (P : ℕ → Type 0) → ((i : ℕ) → i < first.axles → P i) → ((j : ℕ) → j < second.axles → P (first.axles + j)) →
      (i : ℕ) → i < coupled_axles first second → P i
  each_axle P ahead behind i l =
      elim (dec_lt i first.axles) [
        | yes h ↦ ahead i h
        | no h ↦ subst P (omega arith) (behind (i - first.axles) (omega arith))
      ]

  module _ (a : AllowedVehicle first) (b : AllowedVehicle second) (class : first.class ≡ second.class) (track : first.track.0 ≡ second.track.0) where
    pub couples : Couples first second gap coupled
    couples =
        record {
          class = (refl, class);
          track = (refl, rw track);
          axles = refl;
          weight_ahead = λ i l. weight_is i (omega arith) ∙ weight_ahead first second i l;
          distance_ahead = λ i l. distance_is i (omega arith) ∙ distance_ahead first second gap i l;
          weight_behind = λ j l. weight_is (first.axles + j) (omega arith) ∙ weight_after first second j;
          gap_between = distance_is first.axles (omega (arith, b.axles)) ∙ rw (add-zero first.axles) at (distance_after first second gap 0);
          distance_behind = λ j z l. distance_is (first.axles + j) (omega arith) ∙ distance_after first second gap j ∙ rw (ne_eqb j 0 (omega arith));
        }

    pub coupled_allowed : In gap_range gap → first.axles + second.axles ≤ MOST_AXLES → AllowedVehicle coupled
    coupled_allowed g few =
        let c = couples in
        record {
          class = a.class;
          track = a.track;
          axles = (omega (arith, a.axles), few);
          weights = each_axle (λ i. In weight_range (weight coupled.weights i)) (λ i l. rw (c.weight_ahead i l) (a.weights i l)) (λ j l. rw (c.weight_behind j l) (b.weights j l));
          first = c.distance_ahead 0 (omega (arith, a.axles)) ∙ a.first;
          distances = λ i z l. each_axle (λ i. 0 < i → In later_range (distance coupled.distances i)) (λ i l z. rw (c.distance_ahead i l) (a.distances i z l)) (λ j l z. behind j l) i l z;
        }
      where
        behind : (j : ℕ) → j < second.axles → In later_range (distance coupled.distances (first.axles + j))
        behind zero l = rw (add-zero first.axles, couples.gap_between) (omega (arith, g.0), omega (arith, g.1))
        behind (suc j) l = rw (couples.distance_behind (suc j) (omega arith) l) (b.distances (suc j) (omega arith) l)
