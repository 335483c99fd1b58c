-- What the coupled vehicle is, in plain words. Document 02, request 13/13: "the second's axles behind the first's with one stated gap".
use Rattle.std.specs.Prelude.{ℕ, ◌+◌, ◌<◌, ◌≡◌}
use Rattle.section.specs.Units.{weight, distance}
use Rattle.member.specs.declared.record.Vehicle.{Vehicle}

pub record Couples (first second : Vehicle) (gap : ℕ) (v : Vehicle) : Type 0 where
  -- "of equal class and track"
  pub class : (v.class ≡ first.class) × (v.class ≡ second.class)
  pub track : (v.track ≡ first.track) × (v.track ≡ second.track)
  pub axles : v.axles ≡ first.axles + second.axles
  -- the first's axles, as they are
  pub weight_ahead : (i : ℕ) → i < first.axles → weight v.weights i ≡ weight first.weights i
  pub distance_ahead : (i : ℕ) → i < first.axles → distance v.distances i ≡ distance first.distances i
  -- behind them the second's: its first stands the gap behind the first's last, the others behind that as they are
  pub weight_behind : (j : ℕ) → j < second.axles → weight v.weights (first.axles + j) ≡ weight second.weights j
  pub gap_between : distance v.distances first.axles ≡ gap
  pub distance_behind : (j : ℕ) → 0 < j → j < second.axles → distance v.distances (first.axles + j) ≡ distance second.distances j
