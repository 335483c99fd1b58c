-- How a vehicle's rows of 16 are filled: its axles' numbers, and 0 behind them, as reading leaves them. So a vehicle is its numbers.
use Rattle.std.specs.Prelude.{◌-◌, ◌≡◌, ◌++◌, replicate}
use Rattle.section.specs.Units.{centimetres, kgf, weight, distance}
use Rattle.member.specs.Fields.{MOST_AXLES}
use Rattle.member.specs.declared.record.Vehicle.{Vehicle}
use Rattle.files.specs.Words.{each}

pub record Padded (v : Vehicle) : Type 0 where
  pub weights : v.weights ≡ each (λ i. kgf (weight v.weights i)) v.axles ++ replicate (MOST_AXLES - v.axles) (kgf 0)
  pub distances : v.distances ≡ each (λ i. centimetres (distance v.distances i)) v.axles ++ replicate (MOST_AXLES - v.axles) (centimetres 0)
