-- What `vehicle_load` asks of its caller, so that 64 bits hold all it computes. The documents allow bases of up to 5000 cm, 1 to 16 axles
-- of up to 200,000 kgf, 2000 cm apart at most.
use Rattle.std.specs.Prelude.{ℕ, ◌≤◌, ◌<◌, List}
use Rattle.section.specs.declared.Cm.{Cm}
use Rattle.section.specs.declared.Kgf.{Kgf}
use Rattle.section.specs.Units.{weight, distance}
use Rattle.influence.specs.Influence.{Triangle}

pub record Bounded (U P n : ℕ) (ws : List Kgf) (ds : List Cm) : Type 0 where
  pub triangle : Triangle U P
  pub base : U ≤ 10000
  pub axles : n ≤ 16
  pub weights : (i : ℕ) → i < n → weight ws i ≤ 200000
  pub distances : (i : ℕ) → i < n → distance ds i ≤ 2000
