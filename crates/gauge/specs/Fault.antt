-- Why readings are refused, in plain words beside the ordered tests of `Gauge`.
use Rattle.std.specs.Prelude.{ℕ, ◌+◌, ◌<◌, Float, get_or}
use Rattle.std.specs.Float.{nan}
use Rattle.section.specs.Fraction.{◌⊑◌, ◌⊏◌}
use Rattle.gauge.specs.Gauge.{in_order}
use Rattle.gauge.specs.Value.{value_of, IsReading}
use Rattle.gauge.specs.declared.Readings.{Readings}

-- the reading of index i, from 0
abbrev pub reading_at : Readings → (i : ℕ) → Float
reading_at r i = get_or (in_order r) i nan

-- no reading is bad
abbrev pub AllReadings : Readings → Type 0
AllReadings r = (i : ℕ) → i < 3 → IsReading (reading_at r i)

-- "20: a reading not of that sort, or after above loaded": that test fails, and those before it hold
pub data ReadingFault (r : Readings) : (number place : ℕ) → Type 0 where
  -- "place 1 to 3 of the first bad reading"
  bad_reading : (i : ℕ) → i < 3 → ((k : ℕ) → k < i → IsReading (reading_at r k)) → ¬ (IsReading (reading_at r i)) → ReadingFault r 20 (i + 1)
  -- "0 for the second cause, tested where no reading is bad"
  after_above : AllReadings r → value_of r.loaded ⊏ value_of r.after → ReadingFault r 20 0

-- no test fails
pub record MayBeGauged (r : Readings) : Type 0 where
  pub readings : AllReadings r
  pub order : value_of r.after ⊑ value_of r.loaded
