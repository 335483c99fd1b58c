-- The sizes of which a net section is computed: document 01's limits of the fields.
use Rattle.std.specs.Prelude.{◌≤◌}
use Rattle.section.specs.declared.log.Log.{Log}
use Rattle.section.specs.declared.sawn.Sawn.{Sawn}

abbrev pub LogSizes : Log → Type 0
LogSizes s = (s.diameter.0 ≤ 39) × (s.rot.0 ≤ 60) × (1 ≤ s.tiers) × (s.tiers ≤ 3)

abbrev pub SawnSizes : Sawn → Type 0
SawnSizes s = (s.width.0 ≤ 60) × (s.height.0 ≤ 60) × (s.pieces ≤ 40)
