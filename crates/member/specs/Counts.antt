-- How many members a survey may have. Document 02, request 12/13: "Raise the survey's limit from 64 to 255. The count byte holds it".
use Rattle.std.specs.Prelude.{ℕ, ◌<◌, ◌↔◌}
use Rattle.member.specs.Fields.{MOST_MEMBERS}
use Rattle.member.specs.Format.{In, ◌‥◌}

-- what a byte holds, but for 0, are the counts from 1 to the limit
abbrev pub CountByteHolds : Type 0
CountByteHolds = (count : ℕ) → In (1 ‥ MOST_MEMBERS) count ↔ ((0 < count) × (count < 256))
