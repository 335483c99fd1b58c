-- The call that couples two vehicles. Document 02, request 13/13: "Lorry and trailer coupled." What is coupled or refused is that of
-- couple/specs/Couple.antt.
use Rattle.std.specs.Prelude.{ℕ, List}
use Rattle.couple.specs.Couple.{couple as coupleFiles}
use Rattle.session.specs.Answers.{Outcome}
use Rattle.session.specs.Calls.{stored_vehicle}
use Rattle.session.specs.Loaded.{Session}

-- "and load the result": it replaces the vehicle, as one that is loaded from a file does
unfoldable pub couple : Session → (first second : List ℕ) (gap : ℕ) → Outcome
couple s first second gap = stored_vehicle s (coupleFiles first second gap).answer (coupleFiles first second gap).vehicle
