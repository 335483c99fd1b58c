-- What a call answers, in the documents' numbers.
use Rattle.std.specs.Prelude.{ℕ, List, Float, ℤ}
use Rattle.files.specs.declared.Refusal.{Refusal}

-- The values of a call that succeeds, with a margin or a deflection where the answer has one, or a number of the list of refusals with its place.
-- "A refusal carries its number and place, nothing else." Document 02, request 6/13: "each answer record gains that signed margin"; request
-- 11/13: "within or over, each carrying the deflection", an f32
pub data Answer : Type 0 where
  Values : List ℕ → Answer
  WithMargin : List ℕ → (margin : ℤ) → Answer
  WithDeflection : List ℕ → (deflection : Float) → Answer
  RefusedAt : (number place : ℕ) → Answer

abbrev pub refused_by : Refusal → Answer
refused_by r = RefusedAt r.number r.place
