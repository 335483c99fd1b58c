-- The count byte holds the limit of a survey.
-- Assumes nothing.
use native.Mathlib.Omega.{arith}
use Rattle.member.specs.Counts.{CountByteHolds}

pub count_byte_holds : CountByteHolds
count_byte_holds count = (λ within. omega (arith, within), λ held. omega (arith, held))
