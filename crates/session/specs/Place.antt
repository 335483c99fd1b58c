-- The member at a place, as the code looks it up for rate and for gauge. No part of the three demands.
use Rattle.std.specs.Prelude.{ℕ, ◌-◌, ◌≡◌, Result, MatchResult}
use Rattle.member.specs.Format.{AllowedMember, AllowedVehicle}
use Rattle.member.specs.declared.record.Member.{Member}
use Rattle.files.specs.declared.Refusal.{Refusal}
use Rattle.rating.specs.Surveyed.{member_at}
use Rattle.session.specs.Calls.{members, rate_fault}
use Rattle.session.specs.Loaded.{Session}

-- the first of rate's tests that fails
abbrev pub fault_at : Session → (place : ℕ) → ℕ
fault_at s place = rate_fault s.survey.count s.vehicle.axles place

-- no test fails: the member and the vehicle are allowed
pub record FoundAt (s : Session) (place : ℕ) (m : Member) : Type 0 where
  pub clear : fault_at s place ≡ 0
  pub is : m ≡ member_at (members s) (place - 1)
  pub member : AllowedMember m
  pub vehicle : AllowedVehicle s.vehicle

-- a test fails
pub record NotFoundAt (s : Session) (place : ℕ) (r : Refusal) : Type 0 where
  pub fault : ¬ (fault_at s place ≡ 0)
  pub is : r ≡ record { number = fault_at s place; place = 0 }

abbrev pub MemberFound : Session → (place : ℕ) → Result Member Refusal → Type 0
MemberFound s place r = MatchResult r (FoundAt s place) (NotFoundAt s place)
