-- The members of an allowed survey: as many as it says, and all allowed. An allowed record has a kind, so it stands in the list.
-- Assumes nothing.
use Prim.Native.Nat.{ℕ, zero, suc, ◌-◌, ◌≤◌, ◌<◌}
use mathlib.Core.Path.{◌≡◌}
use mathlib.Core.List.{List, [], ◌∷◌}
use native.Mathlib.Omega.{arith}
use lib.ListN.{length}
use lib.Seq.{get_or-take, length-take-le}
use Rattle.member.specs.Format.{AllowedMember}
use Rattle.rating.specs.Surveyed.{member_at, members_of, AllowedMembers, AllowedSurvey}
use Rattle.member.specs.declared.record.Member.{Member}
use Rattle.member.specs.declared.record.Survey.{Survey}

-- an allowed member stands in the list
pub present : (ms : List Member) (i : ℕ) → AllowedMember (member_at ms i) → i < length ms
present [] i a = absurd (omega (arith, a.kind))
present (m ∷ ms) zero a = omega arith
present (m ∷ ms) (suc i) a = omega (arith, present ms i a)

module _ {s : Survey} (a : AllowedSurvey s) where
  pub listed : (i : ℕ) → i < s.count → i < length s.members
  listed i l = present s.members i (a.members i l)

  count_listed : s.count ≤ length s.members
  count_listed = omega (arith, listed (s.count - 1) (omega (arith, a.count)), a.count)

  pub members_counted : length (members_of s) ≡ s.count
  members_counted = length-take-le s.count s.members count_listed

  pub members_allowed : AllowedMembers (members_of s)
  members_allowed i l =
      let h : i < s.count = omega (arith, members_counted) in rw (get_or-take s.count s.members i _ h) (a.members i h)
