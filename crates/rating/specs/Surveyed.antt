-- A survey's members, and what a survey may hold. Document 01, 'Files': "Survey: .. u8 count 1..64, then per member 16 u16"; by document 02,
-- request 12/13, up to 255.
use Rattle.std.specs.Prelude.{ℕ, ◌<◌, List, [], length, take, get_or}
use Rattle.member.specs.Fields.{MOST_MEMBERS}
use Rattle.member.specs.Format.{AllowedMember, In, ◌‥◌}
use Rattle.member.specs.declared.record.Member.{Member}
use Rattle.member.specs.declared.record.Survey.{Survey}

-- the member at an index, from 0; past the last one a record with no numbers, which is not allowed
abbrev pub member_at : List Member → ℕ → Member
member_at ms i = get_or ms i (record { fields = [] })

abbrev pub AllowedMembers : List Member → Type 0
AllowedMembers ms = (i : ℕ) → i < length ms → AllowedMember (member_at ms i)

-- the members of a survey: the first `count`
abbrev pub members_of : Survey → List Member
members_of s = take s.count s.members

pub record AllowedSurvey (s : Survey) : Type 0 where
  pub count : In (1 ‥ MOST_MEMBERS) s.count
  pub members : (i : ℕ) → i < s.count → AllowedMember (member_at s.members i)
