-- What demand 3 compares beside two records of one member: two vehicles and two lists of members. Document 01, 'Judgement': "axle
-- weights axle by axle from the front, as far as the first vehicle goes. All else is every other number in a shared member's
-- record, the class, the track and the distances of those axles."
use Rattle.std.specs.Prelude.{ℕ, ◌≤◌, ◌<◌, ◌≡◌, List, length}
use Rattle.section.specs.Units.{weight, distance}
use Rattle.member.specs.Wear.{Worn, SpreadKept}
use Rattle.member.specs.declared.record.Member.{Member}
use Rattle.member.specs.declared.record.Vehicle.{Vehicle}
use Rattle.rating.specs.Surveyed.{member_at}

-- the second vehicle has each axle of the first as heavy or heavier, and "at least as many axles", all else alike
pub record Heavier (v v' : Vehicle) : Type 0 where
  pub class : v.class ≡ v'.class
  pub track : v.track.0 ≡ v'.track.0
  pub axles : v.axles ≤ v'.axles
  pub weights : (i : ℕ) → i < v.axles → weight v.weights i ≤ weight v'.weights i
  pub distances : (i : ℕ) → i < v.axles → distance v.distances i ≡ distance v'.distances i

-- Document 02, request 8/13: a "way of matching each record of the first with one of the second, no two with the same, whatever their places
-- and versions; matched records are the shared members". Of two matched records the second is as worn or more, all else alike
pub record Matching (ms ms' : List Member) : Type 0 where
  pub partner : ℕ → ℕ
  pub inside : (i : ℕ) → i < length ms → partner i < length ms'
  pub one_to_one : (i k : ℕ) → i < length ms → k < length ms → partner i ≡ partner k → i ≡ k
  pub worn : (i : ℕ) → i < length ms → Worn (member_at ms i) (member_at ms' (partner i))

-- "a kind 7 record has the same rot in both surveys, deck rot included": of each member and its partner
abbrev pub SpreadsKept : (ms ms' : List Member) (partner : ℕ → ℕ) → Type 0
SpreadsKept ms ms' partner = (i : ℕ) → i < length ms → SpreadKept (member_at ms i) (member_at ms' (partner i))

-- document 01's own way: "a shared member has the same place in both surveys. The second survey has at least as many members as the first"
pub record SamePlaces (ms ms' : List Member) : Type 0 where
  pub longer : length ms ≤ length ms'
  pub worn : (i : ℕ) → i < length ms → Worn (member_at ms i) (member_at ms' i)
