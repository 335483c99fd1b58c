-- What the demands say of a session, of a member and of two sessions, each under the sentence that it states.
use Rattle.std.specs.Prelude.{ℕ, ◌+◌, ◌-◌, ◌*◌, ◌≤◌, ◌<◌, ◌≡◌, List, ◌⊎◌, ◌↔◌, ℤ, pos, ◌+ℤ◌, length, ◌≤ℤ◌, ◌<ℤ◌}
use Rattle.section.specs.Fraction.{Fraction, Sound, whole, ◌⊕◌, ◌⊑◌, ◌⊏◌}
use Rattle.section.specs.Units.{weight}
use Rattle.influence.specs.Influence.{gives, behind}
use Rattle.member.specs.Format.{In, ◌‥◌}
use Rattle.member.specs.Formula.{Permitted}
use Rattle.member.specs.Wear.{SpreadKept}
use Rattle.rating.specs.Compare.{SpreadsKept}
use Rattle.rating.specs.Judgement.{permitted_for, margin, rating_of, judgement_of, written}
use Rattle.member.specs.PermittedLoad.{formula_of}
use Rattle.rating.specs.Surveyed.{member_at}
use Rattle.rating.specs.VehicleLoad.{influence_line, vehicle_load_on}
use Rattle.rating.specs.declared.judging.Judgement.{Judgement}
use Rattle.rating.specs.declared.judging.Rating.{Rating}
use Rattle.rating.specs.declared.judging.Verdict.TheVariants.{Pass, Refuse}
use Rattle.member.specs.declared.record.Member.{Member}
use Rattle.member.specs.declared.record.Vehicle.{Vehicle}
use Rattle.surveys.specs.SurveyFile.{count_of, record_at, records_of}
use Rattle.vehicles.specs.VehicleFile.{vehicle_of}
use Rattle.session.specs.Answers.{Answer, WithMargin, RefusedAt, rating_answer, judgement_answer}
use Rattle.session.specs.Calls.{members, rate, judge, judge_list}
use Rattle.session.specs.Loaded.{Session}

-- In a session: the permitted load, the vehicle load and the rating of the member of index i (its place less 1), and the bridge's
-- judgement.
abbrev pub permitted_at : Session → (i : ℕ) → ℕ
permitted_at s i = permitted_for s.vehicle (member_at (members s) i)

abbrev pub vehicle_load_at : Session → (i : ℕ) → ℕ
vehicle_load_at s i = vehicle_load_on (member_at (members s) i) s.vehicle

abbrev pub rating_at : Session → (i : ℕ) → Rating
rating_at s i = rating_of (member_at (members s) i) s.vehicle

abbrev pub judgement_in : Session → Judgement
judgement_in s = judgement_of (members s) s.vehicle

-- the call succeeds with values and a margin, or is refused by a number from the state, at place 0
abbrev pub FromState : (numbers : ℕ → Type 0) → Answer → Type 0
FromState numbers a = ((values : List ℕ) × (z : ℤ) × (a ≡ WithMargin values z)) ⊎ ((n : ℕ) × (numbers n) × (a ≡ RefusedAt n 0))

-- rate and judge are refused by this number, whatever place and list they are given
abbrev pub RefusedBoth : Session → (number : ℕ) → Type 0
RefusedBoth s number =
    ((place : ℕ) → (rate s place).answer ≡ RefusedAt number 0) × ((list : List ℕ) → (judge s list).answer ≡ RefusedAt number 0)

-- what rate and judge answer and write in a session in which both files are loaded, wherever the call succeeds
pub record Answers (s : Session) : Type 0 where
  pub rated : (i : ℕ) → i < s.survey.count → (rate s (i + 1)).answer ≡ rating_answer (rating_at s i)
  pub judged : (list : List ℕ) → 2 * s.survey.count ≤ length list →
      (judge s list).answer ≡ judgement_answer (judgement_in s)
  pub listed : (list : List ℕ) → 2 * s.survey.count ≤ length list →
      judge_list s list ≡ written s.vehicle (members s) list

-- A member's margin, in words. Document 02, request 6/13: "its permitted load minus its vehicle load, and it may be negative": with the
-- vehicle load it makes up the permitted load, and it is not negative exactly where the member passes. It is "rate's".
pub record Margin (m : Member) (v : Vehicle) : Type 0 where
  pub difference : margin v m +ℤ pos (vehicle_load_on m v) ≡ pos (permitted_for v m)
  pub decides : ((rating_of m v).verdict ≡ Pass) ↔ (pos 0 ≤ℤ margin v m)
  pub rated : (rating_of m v).margin ≡ margin v m

-- the bridge's figure and governing member, in words
pub record Governs (ms : List Member) (v : Vehicle) (j : Judgement) : Type 0 where
  -- "The bridge's figure is the least permitted load": no member's is less, and one has it
  pub figure_least : (i : ℕ) → i < length ms → j.figure.0 ≤ permitted_for v (member_at ms i)
  pub figure_had : (i : ℕ) × (i < length ms) × (permitted_for v (member_at ms i) ≡ j.figure.0)
  -- document 02, request 6/13: "The governing member becomes the one with the least margin, the first on a tie"; the margin is "the
  -- governing member's"
  pub within : In (1 ‥ length ms) j.governing
  pub has : margin v (member_at ms (j.governing - 1)) ≡ j.margin
  pub least : (i : ℕ) → i < length ms → j.margin ≤ℤ margin v (member_at ms i)
  pub first : (i : ℕ) → i + 1 < j.governing → j.margin <ℤ margin v (member_at ms i)
  -- so that member decides: the bridge passes exactly where its margin is not negative
  pub decides : (j.verdict ≡ Pass) ↔ (pos 0 ≤ℤ j.margin)

-- what the position with the front axle u half centimetres from an end gives, in one direction of travel and in the other
module _ (m : Member) (v : Vehicle) where
  abbrev pub forward_gives : (u : ℕ) → Fraction
  forward_gives u = gives (influence_line m).base (influence_line m).apex (weight v.weights) (behind v.distances) v.axles u

  abbrev pub backward_gives : (u : ℕ) → Fraction
  backward_gives u = gives (influence_line m).base ((influence_line m).base - (influence_line m).apex) (weight v.weights) (behind v.distances) v.axles u

-- "The vehicle load is at least what every half-centimetre position in either direction gives, and less than one unit above the
-- greatest of these."
pub record Covers (m : Member) (v : Vehicle) (load : ℕ) : Type 0 where
  -- the divisors are above 0
  pub sound : (u : ℕ) → (Sound (forward_gives m v u)) × (Sound (backward_gives m v u))
  pub one_way : (u : ℕ) → forward_gives m v u ⊑ whole load
  pub other_way : (u : ℕ) → backward_gives m v u ⊑ whole load
  pub near : ((u : ℕ) × (whole load ⊏ forward_gives m v u ⊕ whole 1)) ⊎ ((u : ℕ) × (whole load ⊏ backward_gives m v u ⊕ whole 1))

-- what rate and judge answer and write in a session that holds two files, by these files' own records, and that the figures are those
-- of demand 3
pub record FilesAnswered (s : Session) (survey vehicle : List ℕ) : Type 0 where
  pub rated : (i : ℕ) → i < count_of survey →
      (rate s (i + 1)).answer ≡ rating_answer (rating_of (record_at survey i) (vehicle_of vehicle))
  pub judged : (list : List ℕ) → 2 * count_of survey ≤ length list →
      (judge s list).answer ≡ judgement_answer (judgement_of (records_of survey) (vehicle_of vehicle))
  pub listed : (list : List ℕ) → 2 * count_of survey ≤ length list →
      judge_list s list ≡ written (vehicle_of vehicle) (records_of survey) list
  -- "13 no such place; 14 list shorter than two entries a member"
  pub no_place : (place : ℕ) → ¬ (In (1 ‥ count_of survey) place) → (rate s place).answer ≡ RefusedAt 13 0
  pub short_list : (list : List ℕ) → length list < 2 * count_of survey → (judge s list).answer ≡ RefusedAt 14 0
  -- "The permitted load is 0 where its exact value is negative; else never above it and less than one unit below."
  pub permitted_load : (i : ℕ) → i < count_of survey →
      Permitted (formula_of (record_at survey i) (vehicle_of vehicle).class (vehicle_of vehicle).track.0) (permitted_for (vehicle_of vehicle) (record_at survey i))
  -- "The vehicle load is at least what every half-centimetre position in either direction gives, and less than one unit above .."
  pub vehicle_load : (i : ℕ) → i < count_of survey →
      Covers (record_at survey i) (vehicle_of vehicle) (vehicle_load_on (record_at survey i) (vehicle_of vehicle))

-- Of two sessions and a way of matching their members, document 02, request 8/13: "matched records are the shared members". The member of
-- index i in the first survey has the index `partner i` in the second.
module _ (s s' : Session) (partner : ℕ → ℕ) where
  -- "a kind 7 record has the same rot in both surveys, deck rot included": of that member, and of every shared member
  abbrev pub SameRotAt : (i : ℕ) → Type 0
  SameRotAt i = SpreadKept (member_at (members s) i) (member_at (members s') (partner i))

  abbrev pub SameRot : Type 0
  SameRot = SpreadsKept (members s) (members s') partner

  -- "the permitted load of a shared member never rises, its vehicle load never falls, the bridge's figure never rises, and no verdict, of a
  -- shared member or the bridge, turns from refuse to pass". The premise of the same rot is asked of permitted loads, figure and verdicts: of
  -- a member's own load and verdict for that member alone. The pair in member/specs/Wear.antt shows that it is needed
  pub record Falls : Type 0 where
    pub permitted : (i : ℕ) → i < length (members s) → SameRotAt i → permitted_at s' (partner i) ≤ permitted_at s i
    pub vehicle_load : (i : ℕ) → i < length (members s) → vehicle_load_at s i ≤ vehicle_load_at s' (partner i)
    pub figure : SameRot → (judgement_in s').figure.0 ≤ (judgement_in s).figure.0
    pub member_verdict : (i : ℕ) → i < length (members s) → SameRotAt i → (rating_at s i).verdict ≡ Refuse → (rating_at s' (partner i)).verdict ≡ Refuse
    pub bridge_verdict : SameRot → (judgement_in s).verdict ≡ Refuse → (judgement_in s').verdict ≡ Refuse
