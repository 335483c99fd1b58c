-- A member's rating and the bridge's judgement. Document 01, 'Judgement', and of 'Calls' what rate and judge give; margins and the governing
-- member from document 02, request 6/13.
use Rattle.std.specs.Prelude.{ℕ, ◌+◌, ◌*◌, Bool, true, false, ◌&&◌, List, [], ◌∷◌, ◌++◌, leb, ℤ, pos, ◌-ℤ◌, length, drop}
use Rattle.std.specs.Int.Signed.{le_z}
use Rattle.section.specs.Choose.{choose}
use Rattle.member.specs.PermittedLoad.{permitted_load}
use Rattle.rating.specs.VehicleLoad.{vehicle_load_on}
use Rattle.member.specs.declared.record.Member.{Member}
use Rattle.member.specs.declared.record.Vehicle.{Vehicle}
use Rattle.rating.specs.declared.judging.Verdict.{Verdict}
use Rattle.rating.specs.declared.judging.Verdict.TheVariants.{Pass, Refuse}
use Rattle.rating.specs.declared.judging.Rating.{Rating}
use Rattle.rating.specs.declared.judging.Judgement.{Judgement}

-- pass or refuse
abbrev pub verdict_of : (passes : Bool) → Verdict
verdict_of true = Pass
verdict_of false = Refuse

-- The least that f gives over the members by a test of at most, `leb` of permitted loads and `le_z` of margins, which may be negative; `none`
-- where there are no members.
module _ {A : Type 0} (at_most : A → A → Bool) where
  abbrev pub lesser : A → A → A
  lesser a b = choose (at_most a b) a b

  unfoldable pub least : (none : A) (f : Member → A) → List Member → A
  least none f [] = none
  least none f (m ∷ []) = f m
  least none f (m ∷ n ∷ ms) = lesser (f m) (least none f (n ∷ ms))

-- the place of the first member that is so, one more than the members before it: "Places start at 1."
unfoldable pub first_that : (isSo : Member → Bool) → List Member → ℕ
first_that isSo [] = 0
first_that isSo (m ∷ ms) = choose (isSo m) 1 (1 + first_that isSo ms)

module _ (v : Vehicle) where
  -- the permitted load of a member for the vehicle
  abbrev pub permitted_for : Member → ℕ
  permitted_for m = permitted_load m v.class v.track.0

  -- "A member passes when its vehicle load is at most its permitted load."
  unfoldable pub passes : Member → Bool
  passes m = leb (vehicle_load_on m v) (permitted_for m)

  -- "The bridge passes when every member does."
  unfoldable pub every_passes : List Member → Bool
  every_passes [] = true
  every_passes (m ∷ ms) = passes m && every_passes ms

  -- "The bridge's figure is the least permitted load"; "The bridge's figure remains the least permitted load."
  abbrev pub figure : List Member → ℕ
  figure ms = least leb 0 permitted_for ms

  -- "A member's margin is its permitted load minus its vehicle load, and it may be negative."
  abbrev pub margin : Member → ℤ
  margin m = pos (permitted_for m) -ℤ pos (vehicle_load_on m v)

  -- the least margin over the members, and that a member has it: its margin is at most the least
  abbrev pub least_margin : List Member → ℤ
  least_margin ms = least le_z (pos 0) margin ms

  abbrev pub has_least : List Member → Member → Bool
  has_least ms m = le_z (margin m) (least_margin ms)

  -- Document 02, request 6/13: "The governing member becomes the one with the least margin, the first on a tie", where document 01 had "the
  -- member that has it governs", of the figure
  abbrev pub governing : List Member → ℕ
  governing ms = first_that (has_least ms) ms

  -- "fills a lent list of u64 with permitted load and vehicle load, two numbers a member; entries beyond are kept"
  unfoldable pub loads : List Member → List ℕ
  loads [] = []
  loads (m ∷ ms) = permitted_for m ∷ vehicle_load_on m v ∷ loads ms

  unfoldable pub written : List Member → List ℕ → List ℕ
  written ms list = loads ms ++ drop (2 * length ms) list

-- "Rate gives the member's two loads and pass or refuse." "each answer record gains that signed margin: rate's the member's own"
unfoldable pub rating_of : Member → Vehicle → Rating
rating_of m v =
    record {
      permitted = record { 0 = permitted_for v m };
      load = record { 0 = vehicle_load_on m v };
      verdict = verdict_of (passes v m);
      margin = margin v m;
    }

-- "Judge gives figure, governing place and verdict", and the margin: "judge's and the yard's the governing member's"
unfoldable pub judgement_of : List Member → Vehicle → Judgement
judgement_of ms v =
    record {
      figure = record { 0 = figure v ms };
      governing = governing v ms;
      verdict = verdict_of (every_passes v ms);
      margin = least_margin v ms;
    }
