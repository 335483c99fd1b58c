-- The bounds and the verdict of two surveys for a vehicle. Document 02, request 5/13: "Rot between two readings."
use Rattle.std.specs.Prelude.{ℕ, zero, suc, ◌*◌, not, List, [], ◌∷◌, ◌++◌, eqb, leb, length, drop, Result, Ok, Err}
use Rattle.member.specs.declared.record.Vehicle.{Vehicle}
use Rattle.rating.specs.Judgement.{permitted_for, judgement_of}
use Rattle.rating.specs.declared.judging.Verdict.{Verdict}
use Rattle.rating.specs.declared.judging.Verdict.TheVariants.{Pass, Refuse}
use Rattle.files.specs.Reading.{Reading, test, first_refusal, taken}
use Rattle.files.specs.declared.Refusal.{Refusal}
use Rattle.surveys.specs.SurveyFile.{count_of, record_at, records_of, read_survey}
use Rattle.between.specs.Order.{order_of}
use Rattle.between.specs.declared.Between.{Between}
use Rattle.between.specs.declared.Between.TheVariants.{All, None, Undecided}

-- two files' own refusals, and their order
abbrev pub pair_tests : (first second : List ℕ) → List Reading
pair_tests first second = (read_survey first).answer ∷ (read_survey second).answer ∷ order_of first second ∷ []

abbrev pub pair_answer : (first second : List ℕ) → Reading
pair_answer first second = first_refusal (pair_tests first second)

-- "12 comes first, then the first survey's own refusals, the second's, 15, and 14 for a list shorter than two entries a member"
abbrev pub between_tests : Vehicle → (first second : List ℕ) (room : ℕ) → List Reading
between_tests v first second room =
    test 12 (not (eqb v.axles 0)) ∷ pair_tests first second ++ (test 14 (leb (2 * count_of first) room) ∷ [])

-- "and gives a verdict: passes for all between, for none, or undecided"; "undecided exactly when the two ends' verdicts differ"
abbrev pub verdict_between : (first second : Verdict) → Between
verdict_between Pass Pass = All
verdict_between Pass Refuse = Undecided
verdict_between Refuse Pass = Undecided
verdict_between Refuse Refuse = None

-- "fills a lent list of u64 with each member's lowest and highest permitted load, entries beyond kept": of n members
abbrev pub in_turn : (lowest highest : ℕ → ℕ) (n : ℕ) → List ℕ
in_turn lowest highest zero = []
in_turn lowest highest (suc n) = in_turn lowest highest n ++ (lowest n ∷ highest n ∷ [])

unfoldable pub bounds_written : (lowest highest : ℕ → ℕ) (n : ℕ) (list : List ℕ) → List ℕ
bounds_written lowest highest n list = in_turn lowest highest n ++ drop (2 * n) list

-- by the tests: the list filled, or as it was: a refusal writes nothing
abbrev pub kept : Reading → (list filled : List ℕ) → List ℕ
kept (Ok tt) list filled = filled
kept (Err r) list filled = list

module _ (v : Vehicle) where
  -- for the vehicle: the permitted load of the member of index i of a survey file, from 0, and the verdict of its bridge
  abbrev pub permitted_in : (survey : List ℕ) (i : ℕ) → ℕ
  permitted_in survey i = permitted_for v (record_at survey i)

  abbrev pub verdict_in : (survey : List ℕ) → Verdict
  verdict_in survey = (judgement_of (records_of survey) v).verdict

  unfoldable pub answered_between : (first second : List ℕ) (room : ℕ) → Result Between Refusal
  answered_between first second room = taken (first_refusal (between_tests v first second room)) (verdict_between (verdict_in first) (verdict_in second))

  -- what the lent list then holds. The lowest permitted load is that of the second survey, which has the greater rot, losses and dead load;
  -- the highest that of the first
  unfoldable pub between_list : (first second list : List ℕ) → List ℕ
  between_list first second list =
      kept (first_refusal (between_tests v first second (length list))) list
      (bounds_written (permitted_in second) (permitted_in first) (count_of first) list)
