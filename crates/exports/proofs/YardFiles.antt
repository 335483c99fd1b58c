-- The numbers of a yard by the answer of the survey's load: a refusal ends the calls with the list as it was. Else what `yard_answers` found
-- is counted and written, and where it found a refusal that is no vehicle and no number.
use Rattle.std.specs.Prelude.{Ok, Err, ⊤}
use Prim.Native.Nat.{ℕ, ◌*◌, ◌≤◌}
use mathlib.Core.Path.{◌≡◌}
use mathlib.Core.List.{List, [], ◌∷◌, ◌++◌}
use native.Mathlib.Omega.{arith}
use lib.ListN.{length, take, drop}
use lib.Seq.{length-take-le}
use Rattle.files.specs.declared.Refusal.{Refusal}
use Rattle.session.specs.Answers.{Values, loaded, refused_by}
use Rattle.session.specs.Calls.{new_session, load_survey}
use Rattle.session.specs.Yard.{entries, answered_yard}
use Rattle.session.specs.YardRun.{Found}
use Rattle.session.specs.declared.After.{After}
use Rattle.session.specs.declared.yard.YardAnswers.{YardAnswers}
use Rattle.exports.specs.YardNumbers.{room_of, yard_outcome, yard_numbers_of, numbers_in, yard_numbers, yard_number_list}
use Rattle.exports.specs.declared.yard.YardNumbers.{YardNumbers}

module _ (survey yard list : List ℕ) (o : After ⊤) (load : loaded o ≡ load_survey new_session survey) where
  pub refused : (f : Refusal) (r : YardNumbers) → o.answer ≡ Err f → r ≡ yard_numbers_of (refused_by f) 0 →
      (r ≡ yard_numbers survey yard list) × (list ≡ yard_number_list survey yard list)
  unfolding yard_numbers yard_number_list
  refused f r e is = (rw (is, ← load, e), rw (← load, e))

  module _ (taken : o.answer ≡ (Ok tt)) where
    outcome : yard_outcome survey yard list ≡ record { session = o.session; answer = answered_yard o.session yard (room_of list) }
    outcome = rw (← load, taken)

    pub filled : (y : YardAnswers) (r : YardNumbers) (after : List ℕ) → Found o.session yard (room_of list) y →
        after ≡ numbers_in (entries (take y.count y.answers)) ++ drop (3 * length (take y.count y.answers)) list →
        r ≡ yard_numbers_of (Values (y.passes ∷ [])) y.count →
        (r ≡ yard_numbers survey yard list) × (after ≡ yard_number_list survey yard list)
    unfolding yard_numbers yard_number_list
    filled y r after h w is =
        let few : y.count ≤ length y.answers = omega (arith, h.sized, h.most) in
        (rw (is, outcome, h.is, h.count), rw (w, length-take-le y.count y.answers few, outcome, h.is, h.entries, h.count))

    pub yard_refused : (f : Refusal) (r : YardNumbers) → answered_yard o.session yard (room_of list) ≡ refused_by f → r ≡ yard_numbers_of (refused_by f) 0 →
        (r ≡ yard_numbers survey yard list) × (list ≡ yard_number_list survey yard list)
    unfolding yard_numbers yard_number_list
    yard_refused f r e is = (rw (is, outcome, e), rw (outcome, e))
