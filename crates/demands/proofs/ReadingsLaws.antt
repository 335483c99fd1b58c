-- What is claimed of the call on two readings holds: a survey that is loaded has its file's records, and the laws of two surveys in order are
-- read off for the two ends and for what lies between.
-- Assumes nothing.
use Prim.Native.Nat.{ℕ, ◌<◌}
use mathlib.Core.Path.{◌≡◌, refl, sym, ap, ◌∙◌}
use mathlib.Core.List.{List, []}
use mathlib.Core.Logic.{inl, inr, ⊎_elim, ◌↔◌}
use native.Mathlib.Omega.{arith}
use lib.ListN.{length, get_or}
use Rattle.rating.specs.Judgement.{judgement_of}
use Rattle.rating.specs.declared.judging.Judgement.{Judgement}
use Rattle.rating.specs.declared.judging.Verdict.{Verdict}
use Rattle.rating.specs.declared.judging.Verdict.TheVariants.{Pass, Refuse}
use Rattle.surveys.specs.Allowed.{AllowedSurveyFile}
use Rattle.surveys.specs.SurveyFile.{count_of, records_of, survey_of}
use Rattle.surveys.proofs.Surveys as surveys
use Rattle.between.specs.Order.{InOrder, LiesBetween}
use Rattle.between.specs.Between.{verdict_between, permitted_in, verdict_in, bounds_written, answered_between, between_list}
use Rattle.between.specs.Fault.{MayBeJudged, BetweenFault}
use Rattle.between.specs.declared.Between.{Between}
use Rattle.between.specs.declared.Between.TheVariants.{All, None, Undecided}
use Rattle.between.proofs.Lists.{bounds_at, bounds_beyond, bounds_length}
use Rattle.between.proofs.Named.{fault_refused, passed_good, good_passed, passed_or_fault}
use Rattle.between.proofs.Pairs.{survey_members, Passed, passed_all, list_kept}
use Rattle.between.proofs.Within.{record_at_lem, low_in_order, high_in_order, ends_between, no_higher_load, no_higher_figure, stays_refused}
use Rattle.session.specs.Answers.{Answer, Outcome, Values, RefusedAt, between_number, values_of, verdict_number}
use Rattle.session.specs.Calls.{members, load_survey}
use Rattle.demands.specs.Parts.{permitted_at, judgement_in}
use Rattle.session.specs.Readings.{judge_between, bounds_list}
use Rattle.demands.specs.ReadingsCall.{with, verdict_with, figure_with, Gives, lowest_at, highest_at, BetweenAnswered, BetweenFigures, BetweenTaken, WithinBounds, BetweenBounds}
use Rattle.session.specs.Loaded.{Session}
use Rattle.session.proofs.Loads.{never_both, survey_read, survey_load}
use Rattle.demands.proofs.Answered.{all_answers}

-- a survey that is loaded: its file's records, and the vehicle as it was
module _ (s : Session) {survey : List ℕ} (a : AllowedSurveyFile survey) where
  with_is : with s survey ≡ record { survey = survey_of survey; vehicle = s.vehicle }
  with_is = ap (λ (o : Outcome). o.session) (survey_load s survey (surveys.allowed_taken survey a))

  members_with : members (with s survey) ≡ records_of survey
  members_with = rw with_is (survey_members survey)

  judged_with : judgement_in (with s survey) ≡ judgement_of (records_of survey) s.vehicle
  judged_with = rw (members_with, with_is)

  permitted_with : (i : ℕ) → i < count_of survey → permitted_at (with s survey) i ≡ permitted_in s.vehicle survey i
  permitted_with i l = rw (members_with, with_is, record_at_lem survey i l)

  taken_with : (load_survey s survey).answer ≡ Values []
  taken_with = ap (λ (o : Outcome). o.answer) (survey_load s survey (surveys.allowed_taken survey a))

  figure_with_lem : figure_with s survey ≡ (judgement_of (records_of survey) s.vehicle).figure.0
  figure_with_lem = ap (λ (j : Judgement). j.figure.0) judged_with

  verdict_with_lem : verdict_with s survey ≡ verdict_in s.vehicle survey
  verdict_with_lem = ap (λ (j : Judgement). j.verdict) judged_with

-- the verdicts have different numbers
one_verdict : (b c : Between) → between_number b ≡ between_number c → b ≡ c
one_verdict All All e = refl
one_verdict All None e = absurd (omega arith)
one_verdict All Undecided e = absurd (omega arith)
one_verdict None All e = absurd (omega arith)
one_verdict None None e = refl
one_verdict None Undecided e = absurd (omega arith)
one_verdict Undecided All e = absurd (omega arith)
one_verdict Undecided None e = absurd (omega arith)
one_verdict Undecided Undecided e = refl

-- the verdict of two ends, case by case
all_both : (p q : Verdict) → (verdict_between p q ≡ All) ↔ ((p ≡ Pass) × (q ≡ Pass))
all_both Pass Pass = (λ e. (refl, refl), λ h. refl)
all_both Pass Refuse = (λ e. absurd (omega (arith, ap between_number e)), λ h. absurd (omega (arith, ap verdict_number h.1)))
all_both Refuse Pass = (λ e. absurd (omega (arith, ap between_number e)), λ h. absurd (omega (arith, ap verdict_number h.0)))
all_both Refuse Refuse = (λ e. absurd (omega (arith, ap between_number e)), λ h. absurd (omega (arith, ap verdict_number h.0)))

none_both : (p q : Verdict) → (verdict_between p q ≡ None) ↔ ((p ≡ Refuse) × (q ≡ Refuse))
none_both Pass Pass = (λ e. absurd (omega (arith, ap between_number e)), λ h. absurd (omega (arith, ap verdict_number h.0)))
none_both Pass Refuse = (λ e. absurd (omega (arith, ap between_number e)), λ h. absurd (omega (arith, ap verdict_number h.0)))
none_both Refuse Pass = (λ e. absurd (omega (arith, ap between_number e)), λ h. absurd (omega (arith, ap verdict_number h.1)))
none_both Refuse Refuse = (λ e. (refl, refl), λ h. refl)

undecided_differ : (p q : Verdict) → (verdict_between p q ≡ Undecided) ↔ (¬ (p ≡ q))
undecided_differ Pass Pass = (λ e. absurd (omega (arith, ap between_number e)), λ n. absurd (n refl))
undecided_differ Pass Refuse = (λ e f. omega (arith, ap verdict_number f), λ n. refl)
undecided_differ Refuse Pass = (λ e f. omega (arith, ap verdict_number f), λ n. refl)
undecided_differ Refuse Refuse = (λ e. absurd (omega (arith, ap between_number e)), λ n. absurd (n refl))

-- a verdict that is not refuse is pass
passes : (p : Verdict) → ¬ (p ≡ Refuse) → p ≡ Pass
passes Pass n = refl
passes Refuse n = absurd (n refl)

module _ (s : Session) (first second list : List ℕ) where
  -- the verdict of the two ends
  abbrev ends : Between
  ends = verdict_between (verdict_in s.vehicle first) (verdict_in s.vehicle second)

  -- where every test holds the verdict is given, and where one fails its refusal is
  given : Passed s.vehicle first second (length list) → Gives s first second list ends
  unfolding judge_between answered_between
  given p = rw (passed_all _ _ _ _ p)

  refused : (n p : ℕ) → BetweenFault s.vehicle first second (length list) n p → (judge_between s first second list).answer ≡ RefusedAt n p
  unfolding judge_between answered_between
  refused n p f = rw (fault_refused _ _ _ _ n p f)

  -- a verdict is given only where every test holds, and is that one
  given_passed : (b : Between) → Gives s first second list b → Passed s.vehicle first second (length list)
  given_passed b e =
      ⊎_elim (λ p. p) (λ (n, p, f). never_both _ n p (sym e ∙ refused n p f)) (passed_or_fault s.vehicle first second (length list))

  given_is : (b : Between) → Gives s first second list b → b ≡ ends
  given_is b e =
      one_verdict _ _ (ap (λ (a : Answer). get_or (values_of a) 0 0) (sym e ∙ given (given_passed b e)))

  filled : Passed s.vehicle first second (length list) →
      bounds_list s first second list ≡ bounds_written (permitted_in s.vehicle second) (permitted_in s.vehicle first) (count_of first) list
  unfolding bounds_list between_list
  filled p = rw (passed_all _ _ _ _ p)

  untouched : (n p : ℕ) → BetweenFault s.vehicle first second (length list) n p → bounds_list s first second list ≡ list
  unfolding bounds_list
  untouched n p f = sym (list_kept _ _ _ _ _ (fault_refused _ _ _ _ n p f))

  pub between_answered : BetweenAnswered s first second list
  unfolding judge_between
  between_answered =
      record {
        answered = ⊎_elim (λ p. inl (ends, given p)) (λ (n, p, f). inr (n, p, refused n p f, f)) (passed_or_fault s.vehicle first second (length list));
        named = refused;
        session_kept = refl;
        list_kept = λ n p e.
            ⊎_elim (λ h. never_both _ n p (sym (given h) ∙ e)) (λ (k, q, f). untouched k q f) (passed_or_fault s.vehicle first second (length list));
      }

  -- the figures of the two ends
  module _ (b : Between) (e : Gives s first second list b) where
    good : MayBeJudged s.vehicle first second (length list)
    good = passed_good _ _ _ _ (given_passed b e)

    allowed_first : AllowedSurveyFile first
    allowed_first = good.allowed.first_allowed

    allowed_second : AllowedSurveyFile second
    allowed_second = good.allowed.second_allowed

    bounds_are : (i : ℕ) → i < count_of first →
        (lowest_at s first second list i ≡ permitted_in s.vehicle second i) × (highest_at s first second list i ≡ permitted_in s.vehicle first i)
    bounds_are i l = rw (filled (given_passed b e)) (bounds_at _ _ (count_of first) list i l)

    by_verdicts : (c : Between) (P : Type 0) → (verdict_between (verdict_with s first) (verdict_with s second) ≡ c) ↔ P → (b ≡ c) ↔ P
    by_verdicts c P h =
        let same : b ≡ verdict_between (verdict_with s first) (verdict_with s second) = rw (verdict_with_lem s allowed_first, verdict_with_lem s allowed_second) (given_is b e) in
        (λ f. h.0 (sym same ∙ f), λ k. same ∙ h.1 k)

    figures : BetweenFigures s first second list b
    figures =
        record {
          first_taken = taken_with s allowed_first;
          second_taken = taken_with s allowed_second;
          lowest = λ i l. (bounds_are i l).0 ∙ sym (permitted_with s allowed_second i (omega (arith, good.order.count)));
          highest = λ i l. (bounds_are i l).1 ∙ sym (permitted_with s allowed_first i l);
          beyond = λ i l. rw (filled (given_passed b e)) (bounds_beyond _ _ (count_of first) list i l);
          length_kept = rw (filled (given_passed b e)) (bounds_length _ _ (count_of first) list good.room_enough);
          all = by_verdicts All _ (all_both _ _);
          none = by_verdicts None _ (none_both _ _);
          undecided = by_verdicts Undecided _ (undecided_differ _ _);
        }

    -- a survey between them
    module _ (third : List ℕ) (taken : (load_survey s third).answer ≡ Values []) (between : LiesBetween first third second) where
      allowed_third : AllowedSurveyFile third
      allowed_third = surveys.taken_allowed third (survey_read s third taken)

      low : InOrder first third
      low = low_in_order allowed_first allowed_third good.order between

      high : InOrder third second
      high = high_in_order allowed_first allowed_third good.order between

      within : WithinBounds s first second list b third
      within =
          record {
            said_of = all_answers (with s third) (rw (with_is s allowed_third) allowed_third.count.0) (rw (with_is s allowed_third) good.allowed.vehicle);
            permitted = λ i l.
                let k : i < count_of third = omega (arith, between.count) in (
                  rw ((bounds_are i l).0, permitted_with s allowed_third i k) (no_higher_load s.vehicle allowed_third allowed_second high i k),
                  rw ((bounds_are i l).1, permitted_with s allowed_third i k) (no_higher_load s.vehicle allowed_first allowed_third low i l),
                );
            figure = (
              omega (arith, figure_with_lem s allowed_second, figure_with_lem s allowed_third, no_higher_figure s.vehicle allowed_third allowed_second high),
              omega (arith, figure_with_lem s allowed_third, figure_with_lem s allowed_first, no_higher_figure s.vehicle allowed_first allowed_third low),
            );
            all = λ a.
                passes _
                (λ r.
                let still = stays_refused s.vehicle allowed_third allowed_second high (sym (verdict_with_lem s allowed_third) ∙ r) in
                omega (arith, ap verdict_number (sym (figures.all.0 a).1 ∙ verdict_with_lem s allowed_second ∙ still)));
            none = λ n.
                verdict_with_lem s allowed_third ∙
                stays_refused s.vehicle allowed_first allowed_third low (sym (verdict_with_lem s allowed_first) ∙ (figures.none.0 n).0);
          }

    pub between_bounds : BetweenBounds s first second list b
    between_bounds =
        let both = ends_between good.order in record { within = within; first_between = both.0; second_between = both.1 }

  pub between_taken : BetweenTaken s first second list
  between_taken =
      record {
        taken = (
          λ (b, e). passed_good _ _ _ _ (given_passed b e),
          λ g. (ends, given (good_passed _ _ _ _ g)),
        );
        figures = figures;
      }
