-- The figure is the least permitted load and the governing member the first with the least margin, which is the margin that judge gives; and
-- the bridge passes exactly when that margin is not negative, since every member's is at least that.
-- Assumes nothing.
use Prim.Native.Nat.{ℕ, ◌+◌, ◌-◌, ◌≤◌, ◌<◌}
use mathlib.Core.Path.{◌≡◌, refl, sym, ap, subst, ◌∙◌}
use mathlib.Core.Bool.{Bool, true, false, not, false≢true}
use mathlib.Core.List.{List}
use mathlib.Core.Logic.{◌↔◌}
use native.Mathlib.Omega.{arith}
use lib.Dec.{T}
use lib.IntN.{ℤ, pos, ◌+ℤ◌, -ℤ-+ℤ_cancel}
use lib.ListN.{length}
use lib.Signed.{le_z, ◌≤ℤ◌, ◌<ℤ◌, le_z_yes, lt_z_yes}
use borrow.Author.Tests.{leb-true}
use Rattle.member.specs.declared.record.Member.{Member}
use Rattle.member.specs.declared.record.Vehicle.{Vehicle}
use Rattle.rating.specs.Judgement.{verdict_of, permitted_for, passes, every_passes, figure, margin, least_margin, has_least, governing, rating_of, judgement_of}
use Rattle.rating.specs.VehicleLoad.{vehicle_load_on}
use Rattle.rating.specs.Surveyed.{member_at}
use Rattle.rating.specs.declared.judging.Verdict.{Verdict}
use Rattle.rating.specs.declared.judging.Verdict.TheVariants.{Pass, Refuse}
use Rattle.rating.proofs.Judged.{every_passes_lem, passes_when_every}
use Rattle.rating.proofs.Least.{orders_ℕ, orders_ℤ, itself, least_below, least_had}
use Rattle.rating.proofs.Margins.{margin_sign}
use Rattle.rating.proofs.Places.{Some, First, first_place}

-- a verdict is pass exactly where its test holds
passed : Verdict → Bool
passed Pass = true
passed Refuse = false

says_pass : (t : Bool) → (verdict_of t ≡ Pass) ↔ (t ≡ true)
unfolding passed
says_pass true = (λ e. refl, λ e. refl)
says_pass false = (λ e. ap passed e, λ e. absurd (false≢true e))

-- what the tests of integers say
at_most_lem : {a b : ℤ} → le_z a b ≡ true → a ≤ℤ b
at_most_lem e = le_z_yes (subst T (sym e) tt)

at_most_so : {a b : ℤ} → a ≤ℤ b → le_z a b ≡ true
at_most_so {a} {b} h = go (le_z a b) h.le
  where
    go : (t : Bool) → T t → t ≡ true
    go true h = refl
    go false h = absurd h

-- with the vehicle load a member's margin makes up its permitted load
pub margin_difference : (m : Member) (v : Vehicle) → margin v m +ℤ pos (vehicle_load_on m v) ≡ pos (permitted_for v m)
margin_difference m v = -ℤ-+ℤ_cancel (pos (permitted_for v m)) (pos (vehicle_load_on m v))

pub rating_margin : (m : Member) (v : Vehicle) → (rating_of m v).margin ≡ margin v m
unfolding rating_of
rating_margin m v = refl

-- a member passes exactly where its margin is not negative
pub rating_decides : (m : Member) (v : Vehicle) → ((rating_of m v).verdict ≡ Pass) ↔ (pos 0 ≤ℤ margin v m)
unfolding rating_of passes
rating_decides m v =
    let sign = margin_sign (permitted_for v m) (vehicle_load_on m v) in (
      λ e. at_most_lem (sign ∙ (says_pass (passes v m)).0 e),
      λ h. (says_pass (passes v m)).1 (sym sign ∙ at_most_so h),
    )

module _ (ms : List Member) (v : Vehicle) where
  pub figure_least : (k : ℕ) → k < length ms → (judgement_of ms v).figure.0 ≤ permitted_for v (member_at ms k)
  unfolding judgement_of
  figure_least k l = leb-true (figure v ms) (permitted_for v (member_at ms k)) (least_below orders_ℕ 0 (permitted_for v) ms k l)

  least_margin_lem : (k : ℕ) → k < length ms → le_z (least_margin v ms) (margin v (member_at ms k)) ≡ true
  least_margin_lem = least_below orders_ℤ (pos 0) (margin v) ms

  module _ (l : 1 ≤ length ms) where
    pub figure_had : (k : ℕ) × (k < length ms) × (permitted_for v (member_at ms k) ≡ (judgement_of ms v).figure.0)
    unfolding judgement_of
    figure_had = least_had orders_ℕ 0 (permitted_for v) ms l

    -- some member has the least margin, so the governing member is the first of these
    pub margin_had : Some (has_least v ms) ms
    margin_had =
        let h = least_had orders_ℤ (pos 0) (margin v) ms l in
        record { index = h.0; inside = h.1; is_so = rw h.2 (itself orders_ℤ (least_margin v ms)) }

    first : First (has_least v ms) ms (governing v ms)
    first = first_place (has_least v ms) ms margin_had

    pub governing_within : (1 ≤ (judgement_of ms v).governing) × ((judgement_of ms v).governing ≤ length ms)
    unfolding judgement_of
    governing_within = (first.low, first.high)

    pub governing_margin : (judgement_of ms v).margin ≡ margin v (member_at ms ((judgement_of ms v).governing - 1))
    unfolding judgement_of
    governing_margin =
        orders_ℤ.antisym (least_margin v ms) (margin v (member_at ms (governing v ms - 1))) (least_margin_lem (governing v ms - 1) (omega (arith, first.low, first.high))) first.is_so

    pub governing_least : (k : ℕ) → k < length ms → (judgement_of ms v).margin ≤ℤ margin v (member_at ms k)
    unfolding judgement_of
    governing_least k h = at_most_lem (least_margin_lem k h)

    pub governing_first : (k : ℕ) → k + 1 < (judgement_of ms v).governing → (judgement_of ms v).margin <ℤ margin v (member_at ms k)
    unfolding judgement_of
    governing_first k h = lt_z_yes (subst T (sym (orders_ℤ.strict (margin v (member_at ms k)) (least_margin v ms) ∙ ap not (first.before k h))) tt)

    -- the bridge passes exactly where the governing member's margin is not negative
    pub judgement_decides : ((judgement_of ms v).verdict ≡ Pass) ↔ (pos 0 ≤ℤ (judgement_of ms v).margin)
    unfolding judgement_of rating_of
    judgement_decides = (
      λ e.
          let h = least_had orders_ℤ (pos 0) (margin v) ms l in
          subst (λ (z : ℤ). pos 0 ≤ℤ z) h.2 ((rating_decides (member_at ms h.0) v).0 ((says_pass _).1 (every_passes_lem v ms ((says_pass (every_passes v ms)).0 e) h.0 h.1))),
      λ h. (says_pass (every_passes v ms)).1
          (passes_when_every v ms
          (λ k b. (says_pass (passes v (member_at ms k))).0 ((rating_decides (member_at ms k) v).1 (at_most_lem (orders_ℤ.trans (pos 0) (least_margin v ms) (margin v (member_at ms k)) (at_most_so h) (least_margin_lem k b)))))),
    )
