-- What is claimed of a gauge's readings holds.
-- Assumes nothing.
use Prim.Native.Nat.{ℕ, ◌-◌, ◌≤◌}
use mathlib.Core.Path.{◌≡◌, refl, sym, ◌∙◌}
use mathlib.Core.Bool.{Bool, true, false, true≢false}
use native.Mathlib.Nat.{sub-add_cancel}
use native.Mathlib.Omega.{arith}
use lib.Ieee.{Float, binary32, sub}
use borrow.Author.Tests.{leb-true}
use Rattle.section.specs.Choose.{choose}
use Rattle.section.specs.Fraction.{over, ◌⊕◌, ◌≐◌, at_most}
use Rattle.section.proofs.Order.{≐_sym, ≐_trans, over_sound, ⊕_over, at_most_lem, is_at_most, above, is_above}
use Rattle.member.specs.declared.record.Member.{Member}
use Rattle.gauge.specs.Whole.{count_of}
use Rattle.gauge.specs.Value.{value_of}
use Rattle.gauge.specs.Limit.{limit}
use Rattle.gauge.specs.Gauge.{deflection, deflection_of, gauged}
use Rattle.gauge.specs.Fault.{ReadingFault, MayBeGauged}
use Rattle.gauge.specs.Claims.{Exact, LosesNothing, Compared}
use Rattle.gauge.specs.declared.Deflection.TheVariants.{Within, Over}
use Rattle.std.specs.Prelude.{Ok, Err}
use Rattle.gauge.specs.declared.Readings.{Readings}
use Rattle.gauge.proofs.Differences.{deflected, deflection_reading}
use Rattle.gauge.proofs.Refusals.{good_taken, fault_refused}
use Rattle.gauge.proofs.Values.{reading_counted, counts_in_order, reading_is, is_reading_lem}

pub loses_nothing : LosesNothing
loses_nothing x y rx ry order =
    let cx = reading_counted x (is_reading_lem x rx) in
    let cy = reading_counted y (is_reading_lem y ry) in
    let fewer : count_of y ≤ count_of x = leb-true _ _ (counts_in_order y x cy cx ∙ is_at_most order) in
    let value = (deflected x y rx ry order).1 in
    let made : value_of (sub binary32 x y) ⊕ value_of y ≐ over (count_of x) 64 = rw (sub-add_cancel fewer) at (⊕_over (count_of x - count_of y) (count_of y) 64 value cy.value) in
    record { reading = reading_is _ (deflection_reading x y rx ry order); exact = ≐_trans (over_sound (count_of x) 64 (omega arith)) made (≐_sym cx.value) }

not_over : (x y : Float) → Within x ≡ Over y → ⊥
not_over x y e = let z : ◌≡◌ {A = ℕ} 0 1 = cc in omega arith

pub compared : (m : Member) (class : ℕ) (r : Readings) → MayBeGauged r → Compared m class r (deflection_of m class r)
unfolding deflection_of
compared m class r g = go (at_most (value_of (deflection r)) (limit m class)) refl
  where
    exact : Exact r.loaded r.after
    exact = loses_nothing r.loaded r.after (g.readings 1 (omega arith)) (g.readings 2 (omega arith)) g.order

    go : (t : Bool) → at_most (value_of (deflection r)) (limit m class) ≡ t → Compared m class r (choose t (Within (deflection r)) (Over (deflection r)))
    go true e =
        record {
          elastic = refl;
          exact = exact;
          within = (λ d. at_most_lem _ _ e, λ h. refl);
          over = (λ d. absurd (not_over _ _ d), λ h. absurd (true≢false (sym e ∙ is_above h)));
        }
    go false e =
        record {
          elastic = refl;
          exact = exact;
          within = (λ d. absurd (not_over _ _ (sym d)), λ h. absurd (true≢false (sym (is_at_most h) ∙ e)));
          over = (λ d. above _ _ e, λ h. refl);
        }

-- by the tests: a deflection, or the refusal
pub gauged_elastic : (m : Member) (class : ℕ) (r : Readings) → MayBeGauged r → gauged m class r ≡ Ok (deflection_of m class r)
unfolding gauged
gauged_elastic m class r g = rw (good_taken r g)

pub gauged_refused : (m : Member) (class : ℕ) (r : Readings) (n p : ℕ) → ReadingFault r n p → gauged m class r ≡ Err (record { number = n; place = p })
unfolding gauged
gauged_refused m class r n p f = rw (fault_refused r n p f)
