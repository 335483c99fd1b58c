-- Records and surveys in order: the tests come to the plain words.
-- Assumes nothing.
use Rattle.std.specs.Prelude.{Ok}
use Prim.Native.Nat.{ℕ, ◌+◌, ◌≤◌, ◌<◌}
use mathlib.Core.Path.{◌≡◌, refl, sym, ◌∙◌}
use mathlib.Core.Bool.{Bool, true, false, not, ◌&&◌, ◌||◌, and-true, and-false, or-true, or-false, false≢true}
use mathlib.Core.List.{List}
use mathlib.Core.Logic.{◌⊎◌, inl, inr, ⊎_elim}
use native.Mathlib.Omega.{arith}
use lib.Dec.{eqb, leb}
use borrow.Author.Tests.{eqb-true, eq-eqb, ne_eqb, le-leb, leb-true}
use Rattle.section.specs.Choose.{choose}
use Rattle.section.proofs.Table.{all_at}
use Rattle.member.specs.Fields.{KIND, CODE, DEAD_LOAD, MU_B, FIELDS, field}
use Rattle.member.specs.Format.{holds}
use Rattle.member.specs.Wear.{rot_fields, lost_fields, rots, wears}
use Rattle.member.specs.declared.record.Member.{Member}
use Rattle.member.proofs.Wears.{no_rot, no_loss}
use Rattle.files.specs.Reading.{first_fault}
use Rattle.surveys.specs.SurveyFile.{count_of, record_at}
use Rattle.files.specs.Words.{each}
use Rattle.files.proofs.Faults.{refusal, all_hold, hold_all, first_failing, counts_differ, counts_alike, counts_same}
use Rattle.files.proofs.Tests.{both, all_of, refutes}
use Rattle.between.specs.Order.{must_stay, may_grow, field_ordered, ordered, order_fault, Ordered, order_answer, order_of, OrderedBefore, InOrder}

-- by a record's tests: section's rot, deck, lost area, dead load. What is no dead load stays in kind 7
none_grows : (rot deck lost : Bool) → false ≡ (((rot || deck) || lost || false) && not ((rot || deck) || lost))
none_grows true deck lost = refl
none_grows false true lost = refl
none_grows false false true = refl
none_grows false false false = refl

-- in any other kind each of them grows, and there is no deck
each_grows : (rot deck lost dead : Bool) → (dead || (rot || lost)) ≡ (((rot || (deck && false)) || lost || dead) && true)
each_grows rot deck lost dead = rw (and-false, or-false, and-true) (turned rot lost dead)
  where
    turned : (a b c : Bool) → (c || (a || b)) ≡ (a || b || c)
    turned true b true = refl
    turned true b false = refl
    turned false true true = refl
    turned false true false = refl
    turned false false c = or-false c

-- what may grow: of kind 7 the dead load alone, of any other kind the section's rot and losses too
pub may_grow_is : (kind code f : ℕ) → (eqb f DEAD_LOAD || (not (eqb kind 7) && (holds f (rot_fields code) || holds f (lost_fields code)))) ≡ may_grow kind code f
unfolding may_grow must_stay wears rots
may_grow_is kind code f = go (eqb kind 7) (eqb f DEAD_LOAD) refl
  where
    go : (seven dead : Bool) → eqb f DEAD_LOAD ≡ dead →
        (dead || (not seven && (holds f (rot_fields code) || holds f (lost_fields code)))) ≡
        (((holds f (rot_fields code) || (eqb f MU_B && seven)) || holds f (lost_fields code) || dead) &&
        not (seven && ((holds f (rot_fields code) || (eqb f MU_B && seven)) || holds f (lost_fields code))))
    go true true e = rw (eqb-true f DEAD_LOAD e, no_rot DEAD_LOAD (inl (omega arith)) code, no_loss DEAD_LOAD (inl (omega arith)) code)
    go true false e = none_grows (holds f (rot_fields code)) (eqb f MU_B && true) (holds f (lost_fields code))
    go false dead e = each_grows (holds f (rot_fields code)) (eqb f MU_B) (holds f (lost_fields code)) dead

-- the same by the code's tests in turn
pub dead_grows : (kind code f : ℕ) → f ≡ DEAD_LOAD → may_grow kind code f ≡ true
dead_grows kind code f e = sym (rw (eq-eqb f DEAD_LOAD e) at (may_grow_is kind code f))

pub kept_grows : (kind code f : ℕ) → ¬ (f ≡ DEAD_LOAD) → kind ≡ 7 → may_grow kind code f ≡ false
kept_grows kind code f other e = sym (rw (ne_eqb f DEAD_LOAD other, eq-eqb kind 7 e) at (may_grow_is kind code f))

pub worn_grows : (kind code f : ℕ) → ¬ (f ≡ DEAD_LOAD) → ¬ (kind ≡ 7) → may_grow kind code f ≡ (holds f (rot_fields code) || holds f (lost_fields code))
worn_grows kind code f other n = sym (rw (ne_eqb f DEAD_LOAD other, ne_eqb kind 7 n) at (may_grow_is kind code f))

-- the answer by the counts: another count is the refusal, else the first record that is not in order
module _ (n n' : ℕ) (at at' : ℕ → Member) where
  pub count_differs : ¬ (n ≡ n') → order_answer n n' at at' ≡ refusal 15 0
  unfolding order_answer
  count_differs = counts_differ 15 (omega arith) n n' (each (λ i. order_fault (at i) (at' i)) n)

  pub count_alike : n ≡ n' → order_answer n n' at at' ≡ first_fault 1 (each (λ i. order_fault (at i) (at' i)) n)
  unfolding order_answer
  count_alike = counts_alike 15 (omega arith) n n' (each (λ i. order_fault (at i) (at' i)) n)

-- surveys in order have the same count
pub order_count : (first second : List ℕ) → order_of first second ≡ (Ok tt) → count_of first ≡ count_of second
unfolding order_answer
order_count first second = counts_same 15 (omega arith) (count_of first) (count_of second) (each (λ i. order_fault (record_at first i) (record_at second i)) (count_of first))

-- a field that may not grow is equal, and any is as great
as_great : (g : Bool) (x y : ℕ) → choose g (leb x y) (eqb x y) ≡ true → x ≤ y
as_great true x y e = leb-true x y e
as_great false x y e = omega (arith, eqb-true x y e)

equal : (g : Bool) (x y : ℕ) → choose g (leb x y) (eqb x y) ≡ true → g ≡ false → x ≡ y
equal true x y e n = absurd (false≢true (sym n))
equal false x y e n = eqb-true x y e

-- what wears may grow, unless it must stay
module _ (kind code f : ℕ) where
  no_wear : wears kind code f ≡ false → may_grow kind code f ≡ false
  unfolding may_grow
  no_wear e = rw e

  kept_rot : kind ≡ 7 → rots 7 code f ≡ true → may_grow kind code f ≡ false
  unfolding may_grow must_stay
  kept_rot k e = rw (k, e, and-false)

  kept_loss : kind ≡ 7 → holds f (lost_fields code) ≡ true → may_grow kind code f ≡ false
  unfolding may_grow must_stay
  kept_loss k e = rw (k, e, or-true, and-false)

  grows_wears : may_grow kind code f ≡ true → wears kind code f ≡ true
  unfolding may_grow
  grows_wears e = (both (wears kind code f) _ e).0

  -- and what may not grow does not wear, or is rot or a loss of kind 7
  stays : may_grow kind code f ≡ false →
      (wears kind code f ≡ false) ⊎ ((kind ≡ 7) × ((rots 7 code f ≡ true) ⊎ (holds f (lost_fields code) ≡ true)))
  unfolding may_grow must_stay
  stays e = go (wears kind code f) (eqb kind 7) (rots kind code f) (holds f (lost_fields code)) refl refl refl e
    where
      go : (w seven r l : Bool) → eqb kind 7 ≡ seven → rots kind code f ≡ r → holds f (lost_fields code) ≡ l → (w && not (seven && (r || l))) ≡ false →
          (w ≡ false) ⊎ ((kind ≡ 7) × ((rots 7 code f ≡ true) ⊎ (l ≡ true)))
      go false seven r l k a b e = inl refl
      go true false r l k a b e = absurd (false≢true (sym e))
      go true true true l k a b e = let seven = eqb-true kind 7 k in inr (seven, inl (rw seven at a))
      go true true false true k a b e = inr (eqb-true kind 7 k, inr refl)
      go true true false false k a b e = absurd (false≢true (sym e))

-- a record in order, by the test and in plain words
module _ (m m' : Member) where
  pub test_ordered : ordered m m' ≡ true → Ordered m m'
  unfolding ordered
  test_ordered e =
      let at : (f : ℕ) → f < FIELDS → field_ordered m m' f ≡ true = λ f l. all_at (field_ordered m m') FIELDS e f l in
      let same : (f : ℕ) → f < FIELDS → may_grow (field m KIND) (field m CODE) f ≡ false → field m f ≡ field m' f = λ f l. equal (may_grow (field m KIND) (field m CODE) f) _ _ (at f l) in
      record {
        worn =
            record {
              greater = λ f l w. as_great (may_grow (field m KIND) (field m CODE) f) _ _ (at f l);
              alike = λ f l w. same f l (no_wear (field m KIND) (field m CODE) f w);
            };
        same_rot = λ k f l r. same f l (kept_rot (field m KIND) (field m CODE) f k r);
        same_losses = λ k f l r. same f l (kept_loss (field m KIND) (field m CODE) f k r);
      }

  pub ordered_test : Ordered m m' → ordered m m' ≡ true
  unfolding ordered
  ordered_test o = all_of (field_ordered m m') FIELDS (λ f l. go f l (may_grow (field m KIND) (field m CODE) f) refl)
    where
      go : (f : ℕ) → f < FIELDS → (g : Bool) → may_grow (field m KIND) (field m CODE) f ≡ g → choose g (leb (field m f) (field m' f)) (eqb (field m f) (field m' f)) ≡ true
      go f l true e = le-leb _ _ (o.worn.greater f l (grows_wears (field m KIND) (field m CODE) f e))
      go f l false e =
          eq-eqb _ _
          (⊎_elim (λ w. o.worn.alike f l w) (λ (k, s). ⊎_elim (λ r. o.same_rot k f l r) (λ r. o.same_losses k f l r) s)
          (stays (field m KIND) (field m CODE) f e))

-- two surveys, by the tests and in plain words
module _ (first second : List ℕ) where
  -- the records of index i are in order, by the test
  abbrev pub ordered_at : (i : ℕ) → Bool
  ordered_at i = ordered (record_at first i) (record_at second i)

  pub taken_in_order : order_of first second ≡ (Ok tt) → InOrder first second
  taken_in_order e =
      let same = order_count first second e in
      record { count = same; records = λ i l. test_ordered _ _ (all_hold 15 (omega arith) ordered_at (count_of first) (sym (count_alike _ _ _ _ same) ∙ e) i l) }

  pub in_order_taken : InOrder first second → order_of first second ≡ (Ok tt)
  in_order_taken o = count_alike _ _ _ _ o.count ∙ hold_all 15 (omega arith) ordered_at (count_of first) (λ i l. ordered_test _ _ (o.records i l))

  -- the first record that is not in order
  pub first_unordered : count_of first ≡ count_of second → (i : ℕ) → i < count_of first → OrderedBefore first second i →
      ¬ (Ordered (record_at first i) (record_at second i)) →
      order_of first second ≡ refusal 15 (i + 1)
  first_unordered same i l before n =
      count_alike _ _ _ _ same ∙
      first_failing 15 (omega arith) ordered_at i (count_of first) l (λ k b. ordered_test _ _ (before k b)) (refutes (ordered_at i) (test_ordered _ _) n)
