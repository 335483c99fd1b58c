-- Two readings of one record: which tests give which fault, and the tests in plain words.
-- Assumes nothing.
use mathlib.Core.Path.{◌≡◌, refl, sym, ◌∙◌}
use mathlib.Core.Bool.{Bool, true, false, false≢true}
use native.Mathlib.Omega.{arith}
use Rattle.section.proofs.Table.{all_at}
use Rattle.member.specs.Fields.{FIELDS}
use Rattle.member.specs.declared.record.Member.{Member}
use Rattle.files.proofs.Tests.{all_of, refutes}
use Rattle.join.specs.Join.{rule_at, field_agrees, field_near, agreed, close, join_fault}
use Rattle.join.specs.Fault.{Agreed, Close, Joinable}
use Rattle.join.proofs.Rules.{agrees_plain, plain_agrees, near_plain, plain_near}

module _ (m n : Member) where
  -- 18 first, then 19
  pub must_agree_first : agreed m n ≡ false → join_fault m n ≡ 18
  unfolding join_fault
  must_agree_first e = rw e

  pub too_far_next : agreed m n ≡ true → close m n ≡ false → join_fault m n ≡ 19
  unfolding join_fault
  too_far_next e f = rw (e, f)

  pub no_fault : agreed m n ≡ true → close m n ≡ true → join_fault m n ≡ 0
  unfolding join_fault
  no_fault e f = rw (e, f)

  -- the tests of all fields, in plain words
  agreed_plain : agreed m n ≡ true → Agreed m n
  agreed_plain e f l = agrees_plain _ _ (rule_at m f) (all_at (field_agrees m n) FIELDS e f l)

  plain_agreed : Agreed m n → agreed m n ≡ true
  plain_agreed h = all_of (field_agrees m n) FIELDS (λ f l. plain_agrees _ _ (rule_at m f) (h f l))

  close_plain : close m n ≡ true → Close m n
  close_plain e f l = near_plain _ _ (rule_at m f) (all_at (field_near m n) FIELDS e f l)

  plain_close : Close m n → close m n ≡ true
  plain_close h = all_of (field_near m n) FIELDS (λ f l. plain_near _ _ (rule_at m f) (h f l))

  -- the fault in plain words
  pub joinable_clear : Joinable m n → join_fault m n ≡ 0
  joinable_clear j = no_fault (plain_agreed j.agreed) (plain_close j.close)

  pub not_agreed_fault : ¬ (Agreed m n) → join_fault m n ≡ 18
  not_agreed_fault h = must_agree_first (refutes (agreed m n) agreed_plain h)

  pub too_far_fault : Agreed m n → ¬ (Close m n) → join_fault m n ≡ 19
  too_far_fault a h = too_far_next (plain_agreed a) (refutes (close m n) close_plain h)

  -- what two readings of a record are
  pub data Readings : Type 0 where
    may_join : Joinable m n → Readings
    do_not_agree : ¬ (Agreed m n) → Readings
    are_far : Agreed m n → ¬ (Close m n) → Readings

  pub readings_case : Readings
  readings_case = go (agreed m n) (close m n) refl refl
    where
      go : (a c : Bool) → agreed m n ≡ a → close m n ≡ c → Readings
      go true true e f = may_join (record { agreed = agreed_plain e; close = close_plain f })
      go true false e f = are_far (agreed_plain e) (λ h. false≢true (sym f ∙ plain_close h))
      go false c e f = do_not_agree (λ h. false≢true (sym e ∙ plain_agreed h))

  pub clear_joinable : join_fault m n ≡ 0 → Joinable m n
  clear_joinable e = go readings_case
    where
      go : Readings → Joinable m n
      go (may_join j) = j
      go (do_not_agree h) = absurd (omega (arith, not_agreed_fault h))
      go (are_far a h) = absurd (omega (arith, too_far_fault a h))
