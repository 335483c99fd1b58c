-- `join_fault` meets its contract: each of the two tests asks for every field.
-- Assumes nothing.
use mathlib.Core.Path.{◌≡◌, refl, sym, ◌∙◌}
use mathlib.Core.Bool.{true, false}
use Rattle.std.proofs.Common.{rules}
use Rattle.std.proofs.lemmas.Iterator.{cases_from_all, YieldsList-from_range}
use Rattle.member.specs.Fields.{FIELDS}
use Rattle.files.proofs.Tests.{all_indices}
use Rattle.join.specs.Join.{field_agrees, field_near, agreed, close}
use Rattle.join.proofs.Records.{must_agree_first, too_far_next, no_fault}
use Rattle.join.proofs.record.join_fault.Goals as goal
use Rattle.join.proofs.record.join_fault.Goals.{After-all, After-all-2}

agreed_is : (c : After-all) → c.all.result ≡ agreed c.args.m c.args.n
agreed_is c =
    let test = field_agrees c.args.m c.args.n in
    all_indices test FIELDS c.all.result
    (cases_from_all _ _ c.all.result (λ f. test f ≡ true) (λ f. test f ≡ false) c.all.ensures.ran (YieldsList-from_range 0 FIELDS FIELDS refl refl) (λ x q k. search rules)
    (λ x q k. search rules))

close_is : (c : After-all-2) → c.all-2.result ≡ close c.args.m c.args.n
close_is c =
    let test = field_near c.args.m c.args.n in
    all_indices test FIELDS c.all-2.result
    (cases_from_all _ _ c.all-2.result (λ f. test f ≡ true) (λ f. test f ≡ false) c.all-2.ensures.ran (YieldsList-from_range 0 FIELDS FIELDS refl refl) (λ x q k. search rules)
    (λ x q k. search rules))

pub returns-then-not-all : goal.returns-then-not-all
returns-then-not-all c = sym (must_agree_first _ _ (sym (agreed_is (goal.at.returns-then-not-all c).After-all) ∙ c.if-not-all.true))

pub returns-then-not-all-2 : goal.returns-then-not-all-2
returns-then-not-all-2 c =
    let at = goal.at.returns-then-not-all-2 c in
    sym (too_far_next _ _ (sym (agreed_is at.After-all) ∙ c.if-not-all.false) (sym (close_is at.After-all-2) ∙ c.if-not-all-2.true))

pub returns : goal.returns
returns c =
    let at = goal.at.returns c in
    sym (no_fault _ _ (sym (agreed_is at.After-all) ∙ c.if-not-all.false) (sym (close_is at.After-all-2) ∙ c.if-not-all-2.false))
