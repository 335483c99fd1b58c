-- The table of rules has the document's two lists: of the fields that must agree, and of those whose odd half goes up. Each is a test that is computed
-- over kinds, codes and fields.
-- Assumes nothing.
use Prim.Native.Nat.{ℕ, suc, ◌+◌, ◌-◌, ◌/◌}
use mathlib.Core.Path.{◌≡◌, refl, sym, ap, subst, ◌∙◌}
use mathlib.Core.Bool.{Bool, true, false, not, ◌||◌, false≢true}
use native.Mathlib.Omega.{arith}
use Rattle.section.specs.Choose.{choose, all}
use Rattle.section.proofs.Table.{all_at}
use Rattle.member.specs.Fields.{FIELDS, LAST_KIND}
use Rattle.member.specs.Format.{holds, used, unused_by_kind, unused_by_code, bending, suits}
use Rattle.member.specs.Wear.{rot_fields, lost_fields}
use Rattle.member.proofs.Allowed.{every_code, every_code_lem}
use Rattle.files.proofs.Tests.{either}
use Rattle.join.specs.Rule.{size_fields, section_rule, height_rule, rule_of, goes_up, agreeing, joined_number}
use Rattle.join.specs.Fault.{Agree}
use Rattle.join.specs.Claims.{UsedField, ListedMustAgree, MeanTaken}
use Rattle.join.specs.declared.rule.Rule.{Rule}
use Rattle.join.specs.declared.rule.Rule.TheVariants.{MustAgree, MeanUp, MeanDown, AnyMeanUp}

-- a test of every used field of every kind and code
module _ (test : (kind code f : ℕ) → Bool) where
  abbrev if_used : (kind code f : ℕ) → Bool
  if_used kind code f = not (used kind code f) || test kind code f

  abbrev every_field : Bool
  every_field = all (λ k. every_code (suc k) (λ code. all (if_used (suc k) code) FIELDS)) LAST_KIND

  every_field_lem : every_field ≡ true → (kind code f : ℕ) → UsedField kind code f → test kind code f ≡ true
  every_field_lem table kind code f u =
      let k : ℕ = kind - 1 in
      let there : suc k ≡ kind = omega (arith, u.kind_known) in
      let codes : every_code kind (λ c. all (if_used kind c) FIELDS) ≡ true =
      subst (λ (n : ℕ). every_code n (λ c. all (if_used n c) FIELDS) ≡ true) there (all_at (λ n. every_code (suc n) (λ c. all (if_used (suc n) c) FIELDS)) LAST_KIND table k (omega (arith, u.kind_known))) in
      let fields = every_code_lem kind (λ c. all (if_used kind c) FIELDS) codes code u.section in
      either (not (used kind code f)) _ (all_at (if_used kind code) FIELDS fields f u.there) (rw u.uses)

-- the rule asks agreement
abbrev is_must : Rule → Bool
is_must MustAgree = true
is_must (MeanUp apart) = false
is_must (MeanDown apart) = false
is_must AnyMeanUp = false

must_is : (r : Rule) → is_must r ≡ true → r ≡ MustAgree
must_is MustAgree e = refl
must_is (MeanUp apart) e = absurd (false≢true e)
must_is (MeanDown apart) e = absurd (false≢true e)
must_is AnyMeanUp e = absurd (false≢true e)

-- two tests with the same answer
abbrev same : Bool → Bool → Bool
same a b = choose a b (not b)

same_answer : (a b : Bool) → same a b ≡ true → a ≡ b
same_answer true b e = sym e
same_answer false true e = absurd (false≢true e)
same_answer false false e = refl

abbrev listed : (kind code f : ℕ) → Bool
listed kind code f = same (is_must (rule_of kind code f)) (holds f (agreeing kind code))

listed_table : every_field listed ≡ true
unfolding suits used unused_by_kind unused_by_code bending rot_fields lost_fields size_fields section_rule height_rule rule_of agreeing
listed_table = refl

pub listed_must_agree : ListedMustAgree
listed_must_agree kind code f u =
    let is = same_answer (is_must (rule_of kind code f)) (holds f (agreeing kind code)) (every_field_lem listed listed_table kind code f u) in
    (λ e. sym is ∙ ap is_must e, λ h. must_is _ (is ∙ h))

-- the rule's odd half goes up, or down; of what must agree there is none
abbrev rounds : Rule → (up : Bool) → Bool
rounds MustAgree up = true
rounds (MeanUp apart) up = up
rounds (MeanDown apart) up = not up
rounds AnyMeanUp up = up

mean_by : (r : Rule) (up : Bool) (x y : ℕ) → rounds r up ≡ true → Agree r x y → joined_number r x y ≡ choose up ((x + y + 1) / 2) ((x + y) / 2)
mean_by MustAgree true x y t h = omega arith
mean_by MustAgree false x y t h = omega arith
mean_by (MeanUp apart) true x y t h = refl
mean_by (MeanUp apart) false x y t h = absurd (false≢true t)
mean_by (MeanDown apart) true x y t h = absurd (false≢true t)
mean_by (MeanDown apart) false x y t h = refl
mean_by AnyMeanUp true x y t h = refl
mean_by AnyMeanUp false x y t h = absurd (false≢true t)

abbrev rounded : (kind code f : ℕ) → Bool
rounded kind code f = rounds (rule_of kind code f) (holds f (goes_up code))

rounded_table : every_field rounded ≡ true
unfolding suits used unused_by_kind unused_by_code bending rot_fields lost_fields size_fields section_rule height_rule rule_of goes_up
rounded_table = refl

pub mean_taken : MeanTaken
mean_taken kind code f x y u h = mean_by (rule_of kind code f) (holds f (goes_up code)) x y (every_field_lem rounded rounded_table kind code f u) h
