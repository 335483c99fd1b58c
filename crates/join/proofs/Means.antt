-- A mean outside its range cannot arise: what two allowed readings of a record give is an allowed record.
-- Assumes nothing.
use Prim.Native.Nat.{ℕ, ◌≤◌, ◌<◌}
use mathlib.Core.Path.{◌≡◌, refl, sym, subst, ◌∙◌}
use mathlib.Core.Bool.{Bool, true, false}
use mathlib.Core.List.{[], ◌∷◌}
use mathlib.Core.Logic.{inl, inr, ⊎_elim}
use native.Mathlib.Decide.{ℕ_discrete}
use native.Mathlib.Omega.{arith}
use lib.Dec.{eqb}
use Rattle.member.specs.Fields.{KIND, SPAN, SPACING, DISTANCE, HEIGHT, DEAD_LOAD, CODE, S1, S2, S3, S4, MU_A, MU_B, FIELDS, field}
use Rattle.member.specs.Format.{In, holds, used, range_of, AllowedMember}
use Rattle.member.specs.declared.record.Member.{Member}
use Rattle.member.proofs.Ranges.{same_range, longer_range}
use Rattle.member.proofs.Wears.{neither_holds, Outside, unlike, no_rot, no_loss}
use Rattle.files.proofs.Each.{getD_each}
use Rattle.files.proofs.Tests.{neither}
use Rattle.join.specs.Rule.{size_fields, section_rule, rule_of}
use Rattle.join.specs.Join.{rule_at, joined_field, joined_member}
use Rattle.join.specs.Fault.{Agree, Agreed}
use Rattle.join.specs.Claims.{LiesBetween}
use Rattle.join.specs.declared.rule.Rule.{Rule}
use Rattle.join.specs.declared.rule.Rule.TheVariants.{MustAgree}
use Rattle.join.proofs.Rules.{mean_between, between_range}

-- what is none of a section's fields, nor one of span, spacing, height and dead load, must agree
no_size : (f : ℕ) → Outside f → (code : ℕ) → holds f (size_fields code) ≡ false
unfolding size_fields
no_size f o code =
    let one : holds f (S1 ∷ []) ≡ false = rw (unlike f o S1 (omega arith) (omega arith)) in
    neither_holds f (eqb code 1) _ _ one
    (neither_holds f (eqb code 2) _ _ (rw (unlike f o S1 (omega arith) (omega arith), unlike f o S2 (omega arith) (omega arith)))
    (neither_holds f (eqb code 3) _ _ (rw (unlike f o S3 (omega arith) (omega arith), unlike f o S4 (omega arith) (omega arith)))
    (neither_holds f (eqb code 4) _ _ one (neither_holds f (eqb code 5) _ _ one refl))))

outside_agrees : (f : ℕ) → Outside f → (code : ℕ) → section_rule code f ≡ MustAgree
unfolding section_rule
outside_agrees f o code = rw (no_size f o code, no_rot f o code, no_loss f o code)

module _ (kind code : ℕ) where
  rest_agrees : (f : ℕ) → Outside f → holds f (SPAN ∷ SPACING ∷ HEIGHT ∷ DEAD_LOAD ∷ []) ≡ false → rule_of kind code f ≡ MustAgree
  unfolding rule_of
  rest_agrees f o e =
      let (span, a) = neither (eqb f SPAN) _ e in
      let (spacing, b) = neither (eqb f SPACING) _ a in
      let (height, c) = neither (eqb f HEIGHT) _ b in
      let (dead, d) = neither (eqb f DEAD_LOAD) _ c in
      rw (span, spacing, height, dead) (outside_agrees f o code)

  pub kind_agrees : rule_of kind code KIND ≡ MustAgree
  kind_agrees = rest_agrees KIND (inl (omega arith)) refl

  pub code_agrees : rule_of kind code CODE ≡ MustAgree
  code_agrees = rest_agrees CODE (inl (omega arith)) refl

-- fields that must agree
module _ (m n : Member) (g : Agreed m n) where
  pub same_field : (f : ℕ) → f < FIELDS → rule_at m f ≡ MustAgree → field m f ≡ field n f
  same_field f l e = subst (λ (r : Rule). Agree r (field m f) (field n f)) e (g f l)

  pub joined_field_lem : (f : ℕ) → f < FIELDS → field (joined_member m n) f ≡ joined_field m n f
  unfolding joined_member
  joined_field_lem f l = getD_each (joined_field m n) FIELDS f 0 l

  pub joined_between : (f : ℕ) → f < FIELDS → LiesBetween (field m f) (field n f) (field (joined_member m n) f)
  joined_between f l = rw (joined_field_lem f l) (mean_between (field m f) (field n f) (rule_at m f) (g f l))

  joined_same : (f : ℕ) → f < FIELDS → rule_at m f ≡ MustAgree → field (joined_member m n) f ≡ field m f
  joined_same f l e = joined_field_lem f l ∙ rw e

  kind_kept : field (joined_member m n) KIND ≡ field m KIND
  kind_kept = joined_same KIND (omega arith) (kind_agrees _ _)

  code_kept : field (joined_member m n) CODE ≡ field m CODE
  code_kept = joined_same CODE (omega arith) (code_agrees _ _)

  kind_same : field m KIND ≡ field n KIND
  kind_same = same_field KIND (omega arith) (kind_agrees _ _)

  code_same : field m CODE ≡ field n CODE
  code_same = same_field CODE (omega arith) (code_agrees _ _)

  module _ (a : AllowedMember m) (b : AllowedMember n) where
    abbrev Used : (f : ℕ) → Bool → Type 0
    Used f t = used (field m KIND) (field m CODE) f ≡ t

    unused_second : (f : ℕ) → f < FIELDS → Used f false → field n f ≡ 0
    unused_second f l u = b.unused f l (rw (← kind_same, ← code_same) u)

    range_second : (f : ℕ) → f < FIELDS → Used f true → In (range_of (field m KIND) (field m CODE) (field n SPAN) f) (field n f)
    range_second f l u = rw (kind_same, code_same) (b.range f l (rw (← kind_same, ← code_same) u))

    -- the joined span is no shorter than the shorter one, so x, which both have, still lies within it
    distance_in_range : Used DISTANCE true → In (range_of (field m KIND) (field m CODE) (field (joined_member m n) SPAN) DISTANCE) (field (joined_member m n) DISTANCE)
    distance_in_range u =
        let rule = rest_agrees (field m KIND) (field m CODE) DISTANCE (inl (omega arith)) refl in
        let same = same_field DISTANCE (omega arith) rule in
        let first = a.range DISTANCE (omega arith) u in
        let second = rw (← same) at (range_second DISTANCE (omega arith) u) in
        let wider : (l : ℕ) → l ≤ field (joined_member m n) SPAN → In (range_of (field m KIND) (field m CODE) l DISTANCE) (field m DISTANCE) → In (range_of (field m KIND) (field m CODE) (field (joined_member m n) SPAN) DISTANCE) (field m DISTANCE) =
        λ l h r. longer_range (field m KIND) (field m CODE) l _ _ h r in
        rw (joined_same DISTANCE (omega arith) rule)
        (⊎_elim (λ h. wider (field m SPAN) h.0 first) (λ h. wider (field n SPAN) h.0 second) (joined_between SPAN (omega arith)))

    in_range : (f : ℕ) → f < FIELDS → Used f true → In (range_of (field m KIND) (field m CODE) (field (joined_member m n) SPAN) f) (field (joined_member m n) f)
    in_range f l u =
        elim (ℕ_discrete f DISTANCE) [
          | yes e ↦
              subst (λ (k : ℕ). Used k true → In (range_of (field m KIND) (field m CODE) (field (joined_member m n) SPAN) k) (field (joined_member m n) k)) (sym e) distance_in_range u
          | no d ↦
              let first = same_range (field m KIND) (field m CODE) (field (joined_member m n) SPAN) (field m SPAN) f d in
              let second = same_range (field m KIND) (field m CODE) (field m SPAN) (field n SPAN) f d in
              rw first
              (between_range (range_of (field m KIND) (field m CODE) (field m SPAN) f) (field m f) (field n f) (field (joined_member m n) f) (a.range f l u) (rw second (range_second f l u)) (joined_between f l))
        ]

    -- a field that neither uses is 0
    stays_zero : (f : ℕ) → f < FIELDS → Used f false → field (joined_member m n) f ≡ 0
    stays_zero f l u =
        let first = a.unused f l u in
        let second = unused_second f l u in
        ⊎_elim (λ h. omega (arith, h.1)) (λ h. omega (arith, h.1)) (joined_between f l)

    pub joined_allowed : AllowedMember (joined_member m n)
    joined_allowed =
        record {
          kind = rw kind_kept a.kind;
          section = rw (kind_kept, code_kept) a.section;
          unused = λ f l u. stays_zero f l (rw (kind_kept, code_kept) at u);
          range = λ f l u. rw (kind_kept, code_kept) (in_range f l (rw (kind_kept, code_kept) at u));
          ordered = λ k.
              let rule = rest_agrees (field m KIND) (field m CODE) in
              let above = joined_same MU_A (omega arith) (rule MU_A (inr (omega arith)) refl) in
              let below = joined_same MU_B (omega arith) (rule MU_B (inr (omega arith)) refl) in
              rw (above, below) (a.ordered (rw kind_kept at k));
        }
