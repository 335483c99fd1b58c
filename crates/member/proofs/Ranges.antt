-- The range of a field: only that of x goes by another field, the span; and no number of an allowed record is above 10,000.
-- Assumes nothing.
use Prim.Native.Nat.{ℕ, zero, suc, ◌-◌, ◌≤◌, ◌<◌}
use mathlib.Core.Path.{◌≡◌, refl, sym, subst}
use mathlib.Core.Bool.{Bool, true, false}
use native.Mathlib.Decide.{ℕ_discrete}
use native.Mathlib.Omega.{arith}
use lib.Dec.{eqb, leb}
use borrow.Author.Tests.{leb-true}
use Rattle.section.specs.Choose.{choose, all}
use Rattle.section.proofs.Table.{all_at}
use Rattle.member.specs.Fields.{KIND, SPAN, DISTANCE, CODE, FIELDS, LAST_KIND, LAST_CODE, field}
use Rattle.member.specs.Format.{◌‥◌, In, used, ranges, range_of, section_range, section_ranges, AllowedMember}
use Rattle.member.specs.declared.record.Member.{Member}
use Rattle.member.proofs.Allowed.{of_code}

module _ (kind code : ℕ) where
  -- the range of a field goes by the span only for x, whose range a longer span widens
  pub same_range : (l l' f : ℕ) → ¬ (f ≡ DISTANCE) → range_of kind code l f ≡ range_of kind code l' f
  unfolding range_of ranges
  same_range l l' zero d = refl
  same_range l l' (suc zero) d = refl
  same_range l l' (suc (suc zero)) d = refl
  same_range l l' (suc (suc (suc zero))) d = refl
  same_range l l' (suc (suc (suc (suc zero)))) d = absurd (d refl)
  same_range l l' (suc (suc (suc (suc (suc f))))) d = refl

  pub longer_range : (l l' x : ℕ) → l ≤ l' → In (range_of kind code l DISTANCE) x → In (range_of kind code l' DISTANCE) x
  unfolding range_of ranges
  longer_range l l' x h = go (eqb kind 7) (eqb kind 2)
    where
      go : (seven two : Bool) → In (choose seven (1 ‥ 10) (choose two (10 ‥ 1000) (1 ‥ (l - 1)))) x → In (choose seven (1 ‥ 10) (choose two (10 ‥ 1000) (1 ‥ (l' - 1)))) x
      go true two r = r
      go false true r = r
      go false false r = (r.0, omega (arith, r.1))

-- no number of an allowed record is above 10,000: a test that is computed over kinds, codes and fields, at the longest span
abbrev capped : (code : ℕ) → Bool
capped code = all (λ k. all (λ f. leb (range_of (suc k) code 5000 f).high 10000) FIELDS) LAST_KIND

cap_table : all (λ c. capped (suc c)) LAST_CODE ≡ true
unfolding range_of ranges section_range section_ranges
cap_table = refl

module _ {m : Member} (a : AllowedMember m) where
  high_cap : (f : ℕ) → f < FIELDS → (range_of (field m KIND) (field m CODE) 5000 f).high ≤ 10000
  high_cap f l =
      let of-kinds = of_code capped cap_table (field m KIND) (field m CODE) a.section in
      let k : ℕ = field m KIND - 1 in
      let there : suc k ≡ field m KIND = omega (arith, a.kind) in
      let of_Fields = all_at (λ k. all (λ f. leb (range_of (suc k) (field m CODE) 5000 f).high 10000) FIELDS) LAST_KIND of-kinds k (omega (arith, a.kind)) in
      let at : (range_of (suc k) (field m CODE) 5000 f).high ≤ 10000 = leb-true _ _ (all_at (λ f. leb (range_of (suc k) (field m CODE) 5000 f).high 10000) FIELDS of_Fields f l) in
      subst (λ (kind : ℕ). (range_of kind (field m CODE) 5000 f).high ≤ 10000) there at

  span_cap : field m SPAN ≤ 5000
  unfolding range_of ranges
  span_cap = go (used (field m KIND) (field m CODE) SPAN) refl
    where
      go : (b : Bool) → used (field m KIND) (field m CODE) SPAN ≡ b → field m SPAN ≤ 5000
      go true u = (a.range SPAN (omega arith) u).1
      go false u = omega (arith, a.unused SPAN (omega arith) u)

  pub number_cap : (f : ℕ) → f < FIELDS → field m f ≤ 10000
  number_cap f l = go (used (field m KIND) (field m CODE) f) refl
    where
      longest : In (range_of (field m KIND) (field m CODE) (field m SPAN) f) (field m f) → In (range_of (field m KIND) (field m CODE) 5000 f) (field m f)
      longest r =
          elim (ℕ_discrete f DISTANCE) [
            | yes e ↦
                subst (λ (k : ℕ). In (range_of (field m KIND) (field m CODE) (field m SPAN) k) (field m k) → In (range_of (field m KIND) (field m CODE) 5000 k) (field m k)) (sym e)
                (longer_range (field m KIND) (field m CODE) (field m SPAN) 5000 (field m DISTANCE) span_cap)
                r
            | no d ↦ rw (same_range (field m KIND) (field m CODE) 5000 (field m SPAN) f d) r
          ]

      go : (b : Bool) → used (field m KIND) (field m CODE) f ≡ b → field m f ≤ 10000
      go true u = omega (arith, (longest (a.range f l u)).1, high_cap f l)
      go false u = omega (arith, a.unused f l u)
