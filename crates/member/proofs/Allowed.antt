-- What an allowed record's numbers keep to, read off its kind and code: a test that antt computes over the codes that suit the
-- kind, and the range of the field.
-- Assumes nothing.
use Prim.Native.Nat.{ℕ, suc, ◌-◌, ◌≤◌, ◌<◌}
use mathlib.Core.Path.{◌≡◌, refl, subst, subst₂}
use mathlib.Core.Bool.{Bool, true, false, ◌||◌}
use mathlib.Core.List.{[], ◌∷◌}
use mathlib.Core.Logic.{⊎_elim, ◌⊎◌, inl, inr}
use native.Mathlib.Omega.{arith}
use lib.Dec.{eqb, leb}
use borrow.Author.Tests.{eqb-true, leb-true, le-leb, lt-leb, ne_eqb}
use Rattle.section.specs.Choose.{choose, all}
use Rattle.section.proofs.Crescents.{row_range}
use Rattle.section.proofs.Table.{all_at}
use Rattle.member.specs.Fields.{KIND, SPAN, CODE, S1, S2, S3, S4, S5, S6, FIELDS, LAST_KIND, LAST_CODE, field}
use Rattle.member.specs.Format.{AllowedMember, ◌‥◌, In, used, unused_by_kind, unused_by_code, ranges, range_of, section_range, section_ranges, RangeOfRows, suits, bending}
use Rattle.member.specs.declared.record.Member.{Member}

-- what holds at every code that suits a kind
abbrev implies : Bool → Bool → Bool
implies true b = b
implies false b = true

abbrev pub every_code : (kind : ℕ) → (ℕ → Bool) → Bool
every_code kind P = all (λ c. implies (suits kind (suc c)) (P (suc c))) LAST_CODE

met : (a b : Bool) → implies a b ≡ true → a ≡ true → b ≡ true
met true b h e = h
met false b h e = absurd (mathlib.Core.Bool.false≢true e)

either : (a b : Bool) → (a || b) ≡ true → (a ≡ true) ⊎ (b ≡ true)
either true b h = inl refl
either false b h = inr h

-- a code that suits kind 7, and one that suits kinds 1 and 2
log_or_sawn_is : {P : Type 0} (code : ℕ) → (eqb code 1 || eqb code 2) ≡ true → (code ≡ 1 → P) → (code ≡ 2 → P) → P
log_or_sawn_is code h p1 p2 = ⊎_elim (λ e. p1 (eqb-true _ _ e)) (λ e. p2 (eqb-true _ _ e)) (either (eqb code 1) (eqb code 2) h)

in_bending_is : {P : Type 0} (code : ℕ) → (eqb code 1 || eqb code 2 || eqb code 5) ≡ true → (code ≡ 1 → P) → (code ≡ 2 → P) → (code ≡ 5 → P) → P
in_bending_is code h p1 p2 p5 =
    ⊎_elim (λ t. log_or_sawn_is code t p1 p2) (λ e. p5 (eqb-true _ _ e)) (either (eqb code 1 || eqb code 2) (eqb code 5) h)

-- a code that suits a kind is one of the table's
pub code_range : (kind code : ℕ) → suits kind code ≡ true → In (1 ‥ LAST_CODE) code
unfolding suits
code_range kind code h = go (leb kind 2) (eqb kind 3) (eqb kind 4) (eqb kind 7) h
  where
    is : (c : ℕ) → In (1 ‥ LAST_CODE) c → code ≡ c → In (1 ‥ LAST_CODE) code
    is c r e = rw e r

    go : (t u v w : Bool) → choose t (eqb code 1 || eqb code 2 || eqb code 5) (choose u (eqb code 2) (choose v (eqb code 3) (choose w (eqb code 1 || eqb code 2) (eqb code 4)))) ≡ true →
        In (1 ‥ LAST_CODE) code
    go true u v w h = in_bending_is code h (is 1 (omega arith)) (is 2 (omega arith)) (is 5 (omega arith))
    go false true v w h = is 2 (omega arith) (eqb-true _ _ h)
    go false false true w h = is 3 (omega arith) (eqb-true _ _ h)
    go false false false true h = log_or_sawn_is code h (is 1 (omega arith)) (is 2 (omega arith))
    go false false false false h = is 4 (omega arith) (eqb-true _ _ h)

-- what holds of every code of the table holds of one that suits a kind
pub of_code : (P : ℕ → Bool) → all (λ c. P (suc c)) LAST_CODE ≡ true → (kind code : ℕ) → suits kind code ≡ true → P code ≡ true
of_code P t kind code s =
    let r = code_range kind code s in
    let there : suc (code - 1) ≡ code = omega (arith, r) in
    rw there at (all_at (λ c. P (suc c)) LAST_CODE t (code - 1) (omega (arith, r)))

pub every_code_lem : (kind : ℕ) (P : ℕ → Bool) → every_code kind P ≡ true → (code : ℕ) → suits kind code ≡ true → P code ≡ true
every_code_lem kind P t code s = met (suits kind code) (P code) (of_code (λ c. implies (suits kind c) (P c)) t kind code s) s

module _ {m : Member} (a : AllowedMember m) where
  -- the range of a field that a kind uses whatever its code
  pub in_range : (kind f : ℕ) → field m KIND ≡ kind → f < FIELDS → every_code kind (λ code. used kind code f) ≡ true →
      In (range_of kind (field m CODE) (field m SPAN) f) (field m f)
  in_range kind f e h t =
      subst (λ (k : ℕ). used k (field m CODE) f ≡ true → In (range_of k (field m CODE) (field m SPAN) f) (field m f)) e (a.range f h)
      (every_code_lem kind (λ code. used kind code f) t (field m CODE) (subst (λ (k : ℕ). suits k (field m CODE) ≡ true) e a.section))

  -- the range of a field that a kind and a code use
  pub in_range_of : (kind code f : ℕ) → field m KIND ≡ kind → field m CODE ≡ code → f < FIELDS → used kind code f ≡ true →
      In (range_of kind code (field m SPAN) f) (field m f)
  in_range_of kind code f e c h t =
      subst₂ (λ (k d : ℕ). used k d f ≡ true → In (range_of k d (field m SPAN) f) (field m f)) e c (a.range f h) t

pub range_of_rows : RangeOfRows
unfolding section_range section_ranges
range_of_rows d = (λ h. ((row_range d).1 h, omega (arith, h)), λ h. (row_range d).0 h.0)

-- the sizes of the sections, by code; those of codes 1 and 5 from their least diameter to their greatest
pub record LogSizes (m : Member) (least greatest : ℕ) : Type 0 where
  pub diameter_low : least ≤ field m S1
  pub diameter_high : field m S1 ≤ greatest
  pub rot : field m S2 ≤ 60
  pub tiers_low : 1 ≤ field m S3
  pub tiers_high : field m S3 ≤ 3

pub record SawnSizes (m : Member) : Type 0 where
  pub width : field m S1 ≤ 60
  pub height : field m S2 ≤ 60
  pub pieces : field m S5 ≤ 40

pub record DowelSizes (m : Member) : Type 0 where
  pub diameter : field m S2 ≤ 60
  pub middle : field m S3 ≤ 60
  pub outer : field m S4 ≤ 60
  pub cuts : field m S6 ≤ 200

-- a field that this code uses whatever the kind
abbrev every_kind : (code f : ℕ) → Bool
every_kind code f = all (λ k. used (suc k) code f) LAST_KIND

module _ {m : Member} (a : AllowedMember m) where
  -- the range of a section field that a code uses whatever the kind
  of_section : (code f : ℕ) → field m CODE ≡ code → f < FIELDS → every_kind code f ≡ true → In (range_of (field m KIND) code (field m SPAN) f) (field m f)
  of_section code f c h t =
      let there : suc (field m KIND - 1) ≡ field m KIND = omega (arith, a.kind) in
      in_range_of a (field m KIND) code f refl c h
      (rw there at (all_at (λ k. used (suc k) code f) LAST_KIND t (field m KIND - 1) (omega (arith, a.kind))))

  -- the logs of codes 1 and 5 have s1 to s3
  logs : (code least greatest : ℕ) → field m CODE ≡ code → section_ranges code ≡ least ‥ greatest ∷ 0 ‥ 60 ∷ 1 ‥ 3 ∷ [] →
      every_kind code S1 ≡ true → every_kind code S2 ≡ true → every_kind code S3 ≡ true →
      LogSizes m least greatest
  unfolding range_of ranges section_range
  logs code least greatest c r u1 u2 u3 =
      let s1 = rw r at (of_section code S1 c (omega arith) u1) in
      let s2 = rw r at (of_section code S2 c (omega arith) u2) in
      let s3 = rw r at (of_section code S3 c (omega arith) u3) in
      record { diameter_low = s1.0; diameter_high = s1.1; rot = s2.1; tiers_low = s3.0; tiers_high = s3.1 }

  pub log_sizes : field m CODE ≡ 1 → LogSizes m 13 39
  unfolding used unused_by_kind unused_by_code bending section_ranges
  log_sizes c = logs 1 13 39 c refl refl refl refl

  pub crescent_sizes : field m CODE ≡ 5 → LogSizes m 14 36
  unfolding used unused_by_kind unused_by_code bending section_ranges
  crescent_sizes c = logs 5 14 36 c refl refl refl refl

  pub sawn_sizes : field m CODE ≡ 2 → SawnSizes m
  unfolding used unused_by_kind unused_by_code bending range_of ranges section_range section_ranges
  sawn_sizes c =
      record {
        width = (of_section 2 S1 c (omega arith) refl).1;
        height = (of_section 2 S2 c (omega arith) refl).1;
        pieces = (of_section 2 S5 c (omega arith) refl).1;
      }

  -- the codes in bending
  pub code_of_stringer : {P : Type 0} → field m KIND ≤ 2 → (field m CODE ≡ 1 → P) → (field m CODE ≡ 2 → P) → (field m CODE ≡ 5 → P) → P
  unfolding suits
  code_of_stringer h = in_bending_is (field m CODE) (rw (le-leb (field m KIND) 2 h) at a.section)

  pub code_of_close : {P : Type 0} → field m KIND ≡ 7 → (field m CODE ≡ 1 → P) → (field m CODE ≡ 2 → P) → P
  unfolding suits
  code_of_close e = log_or_sawn_is (field m CODE) (rw e at a.section)

  pub code_in_bending : {P : Type 0} → bending (field m KIND) ≡ true → (field m CODE ≡ 1 → P) → (field m CODE ≡ 2 → P) → (field m CODE ≡ 5 → P) → P
  unfolding bending
  code_in_bending h p1 p2 p5 =
      ⊎_elim (λ t. code_of_stringer (leb-true _ _ t) p1 p2 p5) (λ t. code_of_close (eqb-true _ _ t) p1 p2) (either (leb (field m KIND) 2) (eqb (field m KIND) 7) h)

  -- the code of the other kinds
  pub chord_code : field m KIND ≡ 3 → field m CODE ≡ 2
  unfolding suits
  chord_code e = eqb-true _ _ (rw e at a.section)

  pub dowel_code : field m KIND ≡ 4 → field m CODE ≡ 3
  unfolding suits
  dowel_code e = eqb-true _ _ (rw e at a.section)

  pub area_code : 5 ≤ field m KIND → field m KIND ≤ 6 → field m CODE ≡ 4
  unfolding suits
  area_code h l = eqb-true _ _ (rw (lt-leb (field m KIND) 2 (omega arith), ne_eqb (field m KIND) 3 (omega arith), ne_eqb (field m KIND) 4 (omega arith), ne_eqb (field m KIND) 7 (omega arith)) at a.section)

  pub area_size : field m CODE ≡ 4 → field m S1 ≤ 10000
  unfolding used unused_by_kind unused_by_code bending range_of ranges section_range section_ranges
  area_size c = (of_section 4 S1 c (omega arith) refl).1

  pub dowel_sizes : field m CODE ≡ 3 → DowelSizes m
  unfolding used unused_by_kind unused_by_code bending range_of ranges section_range section_ranges
  dowel_sizes c =
      record {
        diameter = (of_section 3 S2 c (omega arith) refl).1;
        middle = (of_section 3 S3 c (omega arith) refl).1;
        outer = (of_section 3 S4 c (omega arith) refl).1;
        cuts = (of_section 3 S6 c (omega arith) refl).1;
      }
