-- A survey between two in order is in order with both, and of two in order the second has no higher permitted loads, no higher figure, and
-- no pass where the first has refuse: demand 3 of the same vehicle.
-- Assumes nothing.
use Prim.Native.Nat.{ℕ, ◌≤◌, ◌<◌}
use mathlib.Core.Path.{◌≡◌, refl, sym, ◌∙◌}
use mathlib.Core.Bool.{Bool, true, false}
use mathlib.Core.List.{List}
use native.Mathlib.Omega.{arith}
use lib.ListN.{length}
use Rattle.member.specs.Fields.{KIND, CODE, FIELDS, field}
use Rattle.member.specs.Format.{AllowedMember}
use Rattle.member.specs.Wear.{rot_fields, lost_fields, rots, wears, Worn}
use Rattle.member.specs.declared.record.Member.{Member}
use Rattle.member.specs.declared.record.Vehicle.{Vehicle}
use Rattle.member.proofs.Falling.{same}
use Rattle.rating.specs.Compare.{Heavier, SamePlaces, SpreadsKept}
use Rattle.rating.specs.Judgement.{judgement_of}
use Rattle.rating.specs.Surveyed.{member_at, AllowedMembers}
use Rattle.rating.specs.declared.judging.Verdict.TheVariants.{Refuse}
use Rattle.rating.proofs.Judged.{permitted_falls, figure_falls, bridge_stays_refused, same_places}
use Rattle.surveys.specs.Allowed.{AllowedSurveyFile}
use Rattle.surveys.specs.SurveyFile.{count_of, record_at, records_of}
use Rattle.files.proofs.Each.{length_each, getD_each}
use Rattle.between.specs.Order.{Ordered, InOrder, LiesBetween}
use Rattle.between.specs.Between.{permitted_in, verdict_in}

-- a record between two in order
module _ {m t m' : Member} (a : AllowedMember m) (b : AllowedMember t) (o : Ordered m m') (at : (f : ℕ) → f < FIELDS → (field m f ≤ field t f) × (field t f ≤ field m' f)) where
  -- where the two are equal, so is the third
  low_same : (f : ℕ) → f < FIELDS → field m f ≡ field m' f → field m f ≡ field t f
  low_same f l e = omega (arith, at f l)

  high_same : (f : ℕ) → f < FIELDS → field m f ≡ field m' f → field t f ≡ field m' f
  high_same f l e = omega (arith, at f l)

  low_worn : Worn m t
  low_worn = record { greater = λ f l w. (at f l).0; alike = λ f l w. low_same f l (o.worn.alike f l w) }

  pub low_ordered : Ordered m t
  low_ordered =
      record {
        worn = low_worn;
        same_rot = λ k f l r. low_same f l (o.same_rot k f l r);
        same_losses = λ k f l r. low_same f l (o.same_losses k f l r);
      }

  kind_same : field m KIND ≡ field t KIND
  unfolding wears rots rot_fields lost_fields
  kind_same = same a b low_worn KIND refl (omega arith)

  code_same : field m CODE ≡ field t CODE
  unfolding wears rots rot_fields lost_fields
  code_same = same a b low_worn CODE refl (omega arith)

  pub high_ordered : Ordered t m'
  high_ordered =
      record {
        worn =
            record {
              greater = λ f l w. (at f l).1;
              alike = λ f l w. high_same f l (o.worn.alike f l (rw (kind_same, code_same) w));
            };
        same_rot = λ k f l r. high_same f l (o.same_rot (kind_same ∙ k) f l (rw code_same r));
        same_losses = λ k f l r. high_same f l (o.same_losses (kind_same ∙ k) f l (rw code_same r));
      }

-- a survey between two in order
module _ {first third second : List ℕ} (a : AllowedSurveyFile first) (b : AllowedSurveyFile third) (o : InOrder first second) (between : LiesBetween first third second) where
  pub low_in_order : InOrder first third
  low_in_order =
      record {
        count = sym between.count;
        records = λ i l. low_ordered (a.members i l) (b.members i (rw between.count l)) (o.records i l) (λ f k. between.fields i f l k);
      }

  pub high_in_order : InOrder third second
  high_in_order =
      record {
        count = between.count ∙ o.count;
        records = λ i k.
            let l : i < count_of first = rw between.count at k in
            high_ordered (a.members i l) (b.members i k) (o.records i l) (λ f h. between.fields i f l h);
      }

-- no number of a worn record is less
worn_grows : (m m' : Member) → Worn m m' → (f : ℕ) → f < FIELDS → field m f ≤ field m' f
worn_grows m m' w f l = go (wears (field m KIND) (field m CODE) f) refl
  where
    go : (b : Bool) → wears (field m KIND) (field m CODE) f ≡ b → field m f ≤ field m' f
    go true e = w.greater f l e
    go false e = omega (arith, w.alike f l e)

-- the two themselves
pub ends_between : {first second : List ℕ} → InOrder first second → LiesBetween first first second × LiesBetween first second second
ends_between {first} {second} o = (
  record { count = refl; fields = λ i f l k. (omega arith, grown i f l k) },
  record { count = sym o.count; fields = λ i f l k. (grown i f l k, omega arith) },
)
  where
    grown : (i f : ℕ) → i < count_of first → f < FIELDS → field (record_at first i) f ≤ field (record_at second i) f
    grown i f l k = worn_grows (record_at first i) (record_at second i) (o.records i l).worn f k

alike_vehicle : (v : Vehicle) → Heavier v v
alike_vehicle v = record { class = refl; track = refl; axles = omega arith; weights = λ i l. omega arith; distances = λ i l. refl }

pub record_at_lem : (bytes : List ℕ) (i : ℕ) → i < count_of bytes → member_at (records_of bytes) i ≡ record_at bytes i
record_at_lem bytes i l = getD_each (record_at bytes) (count_of bytes) i _ l

pub counted : (bytes : List ℕ) → length (records_of bytes) ≡ count_of bytes
counted bytes = length_each (record_at bytes) (count_of bytes)

allowed_members : {bytes : List ℕ} → AllowedSurveyFile bytes → AllowedMembers (records_of bytes)
allowed_members {bytes} a i l = let k : i < count_of bytes = rw (counted bytes) at l in rw (record_at_lem bytes i k) (a.members i k)

-- of two surveys in order the second is no better
module _ (v : Vehicle) {first second : List ℕ} (a : AllowedSurveyFile first) (a' : AllowedSurveyFile second) (o : InOrder first second) where
  pairs : SamePlaces (records_of first) (records_of second)
  pairs =
      record {
        longer = omega (arith, counted first, counted second, o.count);
        worn = λ i l.
            let k : i < count_of first = rw (counted first) at l in
            rw (record_at_lem first i k, record_at_lem second i (omega (arith, o.count))) (o.records i k).worn;
      }

  kept : SpreadsKept (records_of first) (records_of second) (λ i. i)
  kept i l =
      let k : i < count_of first = rw (counted first) at l in
      rw (record_at_lem first i k, record_at_lem second i (omega (arith, o.count))) (o.records i k).same_rot

  pub no_higher_load : (i : ℕ) → i < count_of first → permitted_in v second i ≤ permitted_in v first i
  no_higher_load i l = permitted_falls (alike_vehicle v) (a.members i l) (a'.members i (omega (arith, o.count))) (o.records i l).worn (o.records i l).same_rot

  pub no_higher_figure : (judgement_of (records_of second) v).figure.0 ≤ (judgement_of (records_of first) v).figure.0
  unfolding same_places
  no_higher_figure = figure_falls (alike_vehicle v) (allowed_members a) (allowed_members a') (same_places pairs) kept (omega (arith, counted first, a.count))

  pub stays_refused : verdict_in v first ≡ Refuse → verdict_in v second ≡ Refuse
  unfolding same_places
  stays_refused = bridge_stays_refused (alike_vehicle v) (allowed_members a) (allowed_members a') (same_places pairs) kept
