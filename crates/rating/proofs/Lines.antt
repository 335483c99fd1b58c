-- The influence line of an allowed member is a triangle of at most 10,000 half centimetres, by its kind; so the vehicle load on
-- it covers every position and is rounded up once.
-- Assumes nothing.
use Prim.Native.Nat.{ℕ, ◌-◌, ◌*◌, ◌≤◌, ◌<◌}
use mathlib.Core.Path.{◌≡◌, refl}
use mathlib.Core.Bool.{Bool, true, false, ◌||◌}
use native.Mathlib.Decide.{dec_le}
use native.Mathlib.Omega.{arith}
use lib.Dec.{eqb}
use borrow.Author.Tests.{ne_eqb, eq-eqb}
use Rattle.section.specs.Choose.{choose}
use Rattle.section.specs.Fraction.{whole, ◌⊑◌, RoundedUp}
use Rattle.section.specs.Units.{weight, distance}
use Rattle.influence.specs.Influence.{Triangle, gives, greatest, behind}
use Rattle.influence.specs.Bounds.{Bounded}
use Rattle.influence.proofs.Load.{load_covers, load_rounded_up}
use Rattle.member.specs.Fields.{KIND, SPAN, DISTANCE, field}
use Rattle.member.specs.Format.{AllowedMember, AllowedVehicle, used, unused_by_kind, unused_by_code, suits, bending}
use Rattle.rating.specs.VehicleLoad.{Line, line_of, influence_line, vehicle_load_on}
use Rattle.member.specs.declared.record.Member.{Member}
use Rattle.member.specs.declared.record.Vehicle.{Vehicle}
use Rattle.member.proofs.Quantities.{by_kind, sizes, panel, inside}

-- the base and the apex by kind
pub base_is_span : (kind l x : ℕ) → (kind ≡ 2 → ⊥) → (line_of kind l x).base ≡ 2 * l
unfolding line_of
base_is_span kind l x n = rw (ne_eqb kind 2 n) (go (eqb kind 1 || eqb kind 7))
  where
    go : (t : Bool) → (choose {X = Line} t (record { base = 2 * l; apex = l }) (record { base = 2 * l; apex = 2 * x })).base ≡ 2 * l
    go true = refl
    go false = refl

pub base_is_panels : (kind l x : ℕ) → kind ≡ 2 → (line_of kind l x).base ≡ 2 * (2 * x)
unfolding line_of
base_is_panels kind l x e = rw (ne_eqb kind 1 (omega arith), ne_eqb kind 7 (omega arith), eq-eqb kind 2 e)

pub apex_is_middle : (kind l x : ℕ) → (eqb kind 1 || eqb kind 7) ≡ true → (line_of kind l x).apex ≡ l
unfolding line_of
apex_is_middle kind l x e = rw e

pub apex_is_distance : (kind l x : ℕ) → (eqb kind 1 || eqb kind 7) ≡ false → (line_of kind l x).apex ≡ 2 * x
unfolding line_of
apex_is_distance kind l x n = rw n (go (eqb kind 2))
  where
    go : (t : Bool) → (choose {X = Line} t (record { base = 2 * (2 * x); apex = 2 * x }) (record { base = 2 * l; apex = 2 * x })).apex ≡ 2 * x
    go true = refl
    go false = refl

pub record Sized (line : Line) : Type 0 where
  pub triangle : Triangle line.base line.apex
  pub base_high : line.base ≤ 10000

-- so an apex at x stands at most 5000 cm from the end
pub distance_high : {line : Line} {x : ℕ} → Sized line → line.apex ≡ 2 * x → x ≤ 5000
distance_high s e = omega arith

module _ {m : Member} (a : AllowedMember m) where
  pub span_high : field m SPAN ≤ 5000
  span_high = (sizes a 0).span_high

  pub line_sized : Sized (influence_line m)
  unfolding line_of used unused_by_kind unused_by_code bending suits
  line_sized =
      by_kind a (λ k. field m KIND ≡ k → Sized (line_of k (field m SPAN) (field m DISTANCE)))
      (λ e. omega (arith, span))
      (λ e. omega (arith, panel a e))
      (λ e. omega (arith, span, inside a 3 e refl refl refl))
      (λ e. omega (arith, span, inside a 4 e refl refl refl))
      (λ e. omega (arith, span, inside a 5 e refl refl refl))
      (λ e. omega (arith, span, inside a 6 e refl refl refl))
      (λ e. omega (arith, span))
      refl
    where
      span : (1 ≤ field m SPAN) × (field m SPAN ≤ 5000)
      span = let s = sizes a 0 in (s.span_low, s.span_high)

  module _ (v : Vehicle) where
    -- at least what every position gives, in either direction of travel
    pub vehicle_load_covers :
        (u : ℕ) →
        (gives (influence_line m).base (influence_line m).apex (weight v.weights) (behind v.distances) v.axles u ⊑ whole (vehicle_load_on m v)) ×
        (gives (influence_line m).base ((influence_line m).base - (influence_line m).apex) (weight v.weights) (behind v.distances) v.axles u ⊑ whole (vehicle_load_on m v))
    unfolding vehicle_load_on
    vehicle_load_covers = load_covers v.weights v.distances v.axles line_sized.triangle

    -- rounded up once: never below the greatest that a position gives, and less than one unit above it
    pub vehicle_load_rounded_up :
        RoundedUp (greatest (influence_line m).base (influence_line m).apex (weight v.weights) (behind v.distances) v.axles) (vehicle_load_on m v)
    unfolding vehicle_load_on
    vehicle_load_rounded_up = load_rounded_up v.weights v.distances v.axles line_sized.triangle

    -- 64 bits hold what the vehicle load is computed from
    pub load_bounded : AllowedVehicle v → Bounded (influence_line m).base (influence_line m).apex v.axles v.weights v.distances
    load_bounded b =
        record {
          triangle = line_sized.triangle;
          base = line_sized.base_high;
          axles = b.axles.1;
          weights = λ i l. omega (arith, b.weights i l);
          distances = λ i l. at i l;
        }
      where
        at : (i : ℕ) → i < v.axles → distance v.distances i ≤ 2000
        at i l = elim (dec_le 1 i) [ yes p ↦ (b.distances i p l).1 | no p ↦ first i (omega arith) ]
          where
            first : (i : ℕ) → i ≡ 0 → distance v.distances i ≤ 2000
            first i e = rw e (omega (arith, b.first))
