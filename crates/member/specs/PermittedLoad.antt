-- The permitted load of a member, from its record, the vehicle's class and its track. Document 01, 'Permitted load'; kind 7 from
-- document 02, request 2/13.
use Rattle.std.specs.Prelude.{ℕ, ◌-◌, ◌*◌, min, eqb}
use Rattle.section.specs.Choose.{choose}
use Rattle.section.specs.Crescent.{tiered_crescent}
use Rattle.section.specs.Dowel.{dowel_capacity}
use Rattle.section.specs.Fraction.{Fraction, over, whole, tenths, hundredths}
use Rattle.section.specs.Log.{tiered_modulus}
use Rattle.section.specs.Sawn.{sawn_modulus, sawn_area, area_left}
use Rattle.section.specs.Species.{bending_factor, shear_factor}
use Rattle.spread.specs.Beta.{beta}
use Rattle.spread.specs.Inertia.{tiered_inertia, sawn_inertia, deck_inertia}
use Rattle.spread.specs.Stiffness.{ten_thousandths, stiffness_number}
use Rattle.member.specs.Fields.{KIND, SPECIES, SPAN, SPACING, DISTANCE, HEIGHT, DEAD_LOAD, CODE, S1, S2, S3, S4, S5, S6, MU_A, MU_B, field}
use Rattle.member.specs.Formula.{Formula, stringer, close_stringer, cross_beam, chord, joint, dowelled, keyed, plates, permitted}
use Rattle.member.specs.declared.record.Member.{Member}

-- "n = 1.4 for class 0 (lorries), 1.1 for class 1 (wheeled tractors, heavy trailers)"
abbrev pub load_factor_tenths : (class : ℕ) → ℕ
load_factor_tenths class = choose (eqb class 0) 14 11

abbrev pub load_factor : (class : ℕ) → Fraction
load_factor class = tenths (load_factor_tenths class)

-- "Kₐ = (2d − e) / 2d, with e the lesser of E and d": the lateral distribution of one vehicle
unfoldable pub distribution : (d E : ℕ) → Fraction
distribution d E = over (2 * d - min E d) (2 * d)

-- W of section codes 1, 2 and 5, that of code 5 in tenths
unfoldable pub section_modulus : Member → Fraction
section_modulus m =
    choose (eqb (field m CODE) 1) (whole (tiered_modulus (field m S1) (field m S2) (field m S3)))
    (choose (eqb (field m CODE) 5) (tenths (tiered_crescent (field m S1) (field m S2) (field m S3)))
    (sawn_modulus (field m S1) (field m S2) (field m S3) (field m S4) (field m S5)))

-- I of section codes 1 and 2
unfoldable pub section_inertia : Member → Fraction
section_inertia m =
    choose (eqb (field m CODE) 1) (tiered_inertia (field m S1) (field m S2) (field m S3))
    (sawn_inertia (field m S1) (field m S2) (field m S3) (field m S4) (field m S5))

-- J: "The deck fields use x for board count .., h for board thickness .., A for board width .. and B for deck rot"
unfoldable pub board_inertia : Member → Fraction
board_inertia m = deck_inertia (field m DISTANCE) (field m HEIGHT) (field m MU_A) (field m MU_B)

-- k, kept in ten-thousandths
unfoldable pub stiffness_of : Member → ℕ
stiffness_of m = stiffness_number (whole (field m SPACING)) (section_inertia m) (whole (field m SPAN)) (board_inertia m)

-- β, kept in ten-thousandths
unfoldable pub beta_of : Member → (track : ℕ) → ℕ
beta_of m track = beta (stiffness_of m) (field m SPACING) track

-- F of section codes 2 and 4
unfoldable pub net_area : Member → ℕ
net_area m =
    choose (eqb (field m CODE) 2) (sawn_area (field m S1) (field m S2) (field m S3) (field m S4) (field m S5) (field m S6))
    (area_left (field m S1) (field m S2))

-- T of section code 3
unfoldable pub capacity : Member → Fraction
capacity m = dowel_capacity (field m S1) (field m S2) (field m S3) (field m S4) (field m S5)

-- the quantities of a member's formula: "l span, d spacing to the neighbour, x distance from the support, h truss height, q dead
-- load in kgf/cm (the field / 100), E track, μ = A/B"
module _ (m : Member) where
  abbrev l : Fraction
  l = whole (field m SPAN)

  abbrev x : Fraction
  x = whole (field m DISTANCE)

  abbrev h : Fraction
  h = whole (field m HEIGHT)

  abbrev q : Fraction
  q = hundredths (field m DEAD_LOAD)

  abbrev μ : Fraction
  μ = over (field m MU_A) (field m MU_B)

  abbrev K : Fraction
  K = bending_factor (field m SPECIES)

  abbrev S : Fraction
  S = shear_factor (field m SPECIES)

  abbrev W : Fraction
  W = section_modulus m

  abbrev F : Fraction
  F = whole (net_area m)

  abbrev T : Fraction
  T = capacity m

  abbrev cuts : Fraction
  cuts = whole (field m S6)

  -- what stands in front for a joint: kinds 4, 5 and 6
  unfoldable pub joint_front : Fraction
  joint_front =
      choose (eqb (field m KIND) 4) (dowelled h T K cuts) (choose (eqb (field m KIND) 5) (keyed h F S) (plates h F))

  -- the table of permitted loads by kind
  module _ (class track : ℕ) where
    abbrev n : Fraction
    n = load_factor class

    abbrev Kₐ : Fraction
    Kₐ = distribution (field m SPACING) track

    -- "the exact value is the one with this β"
    abbrev β : Fraction
    β = ten_thousandths (beta_of m track)

    abbrev pub stringer_of : Formula
    stringer_of = stringer W K n q l Kₐ

    abbrev pub close_stringer_of : Formula
    close_stringer_of = close_stringer W K n q l β

    abbrev pub cross_beam_of : Formula
    cross_beam_of = cross_beam W K n q l x

    abbrev pub chord_of : Formula
    chord_of = chord h F K n q l x Kₐ

    abbrev pub joint_of : Formula
    joint_of = joint joint_front n q μ l x Kₐ

    unfoldable pub formula_of : Formula
    formula_of =
        choose (eqb (field m KIND) 1) stringer_of
        (choose (eqb (field m KIND) 2) cross_beam_of
        (choose (eqb (field m KIND) 3) chord_of
        (choose (eqb (field m KIND) 7) close_stringer_of joint_of)))

    unfoldable pub permitted_load : ℕ
    permitted_load = permitted formula_of
