-- `member::permitted::permitted_load` meets its contract: each kind's formula of the member's quantities, W in thirtieths, what stands in
-- front of a joint times 1000 · B.
-- Assumes nothing.
use Prim.Native.Nat.{◌*◌, ◌≤◌}
use mathlib.Core.Path.{◌≡◌, refl, sym}
use mathlib.Core.Logic.{inl, inr}
use native.Mathlib.Omega.{arith}
use borrow.Author.Tests.{eq-eqb}
use Rattle.section.specs.Fraction.{whole}
use Rattle.section.proofs.Order.{over_sound, tenths_sound, hundredths_sound}
use Rattle.spread.proofs.Carried.{beta_above_0}
use Rattle.member.specs.Fields.{KIND, SPAN, SPACING, CODE, MU_B, field}
use Rattle.member.specs.Format.{used, unused_by_kind, unused_by_code, suits, bending}
use Rattle.member.specs.PermittedLoad.{beta_of, net_area}
use Rattle.member.proofs.Allowed.{chord_code, sawn_sizes}
use Rattle.member.proofs.EachKind.{stringer_valid, stringer_same, close_stringer_valid, close_stringer_same, cross_beam_valid, cross_beam_same, joint_valid, joint_same, over_positive, rest_positive, whole_positive}
use Rattle.member.proofs.Quantities.{species, spacing, height, inside, panel, close, span_positive, load_factor_positive, distribution_positive, valid_stringer, valid_close, valid_cross_beam, valid_joint}
use Rattle.member.proofs.Falling.{Joint, joint, stringer_load, cross_beam_load, chord_load, close_load, joint_load}
use Rattle.member.proofs.permitted.permitted_load.Goals as goal
use Rattle.member.proofs.permitted.permitted_load.Goals.{After-kind, In-Stringer, In-CrossBeam, In-Chord, In-CloseStringer, In-DowelledJoint}

span : (c : After-kind) → c.terms-terms.result.l.0 ≡ field c.args.m SPAN
span c = rw c.terms-terms.ensures.is refl

-- the kind in each arm
one : (c : In-Stringer) → field c.args.m KIND ≡ 1
one c = sym c.in-Stringer.ensures

two : (c : In-CrossBeam) → field c.args.m KIND ≡ 2
two c = sym c.in-CrossBeam.ensures

three : (c : In-Chord) → field c.args.m KIND ≡ 3
three c = sym c.in-Chord.ensures

seven : (c : In-CloseStringer) → field c.args.m KIND ≡ 7
seven c = sym c.in-CloseStringer.ensures

low : (c : In-DowelledJoint) → 4 ≤ field c.args.m KIND
low c =
    elim c.in-DowelledJoint.is [
      | inl e ↦ omega (arith, rw e at c.kind.ensures)
      | inr (inl e) ↦ omega (arith, rw e at c.kind.ensures)
      | inr (inr e) ↦ omega (arith, rw e at c.kind.ensures)
    ]

high : (c : In-DowelledJoint) → field c.args.m KIND ≤ 6
high c =
    elim c.in-DowelledJoint.is [
      | inl e ↦ omega (arith, rw e at c.kind.ensures)
      | inr (inl e) ↦ omega (arith, rw e at c.kind.ensures)
      | inr (inr e) ↦ omega (arith, rw e at c.kind.ensures)
    ]

pub modulus_thirtieths-requires : goal.modulus_thirtieths-requires
unfolding bending
modulus_thirtieths-requires c = (c.requires, rw (one c))

pub bending-requires : goal.bending-requires
unfolding used unused_by_kind unused_by_code bending suits
bending-requires c = species c.requires 1 (one c.before) refl

pub stringer-requires : goal.stringer-requires
unfolding used unused_by_kind unused_by_code bending suits
stringer-requires c =
    omega (arith, spacing c.requires 1 (one c.before.before) refl refl, c.modulus_thirtieths.ensures.cap, c.bending.ensures.cap, c.terms-terms.ensures.sizes)

pub returns-in-Stringer-clause-is : goal.returns-in-Stringer-clause-is
unfolding used unused_by_kind unused_by_code bending suits
returns-in-Stringer-clause-is c =
    let a = c.args in
    let p = c.requires in
    let e = one c.before.before.before in
    rw (c.stringer.ensures.is, c.bending.ensures.is, c.terms-terms.ensures.is, c.spacing-d.ensures, stringer_load a.m a.class a.track.0 e)
    (stringer_same _ _ _ _ _
    (stringer_valid (over_sound _ 30 (omega arith)) (tenths_sound _) (load_factor_positive a.class) (hundredths_sound _) (span_positive p)
    (distribution_positive _ a.track.0 (spacing p 1 e refl refl).low))
    (valid_stringer p a.class a.track.0 e)
    c.modulus_thirtieths.ensures.is)

pub modulus_thirtieths-requires-in-CrossBeam : goal.modulus_thirtieths-requires-in-CrossBeam
unfolding bending
modulus_thirtieths-requires-in-CrossBeam c = (c.requires, rw (two c))

pub bending-requires-in-CrossBeam : goal.bending-requires-in-CrossBeam
unfolding used unused_by_kind unused_by_code bending suits
bending-requires-in-CrossBeam c = species c.requires 2 (two c.before) refl

pub cross_beam-requires : goal.cross_beam-requires
cross_beam-requires c =
    omega (arith, panel c.requires (two c.before.before), c.modulus_thirtieths-in-CrossBeam.ensures.cap, c.bending-in-CrossBeam.ensures.cap, c.terms-terms.ensures.sizes)

pub returns-in-CrossBeam-clause-is : goal.returns-in-CrossBeam-clause-is
returns-in-CrossBeam-clause-is c =
    let a = c.args in
    let p = c.requires in
    let e = two c.before.before.before in
    rw (c.cross_beam.ensures.is, c.bending-in-CrossBeam.ensures.is, c.terms-terms.ensures.is, c.distance-x.ensures, cross_beam_load a.m a.class a.track.0 e)
    (cross_beam_same _ _ _ _ _
    (cross_beam_valid (over_sound _ 30 (omega arith)) (tenths_sound _) (load_factor_positive a.class) (hundredths_sound _) (span_positive p)
    (whole_positive _ (panel p e).low))
    (valid_cross_beam p a.class a.track.0 e)
    c.modulus_thirtieths-in-CrossBeam.ensures.is)

pub sawn-requires : goal.sawn-requires
sawn-requires c = chord_code c.requires (three c.before)

pub sawn_area-requires : goal.sawn_area-requires
sawn_area-requires c = let p = c.requires in omega (arith, sawn_sizes p (chord_code p (three c.before.before)), c.sawn.ensures)

pub bending-requires-in-Chord : goal.bending-requires-in-Chord
unfolding used unused_by_kind unused_by_code bending suits
bending-requires-in-Chord c = species c.requires 3 (three c.before.before.before) refl

pub chord-requires : goal.chord-requires
unfolding used unused_by_kind unused_by_code bending suits
chord-requires c =
    let p = c.requires in
    let e = three c.before.before.before.before in
    omega (
      arith,
      spacing p 3 e refl refl,
      height p 3 e refl refl,
      inside p 3 e refl refl refl,
      c.sawn_area.ensures.cap,
      c.bending-in-Chord.ensures.cap,
      c.terms-terms.ensures.sizes,
      span c.before.before.before.before.before,
    )

pub returns-in-Chord-clause-is : goal.returns-in-Chord-clause-is
unfolding net_area
returns-in-Chord-clause-is c =
    let a = c.args in
    let s = c.sawn.ensures in
    let e = three c.before.before.before.before.before in
    rw (c.chord.ensures.is, c.height.ensures, c.sawn_area.ensures.is, s.0, s.1, s.2, s.3, s.4, s.5, c.bending-in-Chord.ensures.is, c.terms-terms.ensures.is, c.distance-x.ensures, c.spacing-d.ensures, chord_load a.m a.class a.track.0 e, eq-eqb (field a.m CODE) 2 (chord_code c.requires e))

pub modulus_thirtieths-requires-in-CloseStringer : goal.modulus_thirtieths-requires-in-CloseStringer
unfolding bending
modulus_thirtieths-requires-in-CloseStringer c = (c.requires, rw (seven c))

pub bending-requires-in-CloseStringer : goal.bending-requires-in-CloseStringer
unfolding used unused_by_kind unused_by_code bending suits
bending-requires-in-CloseStringer c = species c.requires 7 (seven c.before) refl

pub beta-requires : goal.beta-requires
beta-requires c = omega (arith, close c.requires (seven c.before.before.before), c.stiffness.ensures.cap, c.spacing-d.ensures)

pub close_stringer-requires : goal.close_stringer-requires
close_stringer-requires c =
    omega (
      arith,
      c.modulus_thirtieths-in-CloseStringer.ensures.cap,
      c.bending-in-CloseStringer.ensures.cap,
      c.terms-terms.ensures.sizes,
      c.beta.ensures,
      beta_above_0 c.stiffness.result c.spacing-d.result.0 c.args.track.0
          (omega (arith, close c.requires (seven c.before.before.before.before), c.spacing-d.ensures)),
    )

pub returns-in-CloseStringer-clause-is : goal.returns-in-CloseStringer-clause-is
unfolding beta_of
returns-in-CloseStringer-clause-is c =
    let a = c.args in
    let p = c.requires in
    let e = seven c.before.before.before.before.before in
    rw (c.close_stringer.ensures.is, c.bending-in-CloseStringer.ensures.is, c.terms-terms.ensures.is, c.beta.ensures.is, c.stiffness.ensures.is, c.spacing-d.ensures, close_load a.m a.class a.track.0 e)
    (close_stringer_same _ _ _ _ _
    (close_stringer_valid (over_sound _ 30 (omega arith)) (tenths_sound _) (load_factor_positive a.class) (hundredths_sound _) (span_positive p)
    (over_positive _ 10000 (beta_above_0 _ (field a.m SPACING) a.track.0 (omega (arith, (close p e).spacing_low))) (omega arith)))
    (valid_close p a.class a.track.0 e)
    c.modulus_thirtieths-in-CloseStringer.ensures.is)

a_joint : (c : In-DowelledJoint) → Joint c.args.m
a_joint c = joint c.requires (low c) (high c)

pub joint-requires : goal.joint-requires
joint-requires c =
    let i = c.before.before.before in
    omega (arith, a_joint i, span i.before, c.terms-terms.ensures.sizes)

pub returns-in-DowelledJoint-clause-is : goal.returns-in-DowelledJoint-clause-is
returns-in-DowelledJoint-clause-is c =
    let a = c.args in
    let i = c.before.before.before.before in
    let j = a_joint i in
    rw (c.joint.ensures.is, c.terms-terms.ensures.is, c.number.ensures, c.number-in-DowelledJoint.ensures, c.distance-x.ensures, c.spacing-d.ensures, joint_load a.m a.class a.track.0 (low i) (high i))
    (joint_same _ _ _ _ _ _
    (joint_valid (whole (field a.m SPAN)) (over_sound _ (1000 * field a.m MU_B) (omega (arith, j.ratio.low_b))) (load_factor_positive a.class) (hundredths_sound _)
    (over_positive _ _ j.ratio.low_a j.ratio.low_b)
    (rest_positive _ _ j.distance.high)
    (whole_positive _ j.distance.low)
    (distribution_positive _ a.track.0 j.spaced.low))
    (valid_joint c.requires a.class a.track.0 j.distance j.spaced j.ratio)
    c.joint_front.ensures)
