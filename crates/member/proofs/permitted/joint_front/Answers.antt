-- `member::permitted::joint_front` meets its contract: the kind picks what stands in front, and the sizes are in range.
-- Assumes nothing.
use mathlib.Core.Path.{◌≡◌, refl, sym}
use native.Mathlib.Omega.{arith}
use borrow.Author.Tests.{eq-eqb, ne_eqb}
use Rattle.section.proofs.Order.{whole_sound, tenths_sound}
use Rattle.member.specs.Fields.{KIND, CODE, field}
use Rattle.member.specs.Format.{used, unused_by_kind, unused_by_code, suits, bending}
use Rattle.member.specs.PermittedLoad.{joint_front, net_area, capacity}
use Rattle.member.proofs.Allowed.{dowel_code, dowel_sizes, area_code, area_size}
use Rattle.member.proofs.Quantities.{species, height}
use Rattle.member.proofs.Falling.{joint, dowelled_same}
use Rattle.member.proofs.permitted.joint_front.Goals as goal
use Rattle.member.proofs.permitted.joint_front.Goals.{In-DowelledJoint, In-KeyedJoint, In-SteelPlates}

-- the kind in each arm
four : (c : In-DowelledJoint) → field c.args.m KIND ≡ 4
four c = sym c.in-DowelledJoint.ensures

five : (c : In-KeyedJoint) → field c.args.m KIND ≡ 5
five c = sym c.in-KeyedJoint.ensures

six : (c : In-SteelPlates) → field c.args.m KIND ≡ 6
six c = sym c.in-SteelPlates.ensures

pub dowels-requires : goal.dowels-requires
dowels-requires c = dowel_code c.requires.0 (four c)

pub dowel_capacity-requires : goal.dowel_capacity-requires
dowel_capacity-requires c = let p = c.requires.0 in omega (arith, dowel_sizes p (dowel_code p (four c.before)), c.dowels.ensures)

pub bending-requires : goal.bending-requires
unfolding used unused_by_kind unused_by_code bending suits
bending-requires c = species c.requires.0 4 (four c.before.before) refl

pub dowelled-requires : goal.dowelled-requires
unfolding used unused_by_kind unused_by_code bending suits
dowelled-requires c =
    let p = c.requires in
    let e = four c.before.before.before.before in
    omega (arith, height p.0 4 e refl refl, dowel_sizes p.0 (dowel_code p.0 e), (joint p.0 p.1 p.2).ratio, c.dowel_capacity.ensures.cap, c.bending.ensures.cap)

pub returns-in-DowelledJoint : goal.returns-in-DowelledJoint
unfolding joint_front capacity
returns-in-DowelledJoint c =
    let s = c.dowels.ensures in
    rw (eq-eqb (field c.args.m KIND) 4 (four c.before.before.before.before.before))
    (rw (c.height-h.ensures, c.number-b.ensures, c.number.ensures, c.bending.ensures.is)
    at
    (dowelled_same _ _ _ _ (whole_sound _) (tenths_sound _) (whole_sound _) (rw (s.0, s.1, s.2, s.3, s.4) at c.dowel_capacity.ensures.is) c.dowelled.ensures))

pub shear-requires : goal.shear-requires
unfolding used unused_by_kind unused_by_code bending suits
shear-requires c = species c.requires.0 5 (five c.before.before.before) refl

pub keyed-requires : goal.keyed-requires
unfolding used unused_by_kind unused_by_code bending suits
keyed-requires c =
    let p = c.requires in
    let e = five c.before.before.before.before in
    omega (arith, height p.0 5 e refl refl, area_size p.0 (area_code p.0 (omega arith) (omega arith)), (joint p.0 p.1 p.2).ratio, c.number-in-KeyedJoint.ensures, c.area_left.ensures.cap, c.shear.ensures.cap)

pub returns-in-KeyedJoint : goal.returns-in-KeyedJoint
unfolding joint_front net_area
returns-in-KeyedJoint c =
    let m = c.args.m in
    let p = c.requires in
    let e = five c.before.before.before.before.before in
    rw (ne_eqb (field m KIND) 4 (omega arith), eq-eqb (field m KIND) 5 e, ne_eqb (field m CODE) 2 (omega (arith, area_code p.0 (omega arith) (omega arith))))
    (rw (c.height-h.ensures, c.number-b.ensures, c.area_left.ensures.is, c.number-in-KeyedJoint.ensures, c.number-in-KeyedJoint-2.ensures, c.shear.ensures.is)
    at c.keyed.ensures)

pub plates-requires : goal.plates-requires
unfolding used unused_by_kind unused_by_code bending suits
plates-requires c =
    let p = c.requires in
    let e = six c.before.before.before in
    omega (arith, height p.0 6 e refl refl, area_size p.0 (area_code p.0 (omega arith) (omega arith)), (joint p.0 p.1 p.2).ratio, c.number-in-SteelPlates.ensures, c.area_left-in-SteelPlates.ensures.cap)

pub returns-in-SteelPlates : goal.returns-in-SteelPlates
unfolding joint_front net_area
returns-in-SteelPlates c =
    let m = c.args.m in
    let p = c.requires in
    let e = six c.before.before.before.before in
    rw (ne_eqb (field m KIND) 4 (omega arith), ne_eqb (field m KIND) 5 (omega arith), ne_eqb (field m CODE) 2 (omega (arith, area_code p.0 (omega arith) (omega arith))))
    (rw (c.height-h.ensures, c.number-b.ensures, c.area_left-in-SteelPlates.ensures.is, c.number-in-SteelPlates.ensures, c.number-in-SteelPlates-2.ensures)
    at c.plates.ensures)
