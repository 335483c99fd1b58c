-- `member::permitted::stiffness` meets its contract: the stiffness number of the member's quantities, both moments of inertia in twelfths.
-- Assumes nothing.
use native.Mathlib.Omega.{arith}
use Rattle.section.specs.Fraction.{whole}
use Rattle.section.proofs.Order.{whole_sound, over_sound}
use Rattle.spread.proofs.StiffnessNumber.{stiffness_number_same}
use Rattle.member.specs.Fields.{SPAN, field}
use Rattle.member.specs.PermittedLoad.{board_inertia, stiffness_of}
use Rattle.member.proofs.Quantities.{close, inertia_sound, board_sound}
use Rattle.member.proofs.permitted.stiffness.Goals as goal

pub deck_inertia-requires : goal.deck_inertia-requires
deck_inertia-requires c =
    let p = c.requires in
    omega (arith, close p.0 p.1, c.deck.ensures)

pub stiffness_number-requires : goal.stiffness_number-requires
stiffness_number-requires c =
    let p = c.requires in
    omega (
      arith,
      close p.0 p.1,
      c.spacing.ensures,
      c.inertia.ensures.cap,
      c.span.ensures,
      c.deck_inertia.ensures.cap,
    )

pub returns-clause-is : goal.returns-clause-is
unfolding stiffness_of board_inertia whole
returns-clause-is c =
    let m = c.args.m in
    let s = c.deck.ensures in
    rw (c.stiffness_number.ensures.is, c.spacing.ensures, c.span.ensures)
    (stiffness_number_same (whole (field m SPAN)) (whole_sound _) (omega (arith, (close c.requires.0 c.requires.1).span_low)) (over_sound _ 12 (omega arith)) (inertia_sound m)
    (over_sound _ 12 (omega arith))
    (board_sound m)
    c.inertia.ensures.is
    (rw (s.0, s.1, s.2, s.3) at c.deck_inertia.ensures.is))
