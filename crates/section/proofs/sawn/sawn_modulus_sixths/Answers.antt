-- `section::sawn::sawn_modulus_sixths` meets its contract: what the document says, of the net width and height, which are at most 60.
-- Assumes nothing.
use native.Mathlib.Omega.{arith}
use Rattle.section.proofs.Sections.{BeamCaps, beam_caps}
use Rattle.section.specs.Fraction.{over, whole, square, ◌·◌, ◌÷◌}
use Rattle.section.specs.Sawn.{sawn_modulus}
use Rattle.section.proofs.sawn.sawn_modulus_sixths.Goals as goal

pub returns-clause-is : goal.returns-clause-is
unfolding sawn_modulus over whole square ◌·◌ ◌÷◌
returns-clause-is c = rw (← c.net_height-h.ensures, ← c.net_width.ensures) (omega arith)

pub returns-clause-cap : goal.returns-clause-cap
returns-clause-cap c =
    let caps : BeamCaps c.args.s.pieces c.net_width.result c.net_height-h.result = beam_caps _ _ _ (omega arith) (omega arith) (omega arith) in
    omega arith
