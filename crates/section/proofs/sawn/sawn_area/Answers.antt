-- `section::sawn::sawn_area` meets its contract: what the document says, of the net width and height, which are at most 60.
-- Assumes nothing.
use native.Mathlib.Omega.{arith}
use Rattle.section.proofs.Sections.{BeamCaps, beam_caps}
use Rattle.section.specs.Sawn.{sawn_area, area_left}
use Rattle.section.proofs.sawn.sawn_area.Goals as goal

pub returns-clause-is : goal.returns-clause-is
unfolding sawn_area area_left
returns-clause-is c = cc

pub returns-clause-cap : goal.returns-clause-cap
returns-clause-cap c =
    let caps : BeamCaps c.args.s.pieces c.net_width.result c.net_height.result = beam_caps _ _ _ (omega arith) (omega arith) (omega arith) in
    omega arith
