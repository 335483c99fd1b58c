-- `rating::judging::judge` meets its contract. The loop's invariant: the judgement and the list are those of the members passed.
-- Assumes nothing.
use mathlib.Core.Path.{refl}
use native.Mathlib.Omega.{arith}
use lib.ListN.{length-take}
use Rattle.rating.specs.Judgement.{every_passes, least, first_that, loads, written, judgement_of}
use Rattle.rating.proofs.Turns.{turn_judged, turn_written}
use Rattle.rating.proofs.judging.judge.Goals as goal

pub loop-i-init : goal.loop-i-init
unfolding judgement_of least first_that every_passes written loads
loop-i-init c = (refl, refl)

pub loop-i-preserved : goal.loop-i-preserved
loop-i-preserved c =
    let inside = c.loop-i-test.true in (
      turn_judged _ _ _ inside c.rate-r.ensures c.loop-i.invariant.0 c.with_member-j.ensures,
      turn_written _ _ _ inside c.rate-r.ensures _ (omega (arith, length-take c.args.s.count c.args.s.members)) c.loop-i.invariant.1,
    )
