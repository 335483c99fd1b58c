-- `run` ends: each step takes its head at least.
use lib.ListN.{length}
use Rattle.script.proofs.run.Given as goal

abbrev pub decreases-loop-rest : goal.decreases-loop-rest
decreases-loop-rest l = length l.rest
