-- Both loads are on the parts that `survey_length` cuts.
use Rattle.bridge.specs.Input.{load_input}
use Rattle.bridge.proofs.input.load_input.Goals as goal

pub returns : goal.returns
unfolding load_input
returns c = rw (c.load_files.ensures, c.split_at.ensures.front, c.split_at.ensures.back, c.survey_length.ensures)
