-- No byte beyond a buffer that holds enough changes the outcome.
use Rattle.bridge.proofs.Beyond.{read_enough}
use Rattle.bridge.proofs.input.load_read.Goals as goal

pub returns : goal.returns
returns c = read_enough c.args.buffer.now c.args.n _ c.requires.0 c.load_input.ensures
