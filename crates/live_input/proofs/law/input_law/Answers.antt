use Rattle.live_input.proofs.InputLemmas.{items_said}
use Rattle.live_input.proofs.law.input_law.Goals as goal

pub returns : goal.returns
returns c = items_said
