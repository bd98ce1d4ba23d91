use Rattle.replies_law.proofs.Outputs.{has_one_output}
use Rattle.replies_law.proofs.law.one_output.Goals as goal

pub returns : goal.returns
returns c = has_one_output
