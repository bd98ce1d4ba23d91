use Rattle.replies_law.proofs.OutputLemmas.{output_is_read}
use Rattle.replies_law.proofs.law.replies_are_read.Goals as goal

pub returns : goal.returns
returns c = output_is_read
