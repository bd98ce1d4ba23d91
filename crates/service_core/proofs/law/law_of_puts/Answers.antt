use Rattle.service_core.proofs.Counting.{are_believed}
use Rattle.service_core.proofs.law.law_of_puts.Goals as goal

pub returns : goal.returns
returns c = are_believed
