use Rattle.device_law.proofs.ListLemmas.{list_is_read}
use Rattle.device_law.proofs.law.list_is_read.Goals as goal

pub returns : goal.returns
returns c = list_is_read
