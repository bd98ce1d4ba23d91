use Rattle.tenancy_script.proofs.Prelude.{◌<◌, length, rules}
use Rattle.tenancy_script.proofs.TextLemmas.{ended_at}
use Rattle.tenancy_script.proofs.printing.is_ended.Goals as goal

pub returns-else-is_empty : goal.returns-else-is_empty
returns-else-is_empty c = let some : 0 < length c.args.text.now = search rules in ended_at c.args.text.now some
