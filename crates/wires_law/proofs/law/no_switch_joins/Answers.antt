use Rattle.wires_law.proofs.Switches.{untouched}
use Rattle.wires_law.proofs.law.no_switch_joins.Goals as goal

pub returns : goal.returns
returns c = untouched
