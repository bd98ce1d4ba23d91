use Rattle.live_machine.proofs.AccountLemmas.{account, answered}
use Rattle.live_machine.proofs.AtOnce.{at_once}
use Rattle.live_machine.proofs.InTenancy.{in_tenancy}
use Rattle.live_machine.proofs.law.machine_law.Goals as goal

pub returns : goal.returns
returns c = record { account = account; answered = answered; tenancy = in_tenancy; at_once = at_once }
