use Rattle.configuration_law.proofs.Shared.{share_nothing}
use Rattle.configuration_law.proofs.law.configurations_apart.Goals as goal

pub returns : goal.returns
returns c = share_nothing
