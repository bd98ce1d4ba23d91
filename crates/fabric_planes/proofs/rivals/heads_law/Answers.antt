use Rattle.fabric_planes.proofs.HeadOrder.{heads_order}
use Rattle.fabric_planes.proofs.rivals.heads_law.Goals as goal

pub returns : goal.returns
returns c = λ basis head other nodes known is q h less. heads_order is head other nodes known q h less
