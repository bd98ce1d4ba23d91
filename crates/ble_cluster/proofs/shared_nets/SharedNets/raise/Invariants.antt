use Rattle.ble_cluster.proofs.Prelude.{take, AreRaised}
use Rattle.ble_cluster.proofs.shared_nets.SharedNets.raise.Given as goal

abbrev pub invariant-loop-number : goal.invariant-loop-number
invariant-loop-number l = AreRaised l.fn.self l.self (take l.number-index l.numbers)
