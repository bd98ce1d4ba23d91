use Rattle.cluster.proofs.PinRanks.{AreRanked}
use Rattle.cluster.proofs.pin_ranks.add_ranks.Given as goal

abbrev pub invariant-loop-pin : goal.invariant-loop-pin
invariant-loop-pin l = AreRanked l.pins l.pin-index l.ranks.items l.inputs l.outputs l.clocks
