use Rattle.cluster.proofs.Prelude.{◌≡◌, ◌++◌, take, pairs_with}
use Rattle.cluster.proofs.pin_nets.add_pairs.Given as goal

abbrev pub invariant-loop-net : goal.invariant-loop-net
invariant-loop-net l = l.pairs.items ≡ l.fn.pairs.items ++ pairs_with l.item (take l.net-index l.nets)
