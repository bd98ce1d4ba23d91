use Rattle.cluster.proofs.Prelude.{◌≡◌, ◌++◌, take, other_readers}
use Rattle.cluster.proofs.block_nets.add_others.Given as goal

abbrev pub invariant-loop-block : goal.invariant-loop-block
invariant-loop-block l = l.readers.items ≡ l.fn.readers.items ++ other_readers l.driver (take l.block-index l.blocks)
