use Rattle.longest_path.proofs.Prelude.{take, IsBegun}
use Rattle.longest_path.proofs.reach.starting_reach.Given as goal

abbrev pub invariant-loop-net : goal.invariant-loop-net
invariant-loop-net l = IsBegun l.fn.nets (take l.net-index l.starts) l.reach.items
