use Rattle.cluster.proofs.Prelude.{◌≡◌, take, with_nets, elements_at, all_clocks_of}
use Rattle.cluster.proofs.cluster_sets.add_clocks.Given as goal

abbrev pub invariant-loop-member : goal.invariant-loop-member
invariant-loop-member l =
    l.clocks ≡ record { count = l.fn.clocks.count; nets = with_nets l.fn.clocks.nets (all_clocks_of (elements_at l.bles (take l.member-index l.members))) }
