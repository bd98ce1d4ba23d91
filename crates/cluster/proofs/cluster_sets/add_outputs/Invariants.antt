use Rattle.cluster.proofs.Prelude.{◌≡◌, take, with_nets, elements_at, outputs_of}
use Rattle.cluster.proofs.cluster_sets.add_outputs.Given as goal

abbrev pub invariant-loop-member : goal.invariant-loop-member
invariant-loop-member l =
    l.outputs ≡ record { count = l.fn.outputs.count; nets = with_nets l.fn.outputs.nets (outputs_of (elements_at l.bles (take l.member-index l.members))) }
