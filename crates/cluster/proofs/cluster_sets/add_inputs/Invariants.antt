use Rattle.cluster.proofs.Prelude.{◌≡◌, take, not, has, with_nets, elements_at, inputs_of}
use Rattle.std.specs.List.{filter}
use Rattle.cluster.proofs.cluster_sets.add_inputs.Given as goal

abbrev pub invariant-loop-member : goal.invariant-loop-member
invariant-loop-member l =
    l.inputs ≡ record { count = l.fn.inputs.count; nets = with_nets l.fn.inputs.nets (filter (λ net. not (has l.outputs.nets net)) (inputs_of (elements_at l.bles (take l.member-index l.members)))) }
