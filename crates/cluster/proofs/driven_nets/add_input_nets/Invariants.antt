use Rattle.cluster.proofs.Prelude.{◌≡◌, ◌++◌, input_nets}
use Rattle.cluster.proofs.driven_nets.add_input_nets.Given as goal

abbrev pub invariant-loop-pad : goal.invariant-loop-pad
invariant-loop-pad l = l.nets ≡ l.fn.nets ++ input_nets l.circuit l.uses l.pad
