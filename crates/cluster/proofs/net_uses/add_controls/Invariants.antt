use Rattle.cluster.proofs.Prelude.{◌≡◌, length, take, distinct_nets, controls_of}
use Rattle.cluster.proofs.net_uses.add_controls.Given as goal

abbrev pub invariant-loop-latch : goal.invariant-loop-latch
invariant-loop-latch l =
    l.globals ≡ record { count = length l.circuit.nets; nets = distinct_nets (controls_of (take l.latch-index l.circuit.latches)) }
