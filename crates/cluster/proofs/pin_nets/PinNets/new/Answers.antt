use Rattle.cluster.proofs.pin_nets.PinNets.new.Goals as goal

pub add_all-requires-clause-begun : goal.add_all-requires-clause-begun
add_all-requires-clause-begun c = record {
  inputs = c.in_ok-gathered.ensures.inputs;
  clocks = c.in_ok-gathered.ensures.clocks;
  pairs = c.in_ok-gathered.ensures.pairs c.args.bles.now c.args.clusters.now;
}
