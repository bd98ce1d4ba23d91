use Rattle.layout_check.proofs.Prelude.{graph_of, NoEdge, told_fault}
use Rattle.layout_check.proofs.Told.{at_fault, at_two, gap_told, hop_told}
use Rattle.layout_check.proofs.route.check_hops.Goals as goal

pub returns-in-Some-clause-exact : goal.returns-in-Some-clause-exact
returns-in-Some-clause-exact c = λ sinks nodes.
    at_two c.args.graph.now c.laws.ensures.lawful c.args.root sinks nodes c.args.hops.now NoEdge c.node.result ((graph_of c.args.graph.now).node c.in-Some.hop.0) c.node-in-Some.result
    ((graph_of c.args.graph.now).node c.in-Some.hop.1) c.node.ensures c.node-in-Some.ensures
    (gap_told c.args.graph.now c.laws.ensures.lawful c.args.root sinks nodes c.args.hops.now c.in-Some.hop.0 c.in-Some.hop.1 c.in-Some.ensures.0 c.in-Some.ensures.1)

pub returns-in-Some-enter-clause-exact : goal.returns-in-Some-enter-clause-exact
returns-in-Some-enter-clause-exact c = λ sinks nodes.
    at_fault c.args.graph.now c.laws.ensures.lawful c.args.root sinks nodes c.args.hops.now c.tell_hop.result (told_fault c.args.graph.now c.in-Some-enter.fault) c.tell_hop.ensures
    (hop_told c.args.graph.now c.laws.ensures.lawful c.args.root sinks nodes c.args.hops.now c.requires.hops c.in-Some-enter.fault c.in-Some-enter.ensures.fault)
