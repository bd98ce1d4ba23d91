use Rattle.layout_check.proofs.Prelude.{◌≡◌, false, rules, graph_of, NotReached, is_in}
use Rattle.layout_check.proofs.Told.{at_one, reached_told, source_told}
use Rattle.layout_check.proofs.route.check_reach.Goals as goal

pub returns-then-not-contains-clause-exact : goal.returns-then-not-contains-clause-exact
returns-then-not-contains-clause-exact c =
    let out : is_in c.mark_all.new.marks c.args.root ≡ false = search rules in
    λ sinks. source_told c.args.graph.now c.laws.ensures.lawful c.args.root sinks c.args.nodes.now c.args.hops.now c.requires.root c.mark_all.new.marks c.mark_all.ensures.exact out

pub returns-in-Some-clause-exact : goal.returns-in-Some-clause-exact
returns-in-Some-clause-exact c = λ sinks.
    at_one c.args.graph.now c.laws.ensures.lawful c.args.root sinks c.args.nodes.now c.args.hops.now NotReached c.node.result ((graph_of c.args.graph.now).node c.in-Some.node) c.node.ensures
    (reached_told c.args.graph.now c.laws.ensures.lawful c.args.root sinks c.args.nodes.now c.args.hops.now c.requires.root c.requires.nodes c.reach.new.reached c.reach.ensures.closed c.reach.ensures.root c.in-Some.node
    c.in-Some.ensures.0 c.in-Some.ensures.1)
