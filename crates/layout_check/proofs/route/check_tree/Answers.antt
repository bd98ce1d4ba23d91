use Rattle.layout_check.proofs.Prelude.{graph_of, IsRoute, IsRouteFault, AreEnds, IsFaultOf, ℕ}
use Rattle.layout_check.proofs.Matches.{match_weaker}
use Rattle.layout_check.proofs.Told.{route_told}
use Rattle.layout_check.proofs.route.check_tree.Goals as goal

pub returns-in-Some-clause-exact : goal.returns-in-Some-clause-exact
returns-in-Some-clause-exact c = λ paths ends so are. c.in-Some.ensures.exact c.args.sinks.now c.args.nodes.now paths ends so are

pub returns-in-Some-check_reach-clause-exact : goal.returns-in-Some-check_reach-clause-exact
returns-in-Some-check_reach-clause-exact c = λ paths ends so are. c.in-Some-check_reach.ensures.exact c.args.sinks.now paths ends so are

pub returns-clause-exact : goal.returns-clause-exact
returns-clause-exact c = λ paths ends so are.
    let ways = rw c.in_default.is at c.check_hops.ensures.exact in
    match_weaker c.check_ends.result (AreEnds c.args.sinks.now c.args.nodes.now c.args.hops.now) (IsRoute c.args.graph.now.arch c.args.graph.now.strip ((graph_of c.args.graph.now).node c.args.root) ends paths)
    (λ fault. (root : ℕ) → IsFaultOf c.args.graph.now root c.args.sinks.now c.args.nodes.now c.args.hops.now fault) (IsRouteFault c.args.graph.now ((graph_of c.args.graph.now).node c.args.root) ends paths)
    (λ sinks_are.
    route_told c.args.graph.now c.laws.ensures.lawful c.args.root c.args.sinks.now c.args.nodes.now c.args.hops.now c.requires.root ways.0 ways.1 (rw c.in_default-check_reach.is at c.check_reach.ensures.exact)
    (rw c.in_default-check_pins.is at c.check_pins.ensures) sinks_are paths ends so are)
    (λ fault said. said c.args.root paths ends so are) c.check_ends.ensures.exact
