use Rattle.pathfinder.proofs.Priced.{agree}
use Rattle.pathfinder.proofs.round.Round.reprice.Goals as goal

pub update-requires-clause-before : goal.update-requires-clause-before
update-requires-clause-before g c =
    let round = c.args.self.now in
    let basis = g.G.StripGraph.basis round.graph.now in
    let before = c.requires.before in
    (_, before.1, agree basis round.iterations round.history.now before.0 c.args.held.now c.args.nodes.now before.2)
