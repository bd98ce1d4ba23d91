use Rattle.pathfinder.proofs.Prelude.{◌≡◌, ◌∙◌, ◌++◌, List, ℕ, ap, subst, sym, IsPath, cost_of, wiring_of, tabled_graph}
use Rattle.pathfinder.proofs.prices.Prices.known_into.Goals as goal

pub returns : goal.returns
returns g c = λ _.
    let round = c.args.self.now.round.now in
    let graph = tabled_graph (wiring_of (g.G.StripGraph.basis round.graph.now)) round.iterations round.history.now c.args.self.now.held.now in
    let old : List ℕ = c.args.sought.old.now in
    let same : c.extend_from_slice.new.self.items ≡ old = c.in_ok-extend_from_slice.ensures.items ∙ ap (λ (xs : List ℕ). xs ++ old) c.clear.ensures.items in
    record {
      is_path = subst (λ (nodes : List ℕ). IsPath graph c.args.sought.starts.now c.args.sought.sink nodes) (sym same) (c.is_path.ensures graph c.requires.joined c.if-not-is_path.false);
      sum = c.cost_of-path.ensures ∙ ap (cost_of graph) (sym same);
    }
