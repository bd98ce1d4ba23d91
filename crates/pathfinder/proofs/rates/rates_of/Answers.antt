use Rattle.pathfinder.proofs.Prelude.{refl, ◌+◌, ◌∙◌, ap, subst, sym, Node, capacity_of, AreRatesBelow}
use Rattle.std.specs.Prelude.{slice_index}
use Rattle.pathfinder.proofs.NodeRates.{rates_more}
use Rattle.pathfinder.proofs.rates.rates_of.Goals as goal

pub loop-node-preserved : goal.loop-node-preserved
loop-node-preserved g c =
    let basis = g.G.StripGraph.basis c.args.graph.now in
    subst (λ rates. AreRatesBelow basis c.args.history.now (c.loop-node.node + 1) rates) (sym c.in_ok-push.ensures.items)
    (rates_more basis c.args.history.now c.loop-node.node c.loop-node.rates.items (record { factor = 1 + slice_index c.args.history.now c.loop-node.node; capacity = c.capacity_at-capacity.result }) c.loop-node.invariant refl (c.capacity_at-capacity.ensures ∙ ap (λ (node : Node). capacity_of basis.arch basis.strip node) c.node-place.ensures))
