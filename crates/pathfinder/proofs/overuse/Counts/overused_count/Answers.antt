use Rattle.pathfinder.proofs.Prelude.{arith, ◌∙◌, over_in}
use Rattle.pathfinder.proofs.Overuses.{counts_none, counts_one}
use Rattle.pathfinder.proofs.overuse.Counts.overused_count.Goals as goal
use Rattle.pathfinder.proofs.overuse.Counts.overused_count.Goals.{then-held-node, else-held-node}

pub loop-node-preserved : goal.loop-node-preserved
loop-node-preserved g c =
    let over = over_in (g.G.StripGraph.basis c.args.self.now.graph.now) c.args.self.now.held.now in
    elim c.if-held-node.branch [
      | then-held-node w ↦ record {
        is = w.nodes-is ∙ counts_one over c.loop-node.node c.loop-node.nodes c.loop-node.invariant.is (omega (arith, w.if-held-node, c.capacity.ensures));
        small = omega (arith, w.nodes-is, c.loop-node.invariant.small);
      }
      | else-held-node w ↦ record {
        is = w.nodes-is ∙ counts_none over c.loop-node.node c.loop-node.nodes c.loop-node.invariant.is (omega (arith, w.if-held-node, c.capacity.ensures));
        small = omega (arith, w.nodes-is, c.loop-node.invariant.small);
      }
    ]
