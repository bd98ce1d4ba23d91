use Rattle.one_user.proofs.Prelude.{arith, ◌∙◌, counts_none, counts_one, over_of}
use Rattle.one_user.proofs.crowding.overused_count.Goals as goal
use Rattle.one_user.proofs.crowding.overused_count.Goals.{then-overs-node-gt0, else-overs-node-gt0}

pub loop-node-preserved : goal.loop-node-preserved
loop-node-preserved c =
    let over = over_of c.args.overs.now in
    elim c.if-overs-node-gt0.branch [
      | then-overs-node-gt0 w ↦ record {
        is = w.nodes-is ∙ counts_one over c.loop-node.node c.loop-node.nodes c.loop-node.invariant.is (omega (arith, w.if-overs-node-gt0));
        small = omega (arith, w.nodes-is, c.loop-node.invariant.small);
      }
      | else-overs-node-gt0 w ↦ record {
        is = w.nodes-is ∙ counts_none over c.loop-node.node c.loop-node.nodes c.loop-node.invariant.is (omega (arith, w.if-overs-node-gt0));
        small = omega (arith, w.nodes-is, c.loop-node.invariant.small);
      }
    ]
