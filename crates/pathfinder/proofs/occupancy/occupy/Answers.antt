use Rattle.pathfinder.proofs.Prelude.{arith, get_or}
use Rattle.pathfinder.proofs.Counts.{times-before}
use Rattle.pathfinder.proofs.occupancy.occupy.Goals as goal

pub overflow_add-held : goal.overflow_add-held
overflow_add-held c =
    let at = get_or c.args.nodes.now c.loop-node.node-index 0 in
    omega (arith, c.requires.few at, c.loop-node.invariant.1 at, times-before c.args.nodes.now c.loop-node.node-index c.loop-node-test.true)
