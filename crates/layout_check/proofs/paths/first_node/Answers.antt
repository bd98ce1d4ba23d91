use Rattle.layout_check.proofs.Prelude.{arith, Contains-get_or}
use Rattle.layout_check.proofs.Numbers.{item_is, on_path}
use Rattle.layout_check.proofs.paths.first_node.Goals as goal

pub returns-then-nodes-gt0 : goal.returns-then-nodes-gt0
returns-then-nodes-gt0 c =
    on_path c.args.paths.now c.loop-path.path-index c.nodes-nodes.result.now _ c.loop-path-test.true
    (item_is c.args.paths.now c.loop-path.path-index c.path-item.result c.nodes-nodes.result.now c.nodes-nodes.ensures c.path-item.is) (Contains-get_or c.nodes-nodes.result.now 0 _ (omega arith))
