use Rattle.layout_check.proofs.Numbers.{item_is, numbered_more, on_path}
use Rattle.layout_check.proofs.numbered.number_paths.Goals as goal

pub returns-in-Some : goal.returns-in-Some
returns-in-Some c =
    let said = rw c.in-Some.is at c.in_ok-node.ensures in (
      on_path c.args.paths.now c.loop-path.path-index c.nodes.result.now c.in-Some.node c.loop-path-test.true (item_is c.args.paths.now c.loop-path.path-index c.path-item.result c.nodes.result.now c.nodes.ensures c.path-item.is) said.0,
      said.1,
    )

pub loop-path-preserved : goal.loop-path-preserved
loop-path-preserved c =
    let said = rw c.in_default.is at c.in_ok-node.ensures in
    numbered_more c.args.graph.now c.args.paths.now c.loop-path.path-index c.nodes.result.now c.loop-path.nodes.items c.add_path.new.nodes.items c.loop-path.hops.items c.add_path.new.hops.items c.loop-path-test.true
    (item_is c.args.paths.now c.loop-path.path-index c.path-item.result c.nodes.result.now c.nodes.ensures c.path-item.is) c.loop-path.invariant said.0 said.1 said.2
