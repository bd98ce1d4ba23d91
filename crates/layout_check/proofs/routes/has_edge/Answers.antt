use Rattle.layout_check.proofs.Prelude.{arith, ◌∙◌}
use Rattle.layout_check.proofs.Numbers.{edge_below, edge_listed}
use Rattle.layout_check.proofs.routes.has_edge.Goals as goal

pub returns-then-to-ends : goal.returns-then-to-ends
returns-then-to-ends c =
    edge_below c.args.graph.now c.laws.ensures.lawful c.args.from c.args.to c.requires.from c.requires.to c.ends-ends.result.list.now c.ends-ends.result.base c.ends-ends.ensures (omega arith)

pub returns : goal.returns
returns c =
    c.lists.ensures
    ∙ edge_listed c.args.graph.now c.laws.ensures.lawful c.args.from c.args.to c.requires.from c.requires.to c.ends-ends.result.list.now c.ends-ends.result.base c.ends-ends.ensures (omega arith)
