use Rattle.rr_graph.proofs.Prelude.{◌∙◌, with_width}
use Rattle.rr_graph.proofs.Fabrics.{fabric_columns, fabric_node}
use Rattle.rr_graph.proofs.part.GraphPartStripGraph.node.Goals as goal

pub node-requires : goal.node-requires
node-requires c = fabric_columns (with_width c.self.inside.nodes.now.numbering c.self.inside.width) c.self.inside.table.now _ c.args.node c.self.invariant.kept.fabric c.self.view_is c.requires

pub returns : goal.returns
returns c = c.node.ensures ∙ fabric_node (with_width c.self.inside.nodes.now.numbering c.self.inside.width) c.self.inside.table.now _ c.args.node c.self.invariant.kept.fabric c.self.view_is c.requires
