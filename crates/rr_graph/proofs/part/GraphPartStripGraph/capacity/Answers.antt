use Rattle.rr_graph.proofs.Prelude.{ap, ◌∙◌, capacity_of, graph_of, with_width}
use Rattle.rr_graph.proofs.Fabrics.{fabric_columns, fabric_node}
use Rattle.rr_graph.proofs.part.GraphPartStripGraph.capacity.Goals as goal

pub node-requires : goal.node-requires
node-requires c = fabric_columns (with_width c.self.inside.nodes.now.numbering c.self.inside.width) c.self.inside.table.now _ c.args.node c.self.invariant.kept.fabric c.self.view_is c.requires

pub returns : goal.returns
returns c = c.capacity_of.ensures
    ∙ (ap (capacity_of (with_width c.self.inside.nodes.now.numbering c.self.inside.width).arch (with_width c.self.inside.nodes.now.numbering c.self.inside.width).strip)
    (c.node.ensures ∙ fabric_node (with_width c.self.inside.nodes.now.numbering c.self.inside.width) c.self.inside.table.now _ c.args.node c.self.invariant.kept.fabric c.self.view_is c.requires)
    ∙ ap (λ g. capacity_of g.arch g.strip ((graph_of c.args.self.now).node c.args.node)) c.self.view_is)
