use Rattle.rr_graph.proofs.Prelude.{◌∙◌, with_width}
use Rattle.rr_graph.proofs.Fabrics.{fabric_within, fabric_columns, fabric_ends, row_place}
use Rattle.rr_graph.proofs.part.GraphPart.all_ends.Goals as goal

pub column-x-requires : goal.column-x-requires
column-x-requires c =
    fabric_columns (with_width c.self.inside.nodes.now.numbering c.self.inside.width) c.self.inside.table.now _ c.args.node c.self.invariant.kept.fabric c.self.view_is c.requires

pub row_from-requires-clause-row : goal.row_from-requires-clause-row
row_from-requires-clause-row c =
    let nodes = with_width c.self.inside.nodes.now.numbering c.self.inside.width in
    let tables = c.self.inside.table.now in
    let fabric = c.self.invariant.kept.fabric in
    row_place nodes tables c.args.node fabric (fabric_within nodes tables _ c.args.node fabric c.self.view_is c.requires)

pub returns : goal.returns
returns c =
    c.row_from.ensures ∙ fabric_ends (with_width c.self.inside.nodes.now.numbering c.self.inside.width) c.self.inside.table.now _ c.args.node c.self.invariant.kept.fabric c.self.view_is c.requires
