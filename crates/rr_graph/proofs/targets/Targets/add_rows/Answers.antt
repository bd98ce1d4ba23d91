use Rattle.rr_graph.proofs.Prelude.{arith, on_ok_weaker}
use Rattle.rr_graph.proofs.Columns.{separates_order}
use Rattle.rr_graph.proofs.Rows.{kind_begins, kind_ends, kind_there}
use Rattle.rr_graph.proofs.targets.Targets.add_rows.Goals as goal

pub add_part-requires-clause-span : goal.add_part-requires-clause-span
add_part-requires-clause-span c =
    let nodes = c.args.self.now.nodes.now.numbering in
    record {
      there = kind_there nodes c.args.self.now.x _ _ c.args.self.now.kind c.args.self.now.nodes.now.lawful c.nodes_before-from.ensures c.args.self.now.there;
      order = separates_order nodes.members.items _ _ _ _ c.nodes_before-from.ensures c.nodes_before-to.ensures (omega (arith, c.first_row.ensures, c.end_row.ensures.value));
      within = c.nodes_before-to.ensures.within;
    }

pub add_part-requires-clause-row : goal.add_part-requires-clause-row
add_part-requires-clause-row c =
    kind_begins c.args.self.now.nodes.now.numbering c.args.self.now.a c.args.row.now.items c.args.self.now.x _ c.args.self.now.kind c.args.self.now.nodes.now.lawful c.args.self.now.small.y (rw c.first_row.ensures at c.nodes_before-from.ensures) c.requires

pub returns : goal.returns
returns c =
    on_ok_weaker _ (kind_ends c.args.self.now.nodes.now.numbering c.args.self.now.a _ c.args.self.now.x _ c.args.self.now.kind c.args.self.now.nodes.now.lawful (rw c.end_row.ensures.value at c.end_row.ensures.few) (rw c.end_row.ensures.value at c.nodes_before-to.ensures)) c.add_part.ensures
