use Rattle.rr_graph.proofs.Prelude.{◌≡◌, ◌≤◌, sym, subst, ◌∙◌, ◌&&◌, ◌||◌, nat_le, true, and_parts, leb-true, Strip, is_node, is_slot, is_chan_y, column_count, with_width}
use Rattle.rr_graph.proofs.Fabrics.{fabric_numbered, fabric_node}
use Rattle.rr_graph.proofs.Widths.{node_of_all, number_of_width}
use Rattle.rr_graph.proofs.part.GraphPartStripGraph.number.Goals as goal

pub number-requires : goal.number-requires
number-requires c =
    let nodes = c.self.inside.nodes.now.numbering in
    let is : is_node nodes.arch (with_width nodes c.self.inside.width).strip c.args.node ≡ true =
    subst (λ (s : Strip). is_node nodes.arch s c.args.node ≡ true) c.strip_of-strip.ensures (sym c.is_node.ensures ∙ c.if-not-is_node.false) in
    node_of_all nodes c.self.inside.width c.args.node c.self.invariant.few is

pub returns-clause-value : goal.returns-clause-value
returns-clause-value c =
    let nodes = with_width c.self.inside.nodes.now.numbering c.self.inside.width in
    let fabric = c.self.invariant.kept.fabric in
    let node = c.args.node in
    let is : is_node nodes.arch nodes.strip node ≡ true = subst (λ (s : Strip). is_node nodes.arch s node ≡ true) c.strip_of-strip.ensures (sym c.is_node.ensures ∙ c.if-not-is_node.false) in
    let few : node.x ≤ nodes.strip.width =
    leb-true node.x nodes.strip.width (and_parts (nat_le node.x nodes.strip.width) ((nat_le 1 node.x || is_chan_y node.kind) && is_slot nodes.arch nodes.strip node.kind node.y node.n) is).0 in
    let within = fabric_numbered nodes c.self.inside.table.now _ c.number.result fabric c.self.view_is
    (number_of_width (column_count nodes) node.x c.number.result nodes.before nodes.strip.width c.number.ensures.within few) in
    (within, sym (fabric_node nodes c.self.inside.table.now _ c.number.result fabric c.self.view_is within) ∙ c.number.ensures.value)
