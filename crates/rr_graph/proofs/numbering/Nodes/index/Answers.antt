use Rattle.rr_graph.proofs.Prelude.{◌+◌, ◌*◌, ◌∙◌, ◌&&◌, ◌||◌, nat_le, sym, subst, arith, and_parts, rank_of, AreOrdered, Separates, is_slot, is_chan_y}
use Rattle.rr_graph.proofs.Numberings.{all_small}
use Rattle.rr_graph.proofs.Graphs.{there_small}
use Rattle.rr_graph.proofs.Tracks.{track_index}
use Rattle.rr_graph.proofs.numbering.Nodes.index.Goals as goal

pub nodes_before-requires : goal.nodes_before-requires
nodes_before-requires c = omega (arith, (there_small c.args.self.now.numbering c.args.node c.args.self.now.lawful c.requires).0)

pub first_from-requires-clause-members : goal.first_from-requires-clause-members
first_from-requires-clause-members c =
    subst AreOrdered (sym c.as_slice.ensures.value) (record { rising = c.args.self.now.lawful.column.all.rising; small = all_small _ c.args.self.now.lawful })

pub first_from-requires-clause-y : goal.first_from-requires-clause-y
first_from-requires-clause-y c = omega (arith, (there_small c.args.self.now.numbering c.args.node c.args.self.now.lawful c.requires).0)

pub first_from-requires-clause-n : goal.first_from-requires-clause-n
first_from-requires-clause-n c = omega (arith, (there_small c.args.self.now.numbering c.args.node c.args.self.now.lawful c.requires).1)

pub returns-then-is_wire : goal.returns-then-is_wire
returns-then-is_wire c =
    let nodes = c.args.self.now.numbering in
    let node = c.args.node in
    let small = there_small nodes node c.args.self.now.lawful c.requires in
    let outer = and_parts (nat_le node.x nodes.strip.width) ((nat_le 1 node.x || is_chan_y node.kind) && is_slot nodes.arch nodes.strip node.kind node.y node.n) c.requires in
    let slot = (and_parts (nat_le 1 node.x || is_chan_y node.kind) (is_slot nodes.arch nodes.strip node.kind node.y node.n) outer.1).1 in
    track_index nodes node.kind node.y c.nodes_before.result node.n c.args.self.now.lawful (omega (arith, small.0)) (omega (arith, small.1)) (sym c.is_wire.ensures ∙ c.if-is_wire.true) slot c.nodes_before.ensures

pub returns-else-is_wire : goal.returns-else-is_wire
returns-else-is_wire c =
    let node = c.args.node in
    subst (λ members. Separates members (rank_of node.kind * 65536 + node.y * 256 + node.n) c.first_from.result) c.as_slice.ensures.value c.first_from.ensures
