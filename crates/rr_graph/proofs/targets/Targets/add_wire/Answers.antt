use Rattle.rr_graph.proofs.Prelude.{◌≡◌, sym, ◌∙◌, rules, false≢true, column_count}
use Rattle.rr_graph.proofs.Tracks.{wire_there, wire_added, wire_none}
use Rattle.rr_graph.proofs.targets.Targets.add_wire.Goals as goal
use Rattle.rr_graph.proofs.targets.Targets.add_wire.Goals.{else-is_slot-via-then-is_slot+else-joins, else-is_slot-via-else-is_slot}

pub overflow_sub-x : goal.overflow_sub-x
overflow_sub-x c =
    let lens : c.len.result ≡ column_count c.args.self.now.nodes.now.numbering = search rules in
    rw lens (wire_there c.args.self.now.nodes.now.numbering c.args.self.now.x c.args.y c.nodes_before.result c.args.self.now.a.n c.args.self.now.kind c.args.self.now.nodes.now.lawful c.nodes_before.ensures c.args.self.now.there)

pub returns-in_ok-push : goal.returns-in_ok-push
returns-in_ok-push c =
    let lens : c.len.result ≡ column_count c.args.self.now.nodes.now.numbering = search rules in
    rw (c.in_ok-push.ensures.items, lens)
    (wire_added c.args.self.now.nodes.now.numbering c.args.self.now.a c.args.row.now.items c.args.self.now.x c.args.y c.nodes_before.result c.args.self.now.kind c.args.self.now.nodes.now.lawful c.requires.y c.args.self.now.small.n c.requires.wires.from c.requires.wires.to
    c.args.self.now.there c.nodes_before.ensures c.requires.row (sym c.is_slot.ensures ∙ c.if-is_slot.true) (sym c.joins.ensures ∙ c.if-joins.true))

pub returns-else-is_slot : goal.returns-else-is_slot
returns-else-is_slot c = elim c.else-is_slot.branch [
  | else-is_slot-via-then-is_slot+else-joins w ↦
      wire_none c.args.self.now.nodes.now.numbering c.args.self.now.a c.args.row.now.items c.args.self.now.x c.args.y c.args.self.now.kind c.args.self.now.nodes.now.lawful c.requires.y c.requires.wires.from c.requires.wires.to c.requires.row
      (λ is led. false≢true (sym w.if-joins.false ∙ (w.joins.ensures ∙ led)))
  | else-is_slot-via-else-is_slot w ↦
      wire_none c.args.self.now.nodes.now.numbering c.args.self.now.a c.args.row.now.items c.args.self.now.x c.args.y c.args.self.now.kind c.args.self.now.nodes.now.lawful c.requires.y c.requires.wires.from c.requires.wires.to c.requires.row
      (λ is led. false≢true (sym w.if-is_slot.false ∙ (c.is_slot.ensures ∙ is)))
]
