use Rattle.layout_files.proofs.Prelude.{◌∷◌, ◌∙◌, [], ◌≤◌, ℕ, ap, length, Some, sym, arith, nat_tests, map-id, Node, node_text_of, line_of, IsSmallNode, is_sink_kind}
use Rattle.layout_files.proofs.Halfway.{all_of, begun, each, next_of}
use Rattle.layout_files.proofs.ReadingRoutes.{longer, node_begins, path_some, path_texts, sink_is_last}
use Rattle.layout_files.proofs.route_lines.read_nodes.Goals as goal

pub loop-cursor-init : goal.loop-cursor-init
loop-cursor-init c = record {
  read = λ rows path after small ends e. (
    begun (λ k node. line_of (node_text_of rows node ∷ [])) (λ (node : Node). node) path after c.new-nodes.result.items c.args.cursor.now c.new-nodes.ensures.items (e ∙ ap Some (path_texts rows path after)),
    (let some = path_some path ends in omega (arith, some, ap length c.new-nodes.ensures.items)),
  );
  shorter = omega arith;
}

pub loop-cursor-preserved : goal.loop-cursor-preserved
loop-cursor-preserved c = record {
  read = λ rows path after small ends e.
      let f = λ (k : ℕ) (node : Node). line_of (node_text_of rows node ∷ []) in
      let inv = c.loop-cursor.invariant.read rows path after small ends e in
      let n = next_of f (λ (node : Node). node) path after c.loop-cursor.nodes.items c.loop-cursor.cursor inv.0 inv.1 in
      let read = c.read_node-node.ensures.read rows n.element n.rest (each IsSmallNode path _ n.element small n.at) n.text in
      let long = longer c.loop-cursor.nodes.items c.push.new.self.items c.read_node-node.result c.in_ok-push.ensures.items in
      let sink = ap (λ (node : Node). is_sink_kind node.kind) read.0 ∙ sink_is_last path (length c.loop-cursor.nodes.items) n.element ends n.at in (
        n.then c.push.new.self.items c.read_node-node.new.cursor c.read_node-node.result c.in_ok-push.ensures.items read.1 read.0,
        (let other = sym (sym c.is_sink.ensures ∙ c.if-is_sink.false) ∙ sink in let few = inv.1 in grind (arith, nat_tests, long, few, other)),
      );
  shorter = omega (arith, c.read_node-node.ensures.shorter, c.loop-cursor.invariant.shorter);
}

pub returns-then-is_sink-clause-read : goal.returns-then-is_sink-clause-read
returns-then-is_sink-clause-read c = λ rows path after small ends e.
    let f = λ (k : ℕ) (node : Node). line_of (node_text_of rows node ∷ []) in
    let inv = c.loop-cursor.invariant.read rows path after small ends e in
    let n = next_of f (λ (node : Node). node) path after c.loop-cursor.nodes.items c.loop-cursor.cursor inv.0 inv.1 in
    let read = c.read_node-node.ensures.read rows n.element n.rest (each IsSmallNode path _ n.element small n.at) n.text in
    let long = longer c.loop-cursor.nodes.items c.push.new.self.items c.read_node-node.result c.in_ok-push.ensures.items in
    let sink = ap (λ (node : Node). is_sink_kind node.kind) read.0 ∙ sink_is_last path (length c.loop-cursor.nodes.items) n.element ends n.at in
    let whole = (let last = sym (sym c.is_sink.ensures ∙ c.if-is_sink.true) ∙ sink in let few = inv.1 in let all : length path ≤ length c.push.new.self.items = grind (arith, nat_tests, long, few, last) in all) in
    let done = all_of f (λ (node : Node). node) path after c.push.new.self.items c.read_node-node.new.cursor (n.then c.push.new.self.items c.read_node-node.new.cursor c.read_node-node.result c.in_ok-push.ensures.items read.1 read.0) whole in
    (done.0 ∙ map-id path, done.1)

pub returns-clause-read : goal.returns-clause-read
returns-clause-read c = λ rows path after small ends e.
    let f = λ (k : ℕ) (node : Node). line_of (node_text_of rows node ∷ []) in
    let inv = c.loop-cursor.invariant.read rows path after small ends e in
    let n = next_of f (λ (node : Node). node) path after c.loop-cursor.nodes.items c.loop-cursor.cursor inv.0 inv.1 in
    absurd (node_begins c.loop-cursor.cursor rows n.element n.rest (sym c.has_line.ensures ∙ c.loop-cursor-test.false) n.text)
