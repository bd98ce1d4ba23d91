use Rattle.layout_check.proofs.Prelude.{◌≡◌, true, sym, ◌∙◌, ap, ◌++◌, ◌∷◌, [], get_or_default, All-more, is_node, graph_of, number_of}
use Rattle.layout_check.proofs.Numbers.{its_number, map_more}
use Rattle.layout_check.proofs.numbered.add_numbers.Goals as goal

pub loop-node-preserved : goal.loop-node-preserved
loop-node-preserved c = (
  map_more (number_of (graph_of c.args.graph.now)) c.args.path.now c.loop-node.node-index _ c.args.numbers.now.items c.loop-node.numbers.items c.push.new.self.items c.loop-node-test.true c.loop-node.invariant.0
      (get_or_default c.args.path.now c.loop-node.node-index _ _ c.loop-node-test.true)
      (c.in_ok-push-in-Some.ensures.items ∙ ap (λ number. c.loop-node.numbers.items ++ number ∷ []) (its_number c.args.graph.now c.laws.ensures.lawful _ c.in-Some.number c.in-Some.ensures.value.0 c.in-Some.ensures.value.1)),
  All-more (λ node. is_node c.args.graph.now.arch c.args.graph.now.strip node ≡ true) c.args.path.now c.loop-node.node-index _ c.loop-node-test.true c.loop-node.invariant.1 (sym c.in-Some.ensures.there),
)
