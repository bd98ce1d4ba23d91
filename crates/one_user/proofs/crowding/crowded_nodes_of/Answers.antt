use Rattle.one_user.proofs.Prelude.{List, [], ◌∷◌, ◌++◌, ◌+◌, get_or, subst, sym, take, take_more, AllZip, IsCrowdedNode, CrowdedNode}
use Rattle.one_user.proofs.Told.{told_more}
use Rattle.one_user.proofs.crowding.crowded_nodes_of.Goals as goal

pub loop-number-preserved : goal.loop-number-preserved
loop-number-preserved g c =
    let is_told = IsCrowdedNode (g.G.StripGraph.basis c.args.graph.now) c.args.routing.now.trees in
    let numbers = c.args.numbers.now in
    let index = c.loop-number.number-index in
    subst (λ (nodes : List CrowdedNode). AllZip is_told (take (index + 1) numbers) nodes) (sym c.in_ok-push.ensures.items)
    (subst (λ xs. AllZip is_told xs (c.loop-number.nodes.items ++ c.in_ok-crowded_node.field-0 ∷ [])) (sym (take_more numbers index 0 c.loop-number-test.true))
    (told_more is_told (take index numbers) c.loop-number.nodes.items (get_or numbers index 0) c.in_ok-crowded_node.field-0 c.loop-number.invariant c.in_ok-crowded_node.ensures))
