use Rattle.one_user.proofs.Prelude.{ℕ, List, ◌≡◌, ◌<◌, ◌∙◌, ap, length, subst, sym, graph_of, count_over, overuse_at, wiring_of, count_same, AllZip, AreMostOverused, IsCrowdedNode, over_of}
use Rattle.one_user.proofs.Told.{most_same}
use Rattle.one_user.proofs.crowding.crowded_nodes.Goals as goal

pub returns-clause-overused : goal.returns-clause-overused
returns-clause-overused g c =
    let over = overuse_at (wiring_of (g.G.StripGraph.basis c.args.graph.now)) c.args.routing.now.trees in
    let overs = c.in_ok-overs.overs.items in
    c.overused_count-count.ensures ∙ ap (λ (xs : List ℕ). count_over (over_of xs) (length xs)) c.as_slice.ensures.value ∙ count_same (over_of overs) over (length overs) c.in_ok-overs.ensures.each ∙ ap (count_over over) c.in_ok-overs.ensures.long

pub returns-clause-nodes : goal.returns-clause-nodes
returns-clause-nodes g c =
    let over = overuse_at (wiring_of (g.G.StripGraph.basis c.args.graph.now)) c.args.routing.now.trees in
    let overs = c.in_ok-overs.overs.items in
    let most = subst (λ (xs : List ℕ). AreMostOverused (over_of xs) (length xs) 10 c.in_ok-numbers.numbers.items) c.as_slice-2.ensures.value c.in_ok-numbers.ensures in
    let ours = most_same (over_of overs) over (length overs) c.in_ok-overs.ensures.each 10 c.in_ok-numbers.numbers.items most in (
      c.in_ok-numbers.numbers.items,
      subst (λ count. AreMostOverused over count 10 c.in_ok-numbers.numbers.items) c.in_ok-overs.ensures.long ours,
      subst (λ (xs : List ℕ). AllZip (IsCrowdedNode (g.G.StripGraph.basis c.args.graph.now) c.args.routing.now.trees) xs c.in_ok-nodes.field-0.items) c.as_slice-3.ensures.value c.in_ok-nodes.ensures,
    )
