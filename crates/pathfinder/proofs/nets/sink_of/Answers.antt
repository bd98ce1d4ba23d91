use Rattle.pathfinder.proofs.Prelude.{◌≡◌, ◌∙◌, ap, subst, sym, true, get_or_from_slice_get, Cluster, blocks_of, is_node, graph_of, block_at, place_of, number_of, sink_at}
use Rattle.pathfinder.proofs.PlacedTerminals.{block_sink}
use Rattle.pathfinder.proofs.nets.sink_of.Goals as goal

pub number_of-requires : goal.number_of-requires
number_of-requires g c =
    let basis = g.G.StripGraph.basis c.args.graph.now in
    let packed = c.args.packed.now in
    let place = place_of c.args.places.now c.args.block in
    let is : block_at packed c.args.block ≡ c.block.result = get_or_from_slice_get (blocks_of packed) c.args.block c.block.result (Cluster 0) c.block.ensures in
    let there = block_sink basis c.laws.ensures.basis c.laws.ensures.lawful packed c.args.places.now c.requires.placed c.laws_of_places.ensures.within c.args.block c.requires.within in
    rw c.sink_at.ensures (subst (λ block. is_node basis.arch basis.strip (sink_at block place) ≡ true) is there)

pub returns : goal.returns
returns g c =
    let basis = g.G.StripGraph.basis c.args.graph.now in
    let packed = c.args.packed.now in
    let place = place_of c.args.places.now c.args.block in
    let is : block_at packed c.args.block ≡ c.block.result = get_or_from_slice_get (blocks_of packed) c.args.block c.block.result (Cluster 0) c.block.ensures in
    c.number_of.ensures ∙ ap (number_of (graph_of basis)) (c.sink_at.ensures ∙ ap (λ block. sink_at block place) (sym is))
