use Rattle.pathfinder.proofs.Prelude.{◌≡◌, ◌∙◌, ◌++◌, ◌∷◌, [], ap, subst, get_or, arith, ◌<◌, length, List, map, sym, take_all, get_or_from_slice_get, BlockNet, block_nets, IsBlockNet, Net, net_to_route, nets_to_route}
use Rattle.pathfinder.proofs.Lists.{map_more}
use Rattle.pathfinder.proofs.nets.nets_of.Goals as goal

pub terminals_of-requires-clause-net : goal.terminals_of-requires-clause-net
terminals_of-requires-clause-net g c =
    let packed = c.args.packed.now in
    let net : BlockNet = record { net = c.net.result.net; driver = c.net.result.driver; readers = c.net.result.readers.now; global = c.net.result.global } in
    let within : c.loop-number.number < length (block_nets packed) = omega (arith, c.loop-number-test.true, c.net_count-number-end.ensures) in
    let is : get_or (block_nets packed) c.loop-number.number net ≡ net = get_or_from_slice_get (block_nets packed) c.loop-number.number net net c.net.ensures in
    subst (IsBlockNet packed) is ((c.laws_of_packing.ensures packed c.laws.ensures).nets c.loop-number.number net within)

pub loop-number-preserved : goal.loop-number-preserved
loop-number-preserved g c =
    let basis = g.G.StripGraph.basis c.args.graph.now in
    let packed = c.args.packed.now in
    let net : BlockNet = record { net = c.net.result.net; driver = c.net.result.driver; readers = c.net.result.readers.now; global = c.net.result.global } in
    let within : c.loop-number.number < length (block_nets packed) = omega (arith, c.loop-number-test.true, c.net_count-number-end.ensures) in
    let is : net ≡ get_or (block_nets packed) c.loop-number.number net = sym (get_or_from_slice_get (block_nets packed) c.loop-number.number net net c.net.ensures) in
    c.in_ok-push.ensures.items ∙ ap (λ (t : Net). c.loop-number.nets.items ++ t ∷ []) (c.in_ok-terminals_of.ensures ∙ ap (net_to_route basis packed c.args.places.now) is)
    ∙ map_more (net_to_route basis packed c.args.places.now) (block_nets packed) c.loop-number.number net c.loop-number.nets.items c.loop-number.invariant within

pub returns : goal.returns
unfolding nets_to_route
returns g c =
    let packed = c.args.packed.now in
    c.loop-number.invariant ∙ ap (λ (nets : List BlockNet). map (net_to_route (g.G.StripGraph.basis c.args.graph.now) packed c.args.places.now) nets)
    (take_all c.loop-number.number (block_nets packed) (omega (arith, c.loop-number-test.false, c.net_count-number-end.ensures)))
