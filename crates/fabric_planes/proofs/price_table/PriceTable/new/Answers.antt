use Rattle.fabric_planes.proofs.Prelude.{◌≡◌, ◌∙◌, ◌*◌, arith, place_count}
use Rattle.fabric_planes.proofs.price_table.PriceTable.new.Goals as goal

pub price_all-requires-clause-long_by_place : goal.price_all-requires-clause-long_by_place
price_all-requires-clause-long_by_place g c =
    let basis = g.G.StripGraph.basis c.args.graph.now in
    let turned : basis.arch.tracks * place_count basis ≡ place_count basis * basis.arch.tracks = grind arith in
    (c.in_ok-by_place.ensures basis (g.C.NodeCosts.costs c.args.costs.now) c.laws.ensures.basis c.requires.laid.shape).long ∙ turned
