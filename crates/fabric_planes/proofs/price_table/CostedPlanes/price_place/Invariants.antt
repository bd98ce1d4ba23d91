use Rattle.fabric_planes.proofs.Prelude.{ArePrices, AreByPlaceBut, ComesFrom}
use Rattle.fabric_planes.proofs.price_table.CostedPlanes.price_place.Given as goal

abbrev pub invariant-loop-track : goal.invariant-loop-track
invariant-loop-track g l = record {
  told : ArePrices (g.G.StripGraph.basis l.self.strip.graph.now) (g.C.NodeCosts.costs l.self.costs.now) l.prices.items;
  low : AreByPlaceBut (g.G.StripGraph.basis l.self.strip.graph.now) (g.C.NodeCosts.costs l.self.costs.now) (ComesFrom (g.G.StripGraph.basis l.self.strip.graph.now) l.place l.track) l.by_place.items;
}
