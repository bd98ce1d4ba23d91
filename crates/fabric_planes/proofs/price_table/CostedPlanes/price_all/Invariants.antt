use Rattle.fabric_planes.proofs.Prelude.{ArePrices, AreByPlaceBut, ComesFrom}
use Rattle.fabric_planes.proofs.price_table.CostedPlanes.price_all.Given as goal

abbrev pub invariant-loop-place : goal.invariant-loop-place
invariant-loop-place g l = record {
  told : ArePrices (g.G.StripGraph.basis l.self.strip.graph.now) (g.C.NodeCosts.costs l.self.costs.now) l.prices.items;
  low : AreByPlaceBut (g.G.StripGraph.basis l.self.strip.graph.now) (g.C.NodeCosts.costs l.self.costs.now) (ComesFrom (g.G.StripGraph.basis l.self.strip.graph.now) l.place 0) l.by_place.items;
}
