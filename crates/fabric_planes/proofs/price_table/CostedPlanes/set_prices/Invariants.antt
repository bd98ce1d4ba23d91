use Rattle.fabric_planes.proofs.Prelude.{AreByPlaceBut}
use Rattle.fabric_planes.proofs.Priced.{ArePricesBut, IsLeft}
use Rattle.fabric_planes.proofs.price_table.CostedPlanes.set_prices.Given as goal

abbrev pub invariant-loop-node : goal.invariant-loop-node
invariant-loop-node g l = record {
  told : ArePricesBut (g.G.StripGraph.basis l.self.strip.graph.now) (g.C.NodeCosts.costs l.self.costs.now) (IsLeft l.nodes l.node-index) l.prices.items;
  low : AreByPlaceBut (g.G.StripGraph.basis l.self.strip.graph.now) (g.C.NodeCosts.costs l.self.costs.now) (IsLeft l.nodes l.node-index) l.by_place.items;
}
