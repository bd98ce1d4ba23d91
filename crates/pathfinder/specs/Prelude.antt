-- The names of the crates below that this crate's definitions and contracts use.
pub use Rattle.arch_file.specs.declared.arch.Arch.{Arch}
pub use Rattle.blif.specs.declared.circuit.TheConstants.{MAX_NETS}
pub use Rattle.block_places.specs.Placed.{ArePlaced, block_at, place_of}
pub use Rattle.cluster.specs.Blocks.{BlockNet, block_nets, blocks_of}
pub use Rattle.cluster.specs.Clusters.{PackedCircuit}
pub use Rattle.cluster.specs.PackingLaws.{IsBlockNet}
pub use Rattle.cluster.specs.declared.block.Block.{Block}
pub use Rattle.cluster.specs.declared.block.Block.TheVariants.{Cluster}
pub use Rattle.fabric_planes.specs.Laid.{IsLayout}
pub use Rattle.fabric_planes.specs.Layout.{IsStart}
pub use Rattle.fabric_planes.specs.NetSearches.{IsPathAt, terminals_of}
pub use Rattle.fabric_planes.specs.Prices.{HasPrices}
pub use Rattle.fabric_planes.specs.declared.price_table.PriceTable.{PriceTable}
pub use Rattle.grid.specs.declared.Strip.{Strip}
pub use Rattle.grid.specs.declared.place.Place.{Place}
pub use Rattle.least_path.specs.Graph.{AreNodes, Graph, IsLawful}
pub use Rattle.least_path.specs.LeastPath.{IsLeastPath, least_path}
pub use Rattle.least_path.specs.Path.{IsPath, cost_of}
pub use Rattle.rr_graph.specs.Geometry.{capacity_of, is_edge, is_node}
pub use Rattle.rr_graph.specs.Graph.{Basis, IsBasis, RoutingGraph, graph_of, make_node}
pub use Rattle.rr_graph.specs.Node.{rank_of}
pub use Rattle.rr_graph.specs.declared.node.Node.{Node}
pub use Rattle.rr_graph.specs.declared.node.NodeKind.{NodeKind}
pub use Rattle.rr_graph.specs.declared.node.NodeKind.TheVariants.{ChanX, ChanY, Ipin, Opin, Sink, Source}
