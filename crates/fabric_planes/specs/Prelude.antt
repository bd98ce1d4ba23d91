-- The names of the crates below that this crate's definitions and contracts use.
pub use Rattle.arch_file.specs.declared.arch.Sides.{Sides}
pub use Rattle.grid.specs.declared.Strip.{Strip}
pub use Rattle.least_path.specs.Graph.{AreNodes, Graph, IsLawful}
pub use Rattle.least_path.specs.LeastPath.{HasNoPath, least_path}
pub use Rattle.least_path.specs.LowerBound.{IsLowerBound}
pub use Rattle.least_path.specs.Path.{IsPath, Leads, cost_of}
pub use Rattle.least_path.specs.declared.path.Path.{Path}
pub use Rattle.plane_search.specs.Planes.{Family, HoldsNothingLess, IsFamily, IsKnown, IsLeastOfTrack, IsPlace, IsPlaneBound, IsRivalBound}
pub use Rattle.plane_search.specs.Starts.{IsTooFar, places_of}
pub use Rattle.plane_search.specs.declared.planes.Start.{Start}
pub use Rattle.rr_graph.specs.Geometry.{IsWire, is_block_row, is_node, is_together, is_wire, meets, node_at_offset, sides_at}
pub use Rattle.rr_graph.specs.Graph.{AreNumbersAt, Basis, IsBasis, graph_of, make_node}
pub use Rattle.rr_graph.specs.Node.{rank_of}
pub use Rattle.rr_graph.specs.declared.node.Node.{Node}
pub use Rattle.rr_graph.specs.declared.node.NodeKind.{NodeKind}
pub use Rattle.rr_graph.specs.declared.node.NodeKind.TheVariants.{ChanX, ChanY, Ipin, Opin, Sink, Source}
