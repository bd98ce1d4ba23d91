-- The names of the crates below that this crate's definitions and contracts use.
pub use Rattle.arch_file.specs.declared.arch.Arch.{Arch}
pub use Rattle.arch_file.specs.declared.arch.PinClass.TheVariants.{Clock, Output}
pub use Rattle.ble_cluster.specs.Bles.{LogicElement, is_read_once, reads_of}
pub use Rattle.ble_cluster.specs.Nets.{IsOnce, has}
pub use Rattle.blif.specs.LawfulCircuits.{IsCircuit}
pub use Rattle.blif.specs.LookupTables.{LookupTable}
pub use Rattle.blif.specs.declared.circuit.Circuit.{Circuit}
pub use Rattle.blif.specs.declared.latches.Latch.{Latch}
pub use Rattle.block_places.specs.Fits.{kind_of}
pub use Rattle.cluster.specs.Blocks.{is_global, is_same_class}
pub use Rattle.cluster.specs.declared.block.Block.{Block}
pub use Rattle.grid.specs.PlaceLaws.{IsPlaceIn}
pub use Rattle.grid.specs.Places.{places_of}
pub use Rattle.grid.specs.Sizes.{IsStripSize}
pub use Rattle.grid.specs.declared.Strip.{Strip}
pub use Rattle.grid.specs.declared.place.Place.{Place}
pub use Rattle.implements.specs.Holding.{AreBlesOf, holds_latch, holds_table, is_latch, is_pair, is_same_net, is_table, receives}
pub use Rattle.implements.specs.Implements.{Implements, IsLaid, IsNarrowBle, ble_places, drives, has_on, input_at, is_net, leaves_as, listed_with, output_at, sinks_of, wants}
pub use Rattle.implements.specs.Layouts.{IsFed, LaidBle, LaidBlock, LaidNet, Layout, input_net, on_pin, traced_ble, traced_bles}
pub use Rattle.implements.specs.declared.feed.Feed.{Feed}
pub use Rattle.pathfinder.specs.LegalRoutes.{IsLeaf, IsRoute, IsRouted, LeadsOver, pairs_of, path_nodes, steps_of}
pub use Rattle.pathfinder.specs.LegalTrees.{HasOnePin}
pub use Rattle.pathfinder.specs.PlacedNets.{number_of, wiring_of}
pub use Rattle.pathfinder.specs.Terminals.{is_same_node, sink_at, source_at}
pub use Rattle.rr_graph.specs.Geometry.{capacity_of, is_edge, is_node}
pub use Rattle.rr_graph.specs.Graph.{Basis, RoutingGraph, graph_of}
pub use Rattle.rr_graph.specs.declared.node.Node.{Node}
pub use Rattle.rr_graph.specs.declared.node.NodeKind.TheVariants.{Opin}
