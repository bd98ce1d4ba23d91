-- The names of the crates below that this crate's definitions and contracts use.
pub use Rattle.blif.specs.LawfulCircuits.{has_net}
pub use Rattle.blif.specs.declared.circuit.Circuit.{Circuit}
pub use Rattle.blif.specs.declared.latches.Latch.{Latch}
pub use Rattle.grid.specs.declared.place.Place.{Place}
pub use Rattle.line_text.specs.Writing.{Writes}
pub use Rattle.longest_path.specs.declared.longest.LongestPath.{LongestPath}
pub use Rattle.path_wires.specs.Wires.{AreWires}
pub use Rattle.path_wires.specs.declared.hops.Hop.{Hop}
pub use Rattle.rr_graph.specs.declared.node.Node.{Node}
pub use Rattle.rr_graph.specs.declared.node.NodeKind.TheVariants.{Sink}
pub use Rattle.strip_files.specs.Parts.{elements_of, nodes_of}
pub use Rattle.strip_files.specs.declared.block.BlockKind.{BlockKind}
pub use Rattle.strip_files.specs.declared.block.BlockKind.TheVariants.{Cluster, InputPad, OutputPad}
pub use Rattle.strip_files.specs.declared.block.PlacedBlock.{PlacedBlock}
pub use Rattle.strip_files.specs.declared.reader.RoutedStrip.{RoutedStrip}
pub use Rattle.strip_files.specs.declared.route_node.RouteNode.{RouteNode}
