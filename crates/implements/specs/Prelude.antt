-- The names of the crates below that this crate's definitions and contracts use.
pub use Rattle.arch_file.specs.declared.arch.Arch.{Arch}
pub use Rattle.arch_file.specs.declared.arch.PinClass.{PinClass}
pub use Rattle.arch_file.specs.declared.arch.PinClass.TheVariants.{Clock, Input, Output}
pub use Rattle.ble_cluster.specs.Bles.{LogicElement, is_read_once}
pub use Rattle.ble_cluster.specs.Nets.{distinct_nets, has}
pub use Rattle.blif.specs.LawfulCircuits.{IsNarrow}
pub use Rattle.blif.specs.LookupTables.{LookupTable}
pub use Rattle.blif.specs.declared.circuit.Circuit.{Circuit}
pub use Rattle.blif.specs.declared.latches.Latch.{Latch}
pub use Rattle.block_places.specs.Fits.{kind_of}
pub use Rattle.block_places.specs.Placed.{ArePlaced, place_of}
pub use Rattle.cluster.specs.Blocks.{BlockNet, block_nets, blocks_of, elements_in, is_global, is_same_class, pins_of}
pub use Rattle.cluster.specs.Clusters.{PackedCircuit}
pub use Rattle.cluster.specs.LawfulPackings.{IsPacked}
pub use Rattle.cluster.specs.PackingLaws.{IsLawfulPacking}
pub use Rattle.cluster.specs.declared.block.Block.{Block}
pub use Rattle.cluster.specs.declared.block.Block.TheVariants.{Cluster, InputPad, OutputPad}
pub use Rattle.grid.specs.Places.{places_of}
pub use Rattle.grid.specs.declared.Strip.{Strip}
pub use Rattle.grid.specs.declared.place.Place.{Place}
pub use Rattle.pathfinder.specs.LegalRoutes.{IsLegal, IsRouted, LeadsOver, pairs_of, path_nodes}
pub use Rattle.pathfinder.specs.Terminals.{is_same_node, sink_at, source_at}
pub use Rattle.rr_graph.specs.Geometry.{capacity_of, is_edge}
pub use Rattle.rr_graph.specs.declared.node.Node.{Node}
pub use Rattle.vpr_files.specs.NetFile.{driver_place, pin_with}
