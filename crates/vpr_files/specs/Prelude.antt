-- The names of the crates below that this crate's definitions and contracts use.
pub use Rattle.arch_file.specs.declared.arch.PinClass.{PinClass}
pub use Rattle.arch_file.specs.declared.arch.PinClass.TheVariants.{Clock, Input, Output}
pub use Rattle.block_places.specs.Placed.{block_at, place_of}
pub use Rattle.cluster.specs.Bles.{LogicElement}
pub use Rattle.cluster.specs.Blocks.{BlockNet, block_name, block_nets, blocks_of, elements_in, is_same_class, net_name, pins_of}
pub use Rattle.cluster.specs.Clusters.{PackedCircuit, outputs_of}
pub use Rattle.cluster.specs.declared.block.Block.{Block}
pub use Rattle.cluster.specs.declared.block.Block.TheVariants.{Cluster, InputPad, OutputPad}
pub use Rattle.grid.specs.declared.Strip.{Strip}
pub use Rattle.grid.specs.declared.place.Place.{Place}
pub use Rattle.line_text.specs.Writing.{Writes}
pub use Rattle.rr_graph.specs.declared.node.Node.{Node}
pub use Rattle.rr_graph.specs.declared.node.NodeKind.{NodeKind}
pub use Rattle.rr_graph.specs.declared.node.NodeKind.TheVariants.{ChanX, ChanY, Ipin, Opin, Sink, Source}
pub use Rattle.strip_place.specs.Anneal.{places_by_block}
