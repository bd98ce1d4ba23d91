-- The names of the crates below that this crate's definitions and contracts use.
pub use Rattle.arch_file.specs.Arch.{IsWithin}
pub use Rattle.arch_file.specs.declared.arch.Arch.{Arch}
pub use Rattle.arch_file.specs.declared.arch.PinClass.TheVariants.{Input, Output}
pub use Rattle.ble_cluster.specs.Nets.{has}
pub use Rattle.blif.specs.LawfulCircuits.{IsCircuit}
pub use Rattle.blif.specs.LookupTables.{LookupTable}
pub use Rattle.blif.specs.declared.circuit.Circuit.{Circuit}
pub use Rattle.blif.specs.declared.latches.Latch.{Latch}
pub use Rattle.cluster.specs.Blocks.{is_same_class}
pub use Rattle.cluster.specs.declared.block.Block.{Block}
pub use Rattle.cluster.specs.declared.block.Block.TheVariants.{Cluster, InputPad, OutputPad}
pub use Rattle.grid.specs.Places.{place_at, places_of}
pub use Rattle.grid.specs.Sizes.{IsStripSize}
pub use Rattle.grid.specs.declared.Strip.{Strip}
pub use Rattle.grid.specs.declared.place.Kind.TheVariants.{Pad}
pub use Rattle.grid.specs.declared.place.Place.{Place}
pub use Rattle.implements.specs.Holding.{holds_latch, holds_table, receives}
pub use Rattle.implements.specs.Implements.{Implements}
pub use Rattle.implements.specs.Layouts.{LaidBle, LaidBlock, LaidNet, Layout, on_pin, traced_ble}
pub use Rattle.implements.specs.declared.feed.Feed.{Feed}
pub use Rattle.implements.specs.declared.feed.Feed.TheVariants.{Ble, Pin}
pub use Rattle.line_text.specs.Lines.{JoinedLine}
pub use Rattle.pathfinder.specs.LegalRoutes.{LeadsOver, pairs_of}
pub use Rattle.pathfinder.specs.Terminals.{is_same_node, sink_at, source_at}
pub use Rattle.rr_graph.specs.Geometry.{is_node, is_pad_row, node_at_offset}
pub use Rattle.rr_graph.specs.Graph.{make_node}
pub use Rattle.rr_graph.specs.declared.node.Node.{Node}
pub use Rattle.rr_graph.specs.declared.node.NodeKind.{NodeKind}
pub use Rattle.rr_graph.specs.declared.node.NodeKind.TheVariants.{Ipin, Opin, Sink, Source}
pub use Rattle.table_rows.specs.CellLines.{args_at, init_in, rows_at, type_in}
pub use Rattle.table_rows.specs.TableBits.{bit_of, bits_of, value_of, wire_bits}
pub use Rattle.vpr_files.specs.NodeText.{kind_word}
pub use Rattle.vpr_files.specs.TextLines.{text_of}
