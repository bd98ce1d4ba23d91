-- The names of the crates below that this crate's definitions and contracts use.
pub use Rattle.arch_file.specs.declared.arch.Arch.{Arch}
pub use Rattle.blif.specs.declared.circuit.Circuit.{Circuit}
pub use Rattle.cluster.specs.Blocks.{net_name}
pub use Rattle.cluster.specs.declared.block.Block.{Block}
pub use Rattle.cluster.specs.declared.block.Block.TheVariants.{Cluster, InputPad, OutputPad}
pub use Rattle.grid.specs.declared.Strip.{Strip}
pub use Rattle.grid.specs.declared.place.Place.{Place}
pub use Rattle.implements.specs.Layouts.{LaidBle, LaidBlock, LaidNet, Layout}
pub use Rattle.implements.specs.declared.feed.Feed.{Feed}
pub use Rattle.implements.specs.declared.feed.Feed.TheVariants.{Ble, Pin}
pub use Rattle.layout_text.specs.LayoutText.{between_lines, ble_line, block_of, feed_or_open, feed_word, laid_lines, laid_lines_as, laid_name, listed_line, net_text, place_line, place_text, route_text}
pub use Rattle.line_text.specs.declared.text_error.TextError.{TextError}
pub use Rattle.line_text.specs.declared.text_error.TextError.TheVariants.{Fault, NoMemory}
pub use Rattle.rr_graph.specs.declared.node.Node.{Node}
pub use Rattle.rr_graph.specs.declared.node.NodeKind.{NodeKind}
pub use Rattle.rr_graph.specs.declared.node.NodeKind.TheVariants.{ChanX, ChanY, Ipin, Opin, Sink, Source}
pub use Rattle.strip_files.specs.Fronts.{Stops}
pub use Rattle.text_parts.specs.PartEnds.{is_no_digit}
pub use Rattle.text_parts.specs.Parts.{bytes_of_part}
pub use Rattle.vpr_files.specs.NetFile.{or_open}
pub use Rattle.vpr_files.specs.NodeText.{kind_word, node_text_of, number_word, position_text}
pub use Rattle.vpr_files.specs.TextLines.{line_of, text_of, word_after_space}
