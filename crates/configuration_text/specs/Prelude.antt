-- The names of the crates below that this crate's definitions and contracts use.
pub use Rattle.arch_file.specs.declared.arch.Arch.{Arch}
pub use Rattle.ble_cluster.specs.Bles.{LogicElement}
pub use Rattle.ble_cluster.specs.Nets.{has}
pub use Rattle.blif.specs.Covers.{gives_one}
pub use Rattle.blif.specs.Keywords.{args_of, last_of}
pub use Rattle.blif.specs.LookupTables.{LookupTable}
pub use Rattle.blif.specs.Sights.{kind_of}
pub use Rattle.blif.specs.declared.circuit.Circuit.{Circuit}
pub use Rattle.blif.specs.declared.latches.Latch.{Latch}
pub use Rattle.blif.specs.declared.tables.Table.{Table}
pub use Rattle.configuration.specs.Configuration.{ble_lines, block_lines, control_in, driver_of_net, drivers_as, each_once, global_lines, global_number, is_same_edge, is_switch, is_terminal, latch_driving, latch_lines, signal_for, signal_of, switch_lines, table_driving, table_within, values_in}
pub use Rattle.configuration.specs.ConfigurationText.{bit_digit, configuration_text, global_words, line_words, lines_text, node_words, place_words, signal_words}
pub use Rattle.configuration.specs.Lines.{ConfigurationLine, Device, Feeds, PadIn, PadOut, Stores, Switch, Takes, Used, Values}
pub use Rattle.configuration.specs.RoutedPins.{ble_at, ble_numbers, filled_places, free_places, is_place, output_rank, paths_of, pin_in, pin_out, routed_place, routed_places}
pub use Rattle.configuration.specs.declared.line.BlePlace.{BlePlace}
pub use Rattle.implements.specs.Holding.{receives}
pub use Rattle.implements.specs.Layouts.{LaidBle, LaidBlock, Layout, input_net, on_pin, traced_ble}
pub use Rattle.line_text.specs.Lines.{JoinedLine}
pub use Rattle.line_text.specs.Words.{texts}
pub use Rattle.line_text.specs.Writing.{TakesAll, TakesPart}
pub use Rattle.pathfinder.specs.LegalRoutes.{pairs_of, steps_of}
pub use Rattle.pathfinder.specs.Terminals.{is_same_node}
pub use Rattle.rr_graph.specs.Node.{rank_of}
pub use Rattle.rr_graph.specs.declared.node.Node.{Node}
pub use Rattle.table_rows.specs.CellLines.{args_at, init_in, is_row_kind, lines_from, rows_at, type_in}
pub use Rattle.table_rows.specs.TableBits.{agrees, all_agree, applies, bit_of, value_in, value_of}
pub use Rattle.vpr_files.specs.NodeText.{kind_word}
pub use Rattle.vpr_files.specs.TextLines.{line_of, word_after_space}
