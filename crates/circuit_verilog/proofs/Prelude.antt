-- The names that this crate's proofs use, but for its own lemmas.
pub use Rattle.std.proofs.Common.{Err, List, Ok, Result, Some, [], ap, append-nil, append_assoc, arith, codes, get_or, length, map, sym, take, ℕ, ◌++◌, ◌+◌, ◌<◌, ◌∙◌, ◌∷◌, ◌≡◌, ◌≤◌}
pub use Rattle.std.proofs.lemmas.Grind.{flat_map-append}
pub use Rattle.std.proofs.lemmas.List.{take_all, take_more}
pub use Rattle.std.proofs.lemmas.List.FromFn.{length-range_with_len}
pub use Rattle.std.proofs.lemmas.Option.{get_or_from_slice_get, slice_get-get_or, slice_get_within}
pub use Rattle.std.specs.List.{flat_map, range_with_len, slice_get}
pub use Rattle.std.specs.Prelude.{OnOk}
pub use Rattle.circuit_verilog.specs.NetTexts.{net_text}
pub use Rattle.circuit_verilog.specs.Parts.{clock_name, initial_text, input_text, inputs_text, level_line, store_text, table_head, table_module}
pub use Rattle.circuit_verilog.specs.Verilog.{ble_text, block_text, clock_line, clock_ports, declarations, declared_text, drives_line, head_text, input_line, latch_edge, next_input, next_output, output_line, shows_line, state_text, table_front, table_middle, table_text, wire_line}
unfoldable pub use Rattle.circuit_verilog.specs.Verilog.{verilog_of}
pub use Rattle.configuration.specs.Configuration.{latch_driving, values_in}
pub use Rattle.configuration.specs.ConfigurationText.{bit_digit}
pub use Rattle.configuration_text.proofs.Rest.{past_from, read_from}
pub use Rattle.implements.specs.Layouts.{traced_ble}
pub use Rattle.line_text.proofs.WritingLemmas.{place_at}
pub use Rattle.table_rows.specs.CellLines.{args_at, init_in}
pub use Rattle.text_parts.specs.Parts.{bytes_of_part}
