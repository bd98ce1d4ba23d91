-- The names that this crate's proofs use, but for its own lemmas.
pub use Rattle.std.proofs.Common.{Bool, List, None, Option, Some, [], ap, append-nil, append_assoc, arith, cond, drop, false, filter, get_or, length, map, min, not, option_map, refl, rules, slice_get, slice_index, subst, suc, sym, tests, true, zero, ℕ, ◌%◌, ◌&&◌, ◌*◌, ◌++◌, ◌+◌, ◌-◌, ◌/◌, ◌<◌, ◌==◌, ◌^◌, ◌||◌, ◌∙◌, ◌∷◌, ◌≡◌, ◌≤◌}
pub use Rattle.std.proofs.Math.Nat.{div-div-eq-div-mul, div-one}
pub use Rattle.std.proofs.lemmas.Grind.{common_steps, flat_map-append}
pub use Rattle.std.proofs.lemmas.Iterator.{YieldsList-from_slice}
pub use Rattle.std.proofs.lemmas.Iterator.Search.{any_from_yields_List, find_from_yields_List}
pub use Rattle.std.proofs.lemmas.List.{at_drop_all, at_drop_more, drop-drop, length-drop, map-append}
pub use Rattle.std.proofs.lemmas.List.Folds.{find-append}
pub use Rattle.std.proofs.lemmas.List.Sums.{take_while-cons}
pub use Rattle.std.proofs.lemmas.Nat.{pow-add}
pub use Rattle.std.proofs.lemmas.Option.{get_or_from_slice_get, same_Some, slice_get-get_or, slice_get_within}
pub use Rattle.std.proofs.lemmas.Result.{IfOk-equal, IfOk-weaker}
pub use Rattle.std.specs.Borrow.{Bor}
pub use Rattle.std.specs.List.{enumerate_from, flat_map, list_all, list_any, prefix_len, range_with_len, take_while}
pub use Rattle.std.specs.Option.{option_map_or, option_or, option_to_list}
pub use Rattle.std.specs.Prelude.{find, is_some, take}
pub use Rattle.ble_cluster.specs.Nets.{distinct_nets}
pub use Rattle.cluster.specs.declared.block.Block.{Block}
pub use Rattle.cluster.specs.declared.block.Block.TheVariants.{Cluster}
pub use Rattle.configuration.specs.Configuration.{block_lines_as, input_lines}
unfoldable pub use Rattle.configuration.specs.Configuration.{configuration_of}
pub use Rattle.configuration.specs.declared.line.Driver.{Driver}
pub use Rattle.configuration.specs.declared.line.Driver.TheVariants.{BleAt}
pub use Rattle.configuration.specs.declared.line.Signal.{Signal}
pub use Rattle.configuration_text.specs.Parts.{cluster_lines, free_from, row_words, table_read, values_below}
pub use Rattle.configuration_text.specs.Prelude.{Arch, BlePlace, Circuit, ConfigurationLine, Device, Feeds, JoinedLine, LaidBle, LaidBlock, Latch, Layout, LookupTable, Node, Switch, Takes, Used, Values, all_agree, applies, bit_digit, bit_of, ble_at, ble_lines, block_lines, driver_of_net, drivers_as, each_once, filled_places, free_places, gives_one, global_lines, has, input_net, is_place, is_row_kind, is_same_edge, is_same_node, is_switch, kind_of, last_of, latch_driving, latch_lines, line_of, line_words, lines_text, pairs_of, receives, routed_place, routed_places, signal_for, steps_of, switch_lines, table_driving, table_within, texts, traced_ble, value_in, value_of, values_in}
pub use Rattle.configuration_text.specs.Sides.{anchor, neighbor, node_beside}
pub use Rattle.configuration_text.specs.declared.pins.Side.{Side}
pub use Rattle.implements.specs.Layouts.{LaidNet}
pub use Rattle.implements.specs.declared.feed.Feed.{Feed}
pub use Rattle.implements.specs.declared.feed.Feed.TheVariants.{Pin}
pub use Rattle.rr_graph.specs.Graph.{make_node}
pub use Rattle.rr_graph.specs.declared.node.NodeKind.TheVariants.{Source}
pub use Rattle.vpr_files.specs.TextLines.{text_of}
