-- The names that this crate's proofs use, but for its own lemmas.
pub use Rattle.std.proofs.Common.{Bool, List, None, Option, Some, [], ap, arith, cond, false, filter, find, get_or, inl, inr, length, map, nat_le, not, option_and_then, option_map, refl, slice_get, subst, suc, sym, take, true, zero, ℕ, ◌&&◌, ◌++◌, ◌+◌, ◌<◌, ◌==◌, ◌||◌, ◌∙◌, ◌∷◌, ◌≡◌, ◌≢◌, ◌≤◌, ◌⊎◌}
pub use Rattle.std.proofs.lemmas.Bool.{and_parts, cases_order, eqb-true, false≢true}
pub use Rattle.std.proofs.lemmas.Bool.Decides.{nat_tests}
pub use Rattle.std.proofs.lemmas.List.{get_or_default, length-map}
pub use Rattle.std.proofs.lemmas.List.Elements.{All-contains}
pub use Rattle.std.proofs.lemmas.List.FromFn.{length-enumerate_from, length-range_with_len}
pub use Rattle.std.proofs.lemmas.List.Kept.{AllPairs-filter}
pub use Rattle.std.proofs.lemmas.Option.{same_Some}
pub use Rattle.std.specs.List.{enumerate_from, flat_map, list_all, list_any, prefix_len, range_with_len}
pub use Rattle.std.specs.Option.{option_map_or, option_to_list}
pub use Rattle.std.specs.Prelude.{All, AllPairs, Contains, codes, count_by, is_some, slice_index}
pub use Rattle.arch_file.specs.declared.arch.PinClass.{PinClass}
pub use Rattle.arch_file.specs.declared.arch.PinClass.TheVariants.{Clock}
pub use Rattle.ble_cluster.specs.Bles.{LogicElement, is_read_once, reads_of}
pub use Rattle.block_places.specs.Fits.{kind_of}
pub use Rattle.cluster.proofs.Pairs.{pairs_back, pairs_front, pairs_head, pairs_tail}
pub use Rattle.cluster.specs.Blocks.{is_global}
pub use Rattle.configuration.specs.Configuration.{ble_lines, block_lines, block_lines_as, control_in, driver_of_net, drivers_as, each_once, global_lines, global_number, input_lines, is_same_edge, is_switch, is_terminal, latch_driving, latch_lines, signal_for, signal_of, switch_lines, table_driving, table_within, values_in}
unfoldable pub use Rattle.configuration.specs.Configuration.{configuration_of}
pub use Rattle.configuration.specs.Drivers.{LeadsBack, driver_at}
pub use Rattle.configuration.specs.Lines.{BleAt, BlePlace, ConfigurationLine, Device, Driver, Feeds, FromBle, FromGlobal, FromPin, PadAt, PadIn, PadOut, Signal, Stores, Switch, Takes, Used, Values, switch_in, switches_of}
pub use Rattle.configuration.specs.Prelude.{Arch, Ble, Block, Circuit, Cluster, Feed, Implements, Input, InputPad, Ipin, IsCircuit, IsStripSize, IsWithin, JoinedLine, LaidBle, LaidBlock, LaidNet, Latch, Layout, LeadsOver, LookupTable, Node, NodeKind, Opin, Output, OutputPad, Pad, Pin, Place, Sink, Source, Strip, args_at, bits_of, has, holds_latch, holds_table, init_in, is_node, is_pad_row, is_same_class, is_same_node, make_node, node_at_offset, on_pin, pairs_of, place_at, places_of, receives, rows_at, sink_at, source_at, traced_ble, type_in, wire_bits}
pub use Rattle.configuration.specs.RoutedPins.{ble_at, ble_numbers, filled_places, free_places, is_place, node_after, node_before, output_rank, paths_of, pin_in, pin_out, routed_place, routed_places}
pub use Rattle.configuration.specs.Things.{BleNamed, IsThingOf, NameOnly, NodeNamed, PadNamed, ShareNothing, Thing, driver_thing, moved_ble, moved_line, moved_pad, signal_things, things_of}
pub use Rattle.configuration.specs.Wired.{AreBlesApart, Configures, HasOneDriver, HasValues, HoldsDriver, IsClockedBy, Shows, Spot, TakesAt, place_of_spot}
pub use Rattle.grid.proofs.Numbers.{all_within}
pub use Rattle.grid.specs.PlaceLaws.{IsPlaceIn}
pub use Rattle.grid.specs.declared.place.Kind.TheVariants.{Logic}
pub use Rattle.implements.proofs.Coming.{has_pin}
pub use Rattle.implements.proofs.Members.{all_members, counted, from_all, from_any, from_append, from_filter, from_flat_map, from_get, from_has, from_map, in_cases, in_first, in_later, in_none, one_only, only_one, to_any, to_append_left, to_append_right, to_filter, to_flat_map, to_has, to_map}
pub use Rattle.implements.proofs.Unique.{AreApart, count-append, count-cons, never_both, same_by, same_counted, some_counted}
pub use Rattle.implements.specs.Holding.{is_latch, is_pair, is_same_net, is_table}
pub use Rattle.implements.specs.Implements.{IsLaid, ble_places, drives, drives_as, has_on, leaves_as, output_at, sinks_of, wants, wants_as}
pub use Rattle.implements.specs.Layouts.{IsFed, input_net, traced_bles}
pub use Rattle.pathfinder.proofs.NodeNumbers.{same_node}
pub use Rattle.pathfinder.specs.LegalRoutes.{HasOneOpin, IsRoute, IsRouted, path_nodes, steps_of}
pub use Rattle.rr_graph.specs.Geometry.{capacity_of, is_block_number, is_block_row, is_chan_y, is_edge, is_slot, is_together, joins}
pub use Rattle.rr_graph.specs.declared.node.NodeKind.TheVariants.{ChanX, ChanY}
pub use Rattle.table_rows.proofs.Bits.{bits_same}
