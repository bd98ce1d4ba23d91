-- The names that this crate's proofs use, but for its own lemmas.
pub use Rattle.std.proofs.Common.{Bool, List, None, Option, Some, [], ap, append-nil, append_assoc, arith, cond, drop, false, filter, get_or, inl, inr, length, length-append, ltb, map, nat_eq, not, option_and_then, option_map, position, refl, slice_get, subst, suc, sym, take, true, zero, ℕ, ◌&&◌, ◌++◌, ◌+◌, ◌-◌, ◌<◌, ◌==◌, ◌||◌, ◌∙◌, ◌∷◌, ◌≡◌, ◌≢◌, ◌≤◌, ◌⊎◌}
pub use Rattle.std.proofs.lemmas.Bool.{cases_order, eqb-true}
pub use Rattle.std.proofs.lemmas.Bool.Decides.{nat_tests}
pub use Rattle.std.proofs.lemmas.Iterator.Adapters.{position_from-zero}
pub use Rattle.std.proofs.lemmas.List.{get_or-append_right, get_or-map, get_or_default, length-map, map-append, take-append-drop}
pub use Rattle.std.proofs.lemmas.List.Concat.{concat_is, flat_map-append}
pub use Rattle.std.proofs.lemmas.List.Elements.{All-contains, All-nil}
pub use Rattle.std.proofs.lemmas.List.FromFn.{get_or-enumerate_from, length-enumerate_from}
pub use Rattle.std.proofs.lemmas.List.Kept.{AllPairs-filter}
pub use Rattle.std.proofs.lemmas.List.Quantifiers.{position-Some}
pub use Rattle.std.proofs.lemmas.List.Sums.{sum_by-append, sum_by-cons}
pub use Rattle.std.proofs.lemmas.Option.{get_or_from_slice_get, slice_get-get_or, slice_get-map}
pub use Rattle.std.specs.List.{AllZip, concat, enumerate_from, flat_map, list_all, list_any, position_from, prefix_len, range_with_len, take_while, zip}
pub use Rattle.std.specs.Option.{option_map_or, option_to_list}
pub use Rattle.std.specs.Prelude.{All, AllPairs, Contains, count_by, find, is_some}
pub use Rattle.arch_file.specs.declared.arch.Pin.{Pin}
pub use Rattle.ble_cluster.proofs.Outside.{has-distinct}
pub use Rattle.ble_cluster.specs.Bles.{element_at, element_of_latch, element_of_table, in_line_order, latch_after, reads_of, stands_alone}
unfoldable pub use Rattle.ble_cluster.specs.Bles.{bles_of}
pub use Rattle.ble_cluster.specs.Clusters.{clocks_of, elements_at, outside_inputs}
pub use Rattle.ble_cluster.specs.Nets.{with_nets}
pub use Rattle.blif.specs.LawfulCircuits.{IsCircuit, IsLatchDriven, drivers_of, has_net}
pub use Rattle.block_places.specs.Placed.{block_at}
pub use Rattle.cluster.proofs.Outputs.{outputs_apart}
pub use Rattle.cluster.proofs.Pairs.{pairs_across, pairs_append, pairs_back, pairs_front, pairs_head, pairs_map, pairs_of_map, pairs_tail, pairs_with}
pub use Rattle.cluster.specs.Blocks.{block_net, leaves_block, net_on_pin, nets_from, readers_of, reads_net}
pub use Rattle.cluster.specs.Clusters.{outputs_of}
pub use Rattle.implements.specs.Connects.{ComesIn, ComesTo, Connects, LeadsTo, Receives, Spot}
pub use Rattle.implements.specs.Holding.{AreBlesOf, holds_latch, holds_table, is_latch, is_pair, is_same_net, is_table, receives}
pub use Rattle.implements.specs.Implements.{Implements, IsLaid, IsNarrowBle, ble_places, drives, has_on, input_at, is_net, leaves_as, output_at, sinks_of, wants, wants_as}
pub use Rattle.implements.specs.LayoutOf.{feed_of, laid_ble, laid_block, laid_net}
unfoldable pub use Rattle.implements.specs.LayoutOf.{layout_of}
pub use Rattle.implements.specs.Layouts.{IsFed, LaidBle, LaidBlock, LaidNet, Layout, input_net, on_pin, traced_ble, traced_bles}
pub use Rattle.implements.specs.Prelude.{Arch, ArePlaced, Block, BlockNet, Circuit, Clock, Cluster, Input, InputPad, IsLawfulPacking, IsLegal, IsNarrow, IsPacked, IsRouted, Latch, LeadsOver, LogicElement, LookupTable, Node, Output, OutputPad, PackedCircuit, PinClass, Place, Strip, block_nets, blocks_of, capacity_of, distinct_nets, driver_place, elements_in, has, is_edge, is_global, is_read_once, is_same_class, is_same_node, kind_of, pairs_of, path_nodes, pin_with, pins_of, place_of, places_of, sink_at, source_at}
pub use Rattle.implements.specs.declared.feed.Feed.{Feed}
pub use Rattle.implements.specs.declared.feed.Feed.TheVariants.{Ble}
pub use Rattle.pathfinder.specs.Terminals.{net_sinks, net_source}
pub use Rattle.vpr_files.proofs.ClusterLemmas.{block_is_there, pin_at}
pub use Rattle.vpr_files.specs.BlockClusters.{HasCluster}
