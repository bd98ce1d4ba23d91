-- The names that this crate's proofs use, but for its own lemmas.
pub use Rattle.std.proofs.Common.{All, Bool, Global, IsTrue, List, None, Option, Some, Vec, [], ap, arith, codes, cond, drop, eqb, false, filter, find, get_or, if◌then◌else◌, inl, inr, length, length-append, map, max, nat_eq, nat_lt, not, option_and_then, refl, rules, slice_get, slice_index, subst, suc, sym, take, true, zero, zero-add, ℕ, ◌&&◌, ◌++◌, ◌+◌, ◌-◌, ◌<◌, ◌==◌, ◌^◌, ◌||◌, ◌∙◌, ◌∷◌, ◌≡◌, ◌≢◌, ◌≤◌, ◌⊎◌}
pub use Rattle.std.proofs.lemmas.Bool.{cases_order, eqb-true}
pub use Rattle.std.proofs.lemmas.Bool.Decides.{Decides-eqb, nat_tests}
pub use Rattle.std.proofs.lemmas.List.{append-nil, append_assoc, get_or-append_right, get_or-map, get_or_append_left, get_or_default, length-map, map-append, map-id, map_more, map_push, take-append-drop, take_all, take_more}
pub use Rattle.std.proofs.lemmas.List.Concat.{flat_map-append}
pub use Rattle.std.proofs.lemmas.List.Elements.{All-append, All-cons, All-contains, All-drop, All-filter, All-head, All-map, All-nil, All-push, All-tail, All-take, All-weaker, filter-append, filter_passes}
pub use Rattle.std.proofs.lemmas.List.Folds.{concat-append, list_any-append}
pub use Rattle.std.proofs.lemmas.List.FromFn.{fill_by_all, get_or-enumerate_from, get_or-map-range_with_len, get_or-range_with_len, length-enumerate_from, length-map-range_with_len, length-range_with_len, map-range_with_len_more}
pub use Rattle.std.proofs.lemmas.List.Kept.{AllPairs-cons, AllPairs-filter}
pub use Rattle.std.proofs.lemmas.List.Sorted.{IsPermutation-append_comm, IsPermutation-append_left, IsPermutation-append_right, IsPermutation-cons, IsPermutation-middle, IsPermutation-refl, IsPermutation-sym, IsPermutation-trans}
pub use Rattle.std.proofs.lemmas.List.Sums.{count_by-le-length, count_by_more_no, count_by_more_yes, length-filter}
pub use Rattle.std.proofs.lemmas.Map.Keys.{IsDistinct-IsPermutation}
pub use Rattle.std.proofs.lemmas.Map.Made.{AllPairs-from_IsDistinct, IsDistinct-from_AllPairs}
pub use Rattle.std.proofs.lemmas.Map.Steps.{length-le_from_distinct_below}
pub use Rattle.std.proofs.lemmas.Option.{get_or_from_slice_get, slice_get-get_or, slice_get_within}
pub use Rattle.std.specs.Cmp.{nat_eq_equiv}
pub use Rattle.std.specs.List.{concat, enumerate_from, flat_map, list_any, prefix_len, range_with_len, take_while}
pub use Rattle.std.specs.List.Sorted.{IsPermutation}
pub use Rattle.std.specs.Option.{ForSome, option_to_list}
pub use Rattle.std.specs.Prelude.{AllPairs, Contains}
pub use Rattle.arch_file.proofs.FewPins.{few_pins}
pub use Rattle.ble_cluster.proofs.Elements.{elements_lawful}
pub use Rattle.ble_cluster.proofs.Fitting.{fits_alone, no_cluster}
pub use Rattle.ble_cluster.proofs.Leading.{found, leading_lawful}
pub use Rattle.ble_cluster.proofs.Marking.{filter_filter, free_same}
pub use Rattle.ble_cluster.proofs.Outside.{has-append, has-distinct, has-with_net, has-with_nets, once-push, with_nets-append}
pub use Rattle.ble_cluster.specs.Bles.{element_at, element_of_latch, element_of_table, in_line_order, is_read_once, latch_after, stands_alone}
unfoldable pub use Rattle.ble_cluster.specs.Bles.{bles_of}
pub use Rattle.ble_cluster.specs.Clusters.{first_most, input_count_at, leader_of, may_join, members_after, next_member, seed_of, shared_nets, unfit_among}
unfoldable pub use Rattle.ble_cluster.specs.Clusters.{cluster_of, clusters_after, unfit_of}
pub use Rattle.ble_cluster.specs.LineOrder.{is_above}
pub use Rattle.ble_cluster.specs.NetSets.{NetsAmong, with_net}
pub use Rattle.ble_cluster.specs.Nets.{IsOnce}
pub use Rattle.blif.specs.LawfulCircuits.{IsLatchWithin, IsTableWithin, drivers_of}
pub use Rattle.blif.specs.LookupTables.{LookupTable}
pub use Rattle.cluster.specs.Blocks.{BlockNet, block_name, block_net, block_nets, blocks_of, elements_in, is_global, is_same_class, leaves_block, net_name, net_on_pin, nets_from, pins_of, readers_of, reads_net}
pub use Rattle.cluster.specs.ClusterPins.{IsElementWithin, TellReaders, all_clocks_of, clocks_of_clusters, cluster_block, clusters_with, if_leaving, inputs_of_clusters, members_of, nets_read, pads_with, pin_ranks, rank_of, readers_by_net, seed_name}
pub use Rattle.cluster.specs.Clusters.{PackedCircuit, packing_steps}
unfoldable pub use Rattle.cluster.specs.Clusters.{packed_of}
pub use Rattle.cluster.specs.FlatNets.{AreNetsWithin, net_at}
pub use Rattle.cluster.specs.Keys.{BlockKey, key_of, keys_of}
pub use Rattle.cluster.specs.LawfulPackings.{IsPacked}
pub use Rattle.cluster.specs.NetUses.{cluster_nets, controls_of, driven_nets, input_nets, leaves_by, net_by, other_readers}
pub use Rattle.cluster.specs.PackedTables.{ArePartsOf, AreTablesOf}
pub use Rattle.cluster.specs.PackingLaws.{IsBlockNet, IsLawfulPacking}
pub use Rattle.cluster.specs.Prelude.{Arch, Circuit, Clock, FreeBlesState, Input, IsArch, IsCircuit, Keyed, Latch, LogicElement, Output, Pin, PinClass, clocks_of, distinct_nets, elements_at, fits_in_cluster, free_of, has, inputs_of, items_with, outputs_of, outside_inputs, pairs_with, with_cluster, with_nets}
pub use Rattle.cluster.specs.UnderWay.{IsUnderWay, steps_reached}
pub use Rattle.cluster.specs.declared.block.Block.{Block}
pub use Rattle.cluster.specs.declared.block.Block.TheVariants.{Cluster, InputPad, OutputPad}
pub use Rattle.cluster.specs.declared.block.BlockKind.{BlockKind}
pub use Rattle.cluster.specs.declared.block_nets.NetSpan.{NetSpan}
pub use Rattle.cluster.specs.declared.cluster_sets.ClusterSets.{ClusterSets}
pub use Rattle.cluster.specs.declared.net_uses.NetUses.{NetUses}
pub use Rattle.cluster.specs.declared.packed_tables.PackedTables.{PackedTables}
pub use Rattle.rows.proofs.CountingSort.{items_with-append}
pub use Rattle.rows.proofs.Growing.{part_of-added, part_of-append}
pub use Rattle.rows.specs.ByKey.{items_by_key}
