-- The names that this crate's proofs use, but for its own lemmas.
pub use Rattle.std.proofs.Common.{All, Bool, IfOk, IfSome, List, None, Option, Some, [], ap, append_assoc, arith, below_more, cond, drop, eqb, false, filter, get_or, get_or-set_other, get_or-set_same, if◌then◌else◌, inl, inr, length, length-append, length-set, length-take, map, min, nat_le, nat_lt, not, refl, replicate, rules, set, slice_get, slice_index_or, subst, suc, sym, take, true, zero, zero-add, ℕ, ◌&&◌, ◌++◌, ◌+◌, ◌-◌, ◌<◌, ◌==◌, ◌^◌, ◌||◌, ◌∙◌, ◌∷◌, ◌≡◌, ◌≢◌, ◌≤◌, ◌⊎◌}
pub use Rattle.std.proofs.lemmas.Bool.{cases_lt, eqb-true}
pub use Rattle.std.proofs.lemmas.Bool.Decides.{eqb_tells, nat_tests}
pub use Rattle.std.proofs.lemmas.Grind.{common_steps, flat_map-append, get_or-set_at}
pub use Rattle.std.proofs.lemmas.List.{append-nil, drop_all, drop_at, drop_more, get_or-replicate, get_or_past, length-map, length-replicate, map-append, map_push, take-append-le, take_all, take_more}
pub use Rattle.std.proofs.lemmas.List.Elements.{All-append, All-cons, All-drop, All-filter, All-from_get_or, All-map, All-nil, All-tail, All-take, filter-append, filter_agree}
pub use Rattle.std.proofs.lemmas.List.Folds.{find-append, length-prefix_len, list_any-append}
pub use Rattle.std.proofs.lemmas.List.FromFn.{get_or-map-range_with_len, get_or-range_with_len, length-range_with_len}
pub use Rattle.std.proofs.lemmas.List.Sums.{count_by-le-length, length-filter, sum_by-append}
pub use Rattle.std.proofs.lemmas.Map.Steps.{length-le_from_distinct_below}
pub use Rattle.std.proofs.lemmas.Option.{get_or_from_slice_get, slice_get-get_or}
pub use Rattle.std.specs.List.{AllByRecursion, count_by, find, flat_map, list_any, prefix_len, range_with_len, take_while}
unfoldable pub use Rattle.std.specs.List.{IsDistinct}
pub use Rattle.std.specs.Option.{ForSome, is_some, option_or, option_to_list}
pub use Rattle.std.specs.Prelude.{⊤}
pub use Rattle.std.specs.Result.{is_ok}
pub use Rattle.ble_cluster.specs.BleIndex.{AreElements, AreHaving, AreLawful, BlesOver, pairs_from}
pub use Rattle.ble_cluster.specs.Bles.{LogicElement, element_at, element_of_latch, element_of_table, in_line_order, is_read_once, latch_after, reads_of, stands_alone}
unfoldable pub use Rattle.ble_cluster.specs.Bles.{bles_of}
pub use Rattle.ble_cluster.specs.Choosing.{IsBest, IsFirst, LeadsOver, SharesNet, beats, is_candidate, taken_at}
pub use Rattle.ble_cluster.specs.Clusters.{clocks_of, elements_at, first_most, fits_in_cluster, input_count_at, leader_of, may_join, members_after, nets_of, next_member, outputs_of, outside_inputs, shared_nets, unfit_among}
unfoldable pub use Rattle.ble_cluster.specs.Clusters.{cluster_of}
pub use Rattle.ble_cluster.specs.FirstFree.{AreAbove, AreByOutside, AreLacks, AreOutsideCounts, HaveAtMost, IsFirstFree, IsFirstWithin, IsKept, IsLowest, key_at, own_outside}
pub use Rattle.ble_cluster.specs.FlatBles.{AreBlesWithin, ble_at}
pub use Rattle.ble_cluster.specs.FreeBles.{IsElement, free_in}
pub use Rattle.ble_cluster.specs.GrowingCluster.{AreShared, EntersUnless, IsEntering, IsGrowingCluster, IsRoomFor, IsSeeded, IsTold, MayFit, agree, is_new_input, later_clock, new_inputs_of}
pub use Rattle.ble_cluster.specs.LineOrder.{is_above}
pub use Rattle.ble_cluster.specs.NetSets.{AreMarked, NetsAmong, with_net}
pub use Rattle.ble_cluster.specs.Nets.{IsOnce, distinct_nets, has, with_nets}
pub use Rattle.ble_cluster.specs.OutsideInputs.{gained_inputs, inputs_of, loses}
pub use Rattle.ble_cluster.specs.Prelude.{Arch, Circuit, IsArch, IsCircuit, IsLatchWithin, IsTableWithin, Keyed, Latch, LookupTable, input_count, pairs_with}
pub use Rattle.ble_cluster.specs.Reads.{AreCounts, AreDriven, AreLatches, CountsOn}
pub use Rattle.ble_cluster.specs.SharedNets.{AreRaised, AreTouched, HaveRoom, ShareNothing, gain_at}
pub use Rattle.ble_cluster.specs.declared.bles.BleSpan.{BleSpan}
pub use Rattle.ble_cluster.specs.declared.first_free.FirstFree.{FirstFree}
pub use Rattle.ble_cluster.specs.declared.growing_cluster.GrowingCluster.{GrowingCluster}
pub use Rattle.rows.proofs.Growing.{part_of-added, part_of-append}
pub use Rattle.rows.specs.ByKey.{items_by_key, items_with}
