-- The names that this crate's proofs use, but for its own lemmas.
pub use Rattle.std.proofs.Common.{Bool, List, None, Option, Some, [], ap, append_assoc, arith, cond, drop, eq-eqb, eqb, false, filter, get_or, inl, inr, is_some, length, length-append, map, min, not, refl, replicate, rules, set, slice_get, subst, suc, sym, take, true, zero, ℕ, ◌&&◌, ◌++◌, ◌+◌, ◌-◌, ◌<◌, ◌==◌, ◌^◌, ◌||◌, ◌∙◌, ◌∷◌, ◌≡◌, ◌≢◌, ◌≤◌, ◌⊎◌}
pub use Rattle.std.proofs.Math.Bool.{or_assoc}
pub use Rattle.std.proofs.Math.Seq.{get_or-append_seam}
pub use Rattle.std.proofs.lemmas.Bool.{and_parts, cases_eq, cases_lt, eqb-true, false_from_ne_true, false≢true}
pub use Rattle.std.proofs.lemmas.Bool.Decides.{Decides-eqb, eqb_tells, nat_tests}
pub use Rattle.std.proofs.lemmas.Cmp.{nat_eq_equiv}
pub use Rattle.std.proofs.lemmas.Grind.{flat_map-append}
pub use Rattle.std.proofs.lemmas.List.{append-nil, drop_at, get_or-map, get_or-replicate, get_or-set_other, get_or-set_same, get_or_append_left, get_or_default, get_or_past, length-map, length-replicate, length-set, length-take-le, map-append, map-set, map_push, replicate_more, take-append-drop, take_all, take_more}
pub use Rattle.std.proofs.lemmas.List.Concat.{flat_map-cons, get_or-flat_map}
pub use Rattle.std.proofs.lemmas.List.Elements.{All-append, All-contains, All-get_or, All-head, All-map, All-more, All-tail, All-take, All-weaker, Contains-get_or, filter_more}
pub use Rattle.std.proofs.lemmas.List.Folds.{list_any_more}
pub use Rattle.std.proofs.lemmas.List.FromFn.{get_or-enumerate_from, get_or-range_with_len, length-enumerate_from, length-range_with_len}
pub use Rattle.std.proofs.lemmas.List.Sums.{count_by-le-length, count_by_more_no, count_by_more_yes, sum_by-set}
pub use Rattle.std.proofs.lemmas.Map.Made.{AllPairs-from_IsDistinct, IsDistinct-from_count, distinct_count-from_IsDistinct, length-from_keys}
pub use Rattle.std.proofs.lemmas.Option.{get_or_from_slice_get, same_Some, slice_get-get_or}
pub use Rattle.std.specs.List.{AllByRecursion, enumerate_from, flat_map, list_all, list_any, range_with_len}
unfoldable pub use Rattle.std.specs.List.{IsDistinct}
pub use Rattle.std.specs.Option.{ForSome, option_map_or, option_to_list}
pub use Rattle.std.specs.Prelude.{All, Contains, IfOk, MatchBool, MatchOption, count_by, option_map}
pub use Rattle.std.specs.Set.{distinct_count, is_member}
pub use Rattle.arch_file.specs.declared.arch.Pin.{Pin}
pub use Rattle.arch_file.specs.declared.arch.PinClass.{PinClass}
pub use Rattle.ble_cluster.proofs.Outside.{has-distinct, once-distinct, once-push}
pub use Rattle.ble_cluster.specs.Nets.{distinct_nets}
pub use Rattle.cluster.proofs.Pairs.{pairs_back, pairs_front, pairs_head, pairs_tail}
pub use Rattle.cluster.specs.declared.block.Block.TheVariants.{Cluster, InputPad, OutputPad}
pub use Rattle.grid.proofs.Numbers.{all_within}
pub use Rattle.grid.specs.Places.{column_of, place_at}
unfoldable pub use Rattle.grid.specs.Places.{places_of}
pub use Rattle.grid.specs.declared.place.Kind.{Kind}
pub use Rattle.grid.specs.declared.place.Kind.TheVariants.{Logic, Pad}
pub use Rattle.implements.proofs.Between.{same_truth}
pub use Rattle.implements.proofs.BleHolders.{read_by_latch}
pub use Rattle.implements.proofs.Inside.{at_member, enumerated}
pub use Rattle.implements.proofs.Members.{all_members, from_all, from_any, from_append, from_filter, from_flat_map, from_get, from_has, from_map, in_cases, in_first, in_later, in_none, in_range, one_only, only_one, to_any, to_append_left, to_append_right, to_filter, to_flat_map, to_has, to_map}
pub use Rattle.implements.proofs.Unique.{AreApart, apart_at, count-append, count-cons, count-no, count-yes, never_both, same_by, some_counted}
pub use Rattle.implements.specs.Implements.{drives_as}
pub use Rattle.layout_check.specs.BlockFaults.{IsBleFault, IsBlockFault, IsBlockRight}
pub use Rattle.layout_check.specs.EntryFaults.{AreUsedBy, IsEntryFault, IsOnlyDriver, is_on}
pub use Rattle.layout_check.specs.Helds.{AreHeld, ArePlaces, HoldsLatchIn, HoldsTableIn, IsHeld, IsHeldFault, IsLatchOrPair, IsNumberOf, IsOnceFault, is_number, of_latches, of_tables}
pub use Rattle.layout_check.specs.HoldFaults.{DrivesAsPair, IsHoldFault, IsReadFault}
pub use Rattle.layout_check.specs.Marks.{IsClear, IsSetOf, is_in}
pub use Rattle.layout_check.specs.NetBlocks.{AreListsOf, AreNoted, IsNoted, NotesIn, list_at, numbers_of, sinks_at}
pub use Rattle.layout_check.specs.NetFaults.{AreCarried, AreUses, uses_of}
pub use Rattle.layout_check.specs.NetOwners.{AreCounts, AreNets, AreOwners, AreOwnersUpTo, CountsOn, owner_of}
pub use Rattle.layout_check.specs.NumberTrees.{AreOneWay, AreReached, HasKept, IsClosed, IsHopFault, Reaches, here, onward}
pub use Rattle.layout_check.specs.Numbered.{AreHops, AreNodes, IsNumbered, hop_of}
pub use Rattle.layout_check.specs.Pads.{pad_nets}
pub use Rattle.layout_check.specs.Prelude.{Arch, AreBlesOf, Basis, Block, Circuit, Clock, HasOnePin, Implements, IsCircuit, IsFed, IsLaid, IsLeaf, IsNarrowBle, IsOnce, IsPlaceIn, IsRoute, IsRouted, IsStripSize, LaidBle, LaidBlock, LaidNet, Latch, Layout, LeadsOver, LogicElement, LookupTable, Node, Opin, Output, Place, RoutingGraph, Strip, ble_places, capacity_of, drives, graph_of, has, has_on, holds_latch, holds_table, input_at, input_net, is_edge, is_global, is_latch, is_net, is_node, is_pair, is_read_once, is_same_net, is_same_node, is_table, kind_of, leaves_as, listed_with, number_of, on_pin, pairs_of, path_nodes, receives, sink_at, sinks_of, source_at, steps_of, traced_ble, traced_bles, wants, wiring_of}
pub use Rattle.layout_check.specs.RouteFaults.{IsPathFault, IsRouteFault}
pub use Rattle.layout_check.specs.TreeTests.{AreAllReached, AreEdges, AreEnds, AreNumbers, HasRoom, IsFaultOf, told_fault}
pub use Rattle.layout_check.specs.Wrongs.{AreListsRight, ArePortsRight, IsAboutHeld, IsBleAt, IsConnected, IsWrong}
pub use Rattle.layout_check.specs.declared.fault.BleFault.{BleFault}
pub use Rattle.layout_check.specs.declared.fault.BleFault.TheVariants.{NoClock, NoInput, TooManyInputs, WrongOutput}
pub use Rattle.layout_check.specs.declared.fault.BleNumber.{BleNumber}
pub use Rattle.layout_check.specs.declared.fault.BlockFault.{BlockFault}
pub use Rattle.layout_check.specs.declared.fault.BlockFault.TheVariants.{NoPlace, TooManyBles}
pub use Rattle.layout_check.specs.declared.fault.EntryFault.{EntryFault}
pub use Rattle.layout_check.specs.declared.fault.EntryFault.TheVariants.{Listed, NoDriver, Paths, TwoDrivers}
pub use Rattle.layout_check.specs.declared.fault.HoldFault.{HoldFault}
pub use Rattle.layout_check.specs.declared.fault.HoldFault.TheVariants.{Clocked, NotDriven, Pair, ReadElsewhere, WrongClock}
pub use Rattle.layout_check.specs.declared.fault.NetFault.TheVariants.{Entry, Overused}
pub use Rattle.layout_check.specs.declared.fault.ReadFault.{ReadFault}
pub use Rattle.layout_check.specs.declared.fault.ReadFault.TheVariants.{Extra, Lacks, Twice}
pub use Rattle.layout_check.specs.declared.fault.RouteFault.{RouteFault}
pub use Rattle.layout_check.specs.declared.fault.RouteFault.TheVariants.{EndsAt, IntoSource, LeadsOn, NoEdge, NoNode, NoPin, NoSink, NoSource, NotEmpty, NotReached, TwoPins, TwoWays}
pub use Rattle.layout_check.specs.declared.fault.Wrong.{Wrong}
pub use Rattle.layout_check.specs.declared.fault.Wrong.TheVariants.{Ble, Inputs, LatchTwice, LeftOut, Net, NoEntry, NoLatch, NoTable, NotGlobal, Outputs, SameNet, SamePlace, TableTwice, Unlawful}
pub use Rattle.layout_check.specs.declared.once.OnceFault.{OnceFault}
pub use Rattle.layout_check.specs.declared.once.OnceFault.TheVariants.{Never}
pub use Rattle.layout_check.specs.declared.owners.Owner.{Owner}
pub use Rattle.layout_check.specs.declared.owners.Owner.TheVariants.{Nothing, Table}
pub use Rattle.layout_check.specs.declared.trees.HopFault.{HopFault}
pub use Rattle.layout_check.specs.declared.trees.HopFault.TheVariants.{IntoRoot, TwoHops}
pub use Rattle.pathfinder.proofs.NodeNumbers.{number_found, same_node}
pub use Rattle.pathfinder.specs.LegalRoutes.{HasOneOpin, IsTree}
pub use Rattle.rr_graph.specs.Graph.{IsRoutingGraph}
pub use Rattle.rr_graph.specs.Node.{rank_of}
pub use Rattle.rr_graph.specs.declared.node.NodeKind.{NodeKind}
pub use Rattle.rr_graph.specs.declared.node.NodeKind.TheVariants.{Source}
pub use borrow.Author.Count.{below_more}
