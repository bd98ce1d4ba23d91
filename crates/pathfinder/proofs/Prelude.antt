-- The names that this crate's proofs use, but for its own lemmas.
pub use Rattle.std.proofs.Common.{Bool, Err, IfSome, List, None, Ok, Option, Result, Some, [], ap, arith, cond, drop, eq-eqb, eqb, false, get_or, inl, inr, leb, length, ltb, map, refl, rules, subst, suc, sym, take, true, zero, ℕ, ◌&&◌, ◌*◌, ◌++◌, ◌+◌, ◌-◌, ◌<◌, ◌^◌, ◌||◌, ◌∙◌, ◌∷◌, ◌≡◌, ◌≢◌, ◌≤◌, ◌⊎◌}
pub use Rattle.std.proofs.Math.ListN.{drop_of_length-le, replicate}
pub use Rattle.std.proofs.Math.Nat.{one-le-mul}
pub use Rattle.std.proofs.lemmas.Bool.{and_parts, cases_Bool, cases_lt, eqb-false, eqb-true, false≢true, leb-true, lt-ltb, ne_eqb}
pub use Rattle.std.proofs.lemmas.Bool.Decides.{Decides-eqb, nat_tests}
pub use Rattle.std.proofs.lemmas.Grind.{common_steps}
pub use Rattle.std.proofs.lemmas.List.{append-nil, append_assoc, drop-drop, drop_more, get_or-map, get_or-replicate, get_or-take, get_or_append_left, get_or_default, get_or_past, get_or_push, length-append, length-drop, length-map, length-replicate, length-take-le, length_push, map-append, take-append-drop, take-append-le, take_all, take_at, take_more, take_rest, with_items_is}
pub use Rattle.std.proofs.lemmas.List.Concat.{flat_map-append, flat_map-cons}
pub use Rattle.std.proofs.lemmas.List.Elements.{All-cons, All-contains, All-drop, All-filter, All-from_get_or, All-from_recursion, All-head, All-map, All-nil, All-tail, All-weaker, Contains-append_cases, Contains-append_left, Contains-append_right, Contains-get_or, filter-append}
pub use Rattle.std.proofs.lemmas.List.Folds.{list_all_at, list_any-append}
pub use Rattle.std.proofs.lemmas.List.FromFn.{fill_by_all, get_or-range_with_len, length-map-range_with_len, length-range_with_len, sum_by-map-range_with_len_more}
pub use Rattle.std.proofs.lemmas.List.Sums.{AllPass-from_list_all, count_by-le-length, length-filter, list_all-from_AllPass, passes_at_first, position_or_len_is, sum_by-append, sum_by-cons, sum_by_more_le}
pub use Rattle.std.proofs.lemmas.Map.Keys.{IsDistinct-head, IsDistinct-tail, apart_from_distinct}
pub use Rattle.std.proofs.lemmas.Map.Made.{IsDistinct-from_AllPairs}
pub use Rattle.std.proofs.lemmas.Option.{get_or_from_slice_get}
pub use Rattle.std.proofs.lemmas.Result.{IfOk-weaker}
pub use Rattle.std.proofs.lemmas.Slice.Zip.{AllZip-long}
pub use Rattle.std.specs.List.{All, AllPairs, AllZip, Contains, IsDistinct, concat, filter, list_any, range_with_len, slice_index}
pub use Rattle.std.specs.Option.{option_and_then, option_map_or}
pub use Rattle.std.specs.Prelude.{count_by, option_map, slice_index_or, ◌==◌}
pub use Rattle.std.specs.Vec.{with_items}
pub use Rattle.block_places.specs.Fits.{kind_of}
pub use Rattle.cluster.specs.PackingLaws.{IsLawfulPacking}
pub use Rattle.fabric_planes.specs.Layout.{IsNetSearch, Terminals, is_same_spot}
pub use Rattle.fabric_planes.specs.Prices.{AgreeBut}
pub use Rattle.grid.specs.PlaceLaws.{IsInRow, IsPlaceIn}
pub use Rattle.grid.specs.Places.{place_at, places_of}
pub use Rattle.grid.specs.Sizes.{IsStripSize}
pub use Rattle.grid.specs.declared.place.Kind.{Kind}
pub use Rattle.least_path.specs.Graph.{IsSameGraph}
unfoldable pub use Rattle.least_path.specs.LeastPath.{least_path, short_paths}
pub use Rattle.least_path.specs.Path.{Leads}
pub use Rattle.pathfinder.specs.Growth.{IsGrown, IsSoFar, IsUnderWay, LeastPathLaws, kept_starts}
pub use Rattle.pathfinder.specs.LegalRoutes.{IsLeaf, IsLegal, IsRoute, IsRouted, IsTree, LeadsOver, pairs_of, path_nodes, steps_of}
pub use Rattle.pathfinder.specs.LegalTrees.{AreLegal, HasOnePin, IsNetTree, IsNumberTree, IsTreeFor}
pub use Rattle.pathfinder.specs.Negotiation.{Done, GaveUp, More, NoPath, Routed, Standing, Tree, accumulated_overuse, grown_tree, is_branching, is_feasible, next_routing, occupancy, priced_graph, rerouted_trees, routing_with_trees, starts_of}
unfoldable pub use Rattle.pathfinder.specs.Negotiation.{routed_after}
pub use Rattle.pathfinder.specs.Overuse.{IsMost, IsOveruse, count_over, has_node, over_at, over_in, overuse_at}
pub use Rattle.pathfinder.specs.PlacedNets.{net_to_route, number_of, wiring_of}
unfoldable pub use Rattle.pathfinder.specs.PlacedNets.{nets_to_route}
pub use Rattle.pathfinder.specs.Prelude.{Arch, AreNodes, ArePlaced, Basis, Block, BlockNet, ChanX, ChanY, Cluster, Graph, Ipin, IsBasis, IsBlockNet, IsLawful, IsLeastPath, IsPath, IsStart, Node, NodeKind, Opin, PackedCircuit, Place, RoutingGraph, Sink, Source, Strip, block_at, block_nets, blocks_of, capacity_of, cost_of, is_edge, is_node, place_of, rank_of, terminals_of}
pub use Rattle.pathfinder.specs.Priced.{AreHeldBut, ArePriced}
pub use Rattle.pathfinder.specs.Rates.{AreRates, AreRatesBelow}
pub use Rattle.pathfinder.specs.Routings.{FindsNoPath, IsAfter, IsDone, IsNext, RoutingState, routes_by_node}
pub use Rattle.pathfinder.specs.States.{AreNext, state_of}
pub use Rattle.pathfinder.specs.Tables.{AddsNodes, AreAdded, AreJoined, AreNewTrees, AreRouted, IsFirstWithout, IsHeld, IsRound, IsSought, IsTable, IsTreeOn, Tells, holds, news_from, tabled_graph, times_in}
pub use Rattle.pathfinder.specs.Terminals.{is_same_node, net_sinks, net_source, sink_at, source_at}
pub use Rattle.pathfinder.specs.Wiring.{AreNets, IsEdge, IsNet, IsWiring, Net, Wiring}
pub use Rattle.pathfinder.specs.declared.overuse.Overuse.{Overuse}
pub use Rattle.pathfinder.specs.declared.rate.NodeCost.{NodeCost}
pub use Rattle.pathfinder.specs.declared.routing.TheConstants.{MAX_ITERATIONS}
pub use Rattle.pathfinder.specs.declared.state.NewTrees.{NewTrees}
pub use Rattle.pathfinder.specs.declared.state.State.{State}
pub use Rattle.rows.proofs.Growing.{parts_push}
pub use Rattle.rows.specs.Spans.{AreWithin, part_of}
pub use Rattle.rows.specs.declared.span.Span.{Span}
pub use Rattle.rr_graph.proofs.GeometryLaws.{edge_joins}
pub use Rattle.rr_graph.specs.Geometry.{is_block_row, is_together, joins}
pub use Rattle.rr_graph.specs.Graph.{IsRoutingGraph}
unfoldable pub use Rattle.rr_graph.specs.Graph.{graph_of}
pub use Rattle.rr_graph.specs.Node.{IsBefore}
