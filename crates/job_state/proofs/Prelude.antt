-- The names that this crate's proofs use, but for its own lemmas.
pub use Rattle.std.proofs.Common.{Bool, Err, IfErr, IfOk, List, None, Ok, Result, Some, [], ap, arith, drop, eq-eqb, false, get_or, if◌then◌else◌, inl, inr, le-leb, le-ltb, length, length-append, lt-ltb, map, refl, subst, suc, sym, take, true, zero, ℕ, ◌++◌, ◌+◌, ◌-◌, ◌<◌, ◌||◌, ◌∙◌, ◌∷◌, ◌≡◌, ◌≤◌, ◌⊎◌}
pub use Rattle.std.proofs.Math.Seq.{take-suc}
pub use Rattle.std.proofs.lemmas.Bool.{and_from, cases_eq, false≢true, or_cases}
pub use Rattle.std.proofs.lemmas.Bool.Decides.{nat_tests}
pub use Rattle.std.proofs.lemmas.List.{flat_map_more, get_or_default, get_or_push, length-map, length_push, take_all}
pub use Rattle.std.proofs.lemmas.List.Elements.{All-append, All-cons, All-contains, All-nil, All-tail}
pub use Rattle.std.proofs.lemmas.List.Folds.{flat_map-map, list_any-append, list_any_at, list_any_more}
pub use Rattle.std.proofs.lemmas.List.FromFn.{get_or-range_with_len, length-range_with_len, map-range_with_len_more}
pub use Rattle.std.proofs.lemmas.List.Quantifiers.{all_pairs_push}
pub use Rattle.std.proofs.lemmas.List.Sorted.{list_any-IsPermutation}
pub use Rattle.std.proofs.lemmas.List.Sums.{position_or_len_is}
pub use Rattle.std.proofs.lemmas.Option.{get_or_from_slice_get}
pub use Rattle.std.proofs.lemmas.Result.{IfErr-weaker, IfOk-weaker}
pub use Rattle.std.specs.List.{flat_map, position_or_len, range_with_len}
pub use Rattle.std.specs.List.Sorted.{IsPermutation, IsSorted}
pub use Rattle.std.specs.Option.{option_map_or, option_to_list}
pub use Rattle.std.specs.Ordering.{is_lt, nat_cmp, ordering_then}
pub use Rattle.std.specs.Prelude.{All, AllPairs, slice_index_or}
pub use Rattle.std.specs.declared.cmp.Ordering.{Ordering}
pub use Rattle.std.specs.declared.cmp.Ordering.TheVariants.{Equal, Less}
pub use Rattle.arch_file.specs.Arch.{IsArch}
pub use Rattle.blif.specs.LawfulCircuits.{IsCircuit}
pub use Rattle.block_places.specs.Fits.{kind_of}
pub use Rattle.cluster.proofs.Members.{few_bles}
pub use Rattle.cluster.specs.Bles.{LogicElement, bles_of}
pub use Rattle.cluster.specs.Clusters.{with_cluster}
unfoldable pub use Rattle.cluster.specs.Clusters.{clusters_after, packed_of}
pub use Rattle.cluster.specs.declared.block.Block.TheVariants.{InputPad, OutputPad}
pub use Rattle.grid.specs.PlaceLaws.{IsPlaceIn}
pub use Rattle.grid.specs.Places.{place_at, places_of}
pub use Rattle.grid.specs.declared.place.Kind.{Kind}
pub use Rattle.grid.specs.declared.place.Kind.TheVariants.{Pad}
pub use Rattle.job_state.specs.Gathered.{on_path, on_tree, on_trees, pads_below}
pub use Rattle.job_state.specs.Held.{HasFewSteps, HasMade, IsNotOverBefore, StandsFor, steps_made}
pub use Rattle.job_state.specs.Job.{JobState, is_over}
pub use Rattle.job_state.specs.JobValue.{basis_in, circuit_in, end_value, is_last, is_whole, is_whole_value, job_value, packing_sources, placing_at, placing_sources, routing_after, routing_stands, value_of, work_of}
unfoldable pub use Rattle.job_state.specs.JobValue.{nets_in, pads_in, pass_count, step_count, step_limit}
pub use Rattle.job_state.specs.Prelude.{Arch, ArePlaced, Basis, BlifFault, Block, Circuit, Cluster, Done, GaveUp, IsEarlier, IsOveruse, IsStripSize, More, Net, NoPath, Node, PackedCircuit, PackingUnderWay, Place, PlacingUnderWay, Resource, RoutingState, Standing, Strip, block_at, block_nets, blocks_of, graph_of, has, is_past_last, is_there, packing_steps, place_of, places_by_block, resource_of, routes_by_node, wiring_of}
pub use Rattle.job_state.specs.RoutedCircuits.{AreThere, IsInOrder, ListsAll, RoutedCircuit, held_by, on_strip, pad_of, pads_of}
pub use Rattle.job_state.specs.RoutedSet.{held_at_end}
unfoldable pub use Rattle.job_state.specs.RoutedSet.{resources_of}
pub use Rattle.job_state.specs.Stages.{state_at}
pub use Rattle.job_state.specs.Steps.{IsLeft, graph_for, next_work}
pub use Rattle.job_state.specs.UnderWay.{GoesOn, RoutingUnderWay, begun_state}
pub use Rattle.job_state.specs.Unshared.{before_last, packing_made}
pub use Rattle.job_state.specs.declared.sources.JobKind.{JobKind}
pub use Rattle.job_state.specs.declared.sources.JobKind.TheVariants.{Packing, Placing}
pub use Rattle.job_state.specs.declared.sources.Sources.{Sources}
pub use Rattle.job_state.specs.declared.stage.Begun.{Begun}
pub use Rattle.job_state.specs.declared.stage.Stage.{Stage}
pub use Rattle.job_state.specs.declared.step.JobStep.{JobStep}
pub use Rattle.job_state.specs.declared.work.Work.{Work}
pub use Rattle.job_state.specs.declared.work.Work.TheVariants.{Packed, Placed, Routed, Routing, Unlisted}
pub use Rattle.pathfinder.proofs.Overuses.{no_overuse}
pub use Rattle.pathfinder.specs.Negotiation.{Tree, grown_tree, next_routing, rerouted_trees, routing_with_trees}
unfoldable pub use Rattle.pathfinder.specs.Negotiation.{routed_after}
unfoldable pub use Rattle.pathfinder.specs.PlacedNets.{nets_to_route}
pub use Rattle.pathfinder.specs.Routings.{FindsNoPath, IsDone}
pub use Rattle.pathfinder.specs.Wiring.{Wiring}
pub use Rattle.pathfinder.specs.declared.overuse.Overuse.{Overuse}
pub use Rattle.rr_graph.specs.Geometry.{is_node}
pub use Rattle.rr_graph.specs.Resources.{is_same, resource_rank}
pub use Rattle.rr_graph.specs.contracts.resource.ResourceKindOrd.TheImpl.{cmp-value}
pub use Rattle.rr_graph.specs.declared.node.NodeKind.{NodeKind}
pub use Rattle.rr_graph.specs.declared.node.NodeKind.TheVariants.{ChanX, ChanY, Ipin, Opin, Sink, Source}
pub use Rattle.rr_graph.specs.declared.resource.ResourceKind.{ResourceKind}
pub use native.Mathlib.Numerals.{unary_clauses}
