-- The names that this crate's proofs use, but for its own lemmas.
pub use Rattle.std.proofs.Common.{Bool, Err, Global, IfOk, List, None, Ok, Option, Result, Some, Vec, [], ap, arith, cond, false, filter, get_or, inl, inr, length, length-append, map, max, min, not, refl, rules, slice_index, slice_index_or, subst, suc, sym, take, true, zero, ℕ, ◌*◌, ◌++◌, ◌+◌, ◌/◌, ◌<◌, ◌∙◌, ◌∷◌, ◌≡◌, ◌≢◌, ◌≤◌, ◌⊎◌}
pub use Rattle.std.proofs.Math.Nat.{eq-or-lt_of_le}
pub use Rattle.std.proofs.lemmas.Bool.{cases_eq, cases_lt}
pub use Rattle.std.proofs.lemmas.List.{append-nil, length-map, map-id, take_more}
pub use Rattle.std.proofs.lemmas.List.Elements.{All-push, Contains-append_left, Contains-append_right}
pub use Rattle.std.proofs.lemmas.List.FromFn.{filter_of_map_range_with_len_more, get_or-range_with_len, length-range_with_len}
pub use Rattle.std.proofs.lemmas.List.Quantifiers.{all_pairs_push}
pub use Rattle.std.proofs.lemmas.List.Sums.{fails_before_first, passes_at_first}
pub use Rattle.std.proofs.lemmas.Option.{slice_get-get_or}
pub use Rattle.std.specs.List.{AllZip, flat_map, position_or_len, range_with_len, slice_get}
pub use Rattle.std.specs.Option.{option_map_or}
pub use Rattle.std.specs.Prelude.{All, AllPairs, Contains, IfSome, IsSome, if◌then◌else◌, is_some, nat_le, nat_lt, option_and_then, option_map, ◌&&◌, ◌==◌}
pub use Rattle.arch_file.specs.Arch.{arch_from, arch_of_lines}
unfoldable pub use Rattle.arch_file.specs.Arch.{arch_of}
pub use Rattle.arch_file.specs.declared.arch.Pin.{Pin}
pub use Rattle.arch_file.specs.declared.fault.ArchFaultKind.TheVariants.{OverLimit}
unfoldable pub use Rattle.block_places.specs.Fits.{fit_of}
pub use Rattle.cluster.specs.Clusters.{packing_steps}
unfoldable pub use Rattle.cluster.specs.Clusters.{cluster_of, clusters_after, packed_of, unfit_of}
pub use Rattle.cluster.specs.PackingLaws.{IsLawfulPacking}
pub use Rattle.device_report.specs.declared.tenancies.ResourceUse.{ResourceUse}
pub use Rattle.job_state.proofs.Ended.{placing_whole}
pub use Rattle.job_state.proofs.FewSteps.{few_steps}
pub use Rattle.job_state.proofs.Iterations.{ends_by_thirty, of_nets}
pub use Rattle.job_state.proofs.Routings.{over_by_thirty}
pub use Rattle.job_state.proofs.StepCounts.{pass_count_is, step_count_is}
pub use Rattle.job_state.specs.JobValue.{is_whole, is_whole_value, packing_sources, routing_stands, value_of}
unfoldable pub use Rattle.job_state.specs.JobValue.{nets_in, pads_in, step_count, step_limit}
pub use Rattle.job_state.specs.RoutedSet.{held_at_end}
unfoldable pub use Rattle.job_state.specs.RoutedSet.{resources_of}
pub use Rattle.job_state.specs.Steps.{kind_of}
pub use Rattle.job_state.specs.declared.step.JobStep.{JobStep}
pub use Rattle.line_text.proofs.WritingLemmas.{all_loop, all_same, part_first, part_loop, part_same, part_then, writes_part, writes_same, writes_then}
pub use Rattle.line_text.specs.Lines.{JoinedLine, lines_of}
pub use Rattle.line_text.specs.Writing.{TakesAll}
pub use Rattle.line_text.specs.declared.fault.LineFault.{LineFault}
pub use Rattle.line_text.specs.declared.lines.TheConstants.{MAX_TEXT}
pub use Rattle.one_user.specs.Counting.{AreCounts, NoColumnsBelow, NoRowsBelow, NoSquareBelow}
pub use Rattle.one_user.specs.Counts.{HasCounts, IsWhole}
pub use Rattle.one_user.specs.Crowding.{AreCrowdedNodes, AreMostOverused, ComesBefore, IsAfterLast, IsCrowdedNode, IsCrowdingOf, IsGivenUp, IsNextMostOverused, IsOverused, last_trees, over_of}
pub use Rattle.one_user.specs.CrowdingText.{crowded_line, net_word}
pub use Rattle.one_user.specs.Figures.{HasFigures, product, wires_there}
pub use Rattle.one_user.specs.Lines.{fullest_line}
pub use Rattle.one_user.specs.Outcomes.{Task, by_routing, files_of, left_of, outcome_of, placing_of, routing_of}
pub use Rattle.one_user.specs.Pinned.{AreTooFewBelow, IsLeftWith, IsPinnedWith, IsTryOn, IsWholeRun}
pub use Rattle.one_user.specs.PlacedRuns.{AreFiguresWith, EndsWith, IsRunOn, IsRunWith, counts_in, files_with, nets_on_device, routed_with}
pub use Rattle.one_user.specs.Placing.{AreAllPasses, IsPlacing}
pub use Rattle.one_user.specs.Prelude.{Accepted, Advanced, Arch, ArchFault, ArePlaced, Basis, BlifFault, Circuit, Command, Ending, File, Finished, IsAfter, IsArch, IsBusiest, IsStripSize, IsWithin, IterEnd, JobKind, Loaded, MAX_PASSES, MAX_TRACKS, Misfit, More, Net, Node, PackedCircuit, Place, PlaceFile, Placed, PlacingUnderWay, Progress, Refusal, Reply, RouteFile, RoutedCircuit, RoutingFailure, RoutingState, SlotState, Sources, State, StateName, Status, Step, StepReply, Strip, Work, Writes, after_event, answer_to, block_nets, circuit_in, circuit_of, count_over, device_strip, end_value, failure_of, graph_of, has, has_node, held_by, is_last, is_past_last, job_value, kind_that_runs, misfit_of, overuse_at, pads_of, pass_count, pins_read, place_file_of, places_by_block, placing_at, route_file_of, sources_of, start, state_at_end, wiring_of}
pub use Rattle.one_user.specs.RoutingEnds.{IsLastIteration, IsRoutes, IsRoutingEnd}
pub use Rattle.one_user.specs.Service.{AreTold, HasRouted}
pub use Rattle.one_user.specs.Steps.{Finishes, Goes, IsAt, IsLeft, IsLoaded, IsPacked, IsPlaced, IsTold, MakesStep, device_of, ending_in, refusal_in, slot_in, state_at, task_in, text_in}
pub use Rattle.one_user.specs.Tracks.{AreUnroutedBelow, ComesTo, IsFirstTry, IsLawful, IsPlacedWith, IsTry, StaysUnrouted, WasRouted, WasUnrouted, task_for}
pub use Rattle.one_user.specs.declared.crowding.CrowdedNode.{CrowdedNode}
pub use Rattle.one_user.specs.declared.crowding.Crowding.{Crowding}
pub use Rattle.one_user.specs.declared.device.Request.{Request}
pub use Rattle.one_user.specs.declared.figures.Figures.{Figures}
pub use Rattle.one_user.specs.declared.figures.PackedCounts.{PackedCounts}
pub use Rattle.one_user.specs.declared.least.DevicePlan.{DevicePlan}
pub use Rattle.one_user.specs.declared.least.FirstTry.{FirstTry}
pub use Rattle.one_user.specs.declared.outcome.Files.{Files}
pub use Rattle.one_user.specs.declared.outcome.FlowOutcome.{FlowOutcome}
pub use Rattle.one_user.specs.declared.outcome.FlowOutcome.TheVariants.{Refused, Unrouted}
pub use Rattle.one_user.specs.declared.outcome.Run.{Run}
pub use Rattle.one_user.specs.declared.routing_end.LastIteration.{LastIteration}
pub use Rattle.one_user.specs.declared.steps.StepMade.{StepMade}
pub use Rattle.pathfinder.proofs.Overuses.{count_same, counts_none, counts_one, long_after}
pub use Rattle.pathfinder.specs.Negotiation.{Done, GaveUp, NoPath, Routed, Standing, next_routing}
unfoldable pub use Rattle.pathfinder.specs.Negotiation.{routed_after}
unfoldable pub use Rattle.pathfinder.specs.PlacedNets.{nets_to_route}
pub use Rattle.pathfinder.specs.Wiring.{Wiring}
pub use Rattle.rr_graph.specs.Graph.{IsBasis}
pub use Rattle.strip_place.specs.Anneal.{end_of, one_more}
unfoldable pub use Rattle.strip_place.specs.Anneal.{temperature_at}
unfoldable pub use Rattle.strip_place.specs.Start.{placed_first}
unfoldable pub use Rattle.strip_place.specs.Task.{task_of}
pub use Rattle.strip_place.specs.declared.placing.PassEnd.TheVariants.{Last}
pub use Rattle.tenant_slot.proofs.Runs.{step-room}
unfoldable pub use Rattle.tenant_slot.specs.RoutedSet.{routed_set}
pub use Rattle.tenant_slot.specs.SingleUser.{after_reply, go_on, is_next, pack_unless, routed_unless, step, with_circuit, with_netlist}
pub use Rattle.tenant_slot.specs.Slot.{IsAdvanceOf, is_takeable, next_job, running_sources}
pub use Rattle.tenant_slot.specs.declared.command.Command.TheVariants.{Pack, Route, Upload}
pub use Rattle.tenant_slot.specs.declared.event.Advance.{Advance}
pub use Rattle.tenant_slot.specs.declared.event.Event.{Event}
pub use Rattle.tenant_slot.specs.declared.reply.StateName.TheVariants.{Packed, Packing, Placing, Routing}
pub use Rattle.track_bound.specs.Crossings.{crossing_count}
unfoldable pub use Rattle.vpr_files.specs.NetFile.{net_text_of}
unfoldable pub use Rattle.vpr_files.specs.PlaceFile.{place_text_of}
unfoldable pub use Rattle.vpr_files.specs.RouteFile.{route_text_of}
