-- The names that this crate's proofs use, but for its own lemmas.
pub use Rattle.std.proofs.Common.{Bool, IfOk, List, None, Ok, Option, Result, Some, [], ap, arith, cond, false, get_or, if◌then◌else◌, inl, inr, length, map, refl, subst, suc, sym, true, zero, ℕ, ◌*◌, ◌+◌, ◌<◌, ◌∙◌, ◌∷◌, ◌≡◌, ◌≢◌, ◌≤◌, ◌⊎◌}
pub use Rattle.std.proofs.lemmas.Bool.{cases_eq, cases_lt}
pub use Rattle.std.proofs.lemmas.List.FromFn.{get_or-range_with_len, length-range_with_len}
pub use Rattle.std.proofs.lemmas.List.Sums.{fails_before_first, passes_at_first}
pub use Rattle.std.specs.List.{position_or_len, range_with_len}
pub use Rattle.std.specs.Prelude.{All, AllPairs, Contains, ⊤}
pub use Rattle.arch_file.specs.Arch.{IsArch}
pub use Rattle.arch_file.specs.declared.arch.Arch.{Arch}
pub use Rattle.blif.proofs.AllTexts.{text_lawful}
pub use Rattle.blif.specs.CircuitOf.{circuit_of}
pub use Rattle.blif.specs.LawfulCircuits.{IsNarrow}
pub use Rattle.blif.specs.declared.circuit.Circuit.{Circuit}
pub use Rattle.blif.specs.declared.fault.BlifFault.{BlifFault}
pub use Rattle.block_places.specs.Fits.{fit_of, kind_of}
pub use Rattle.block_places.specs.Placed.{ArePlaced}
pub use Rattle.block_places.specs.declared.fit.Fit.TheVariants.{Fits}
pub use Rattle.cluster.proofs.Members.{packed_lawful}
pub use Rattle.cluster.specs.Blocks.{blocks_of}
pub use Rattle.cluster.specs.Clusters.{PackedCircuit, unfit_of}
unfoldable pub use Rattle.cluster.specs.Clusters.{packed_of}
pub use Rattle.cluster.specs.LawfulPackings.{IsPacked}
pub use Rattle.cluster.specs.PackingLaws.{IsLawfulPacking}
pub use Rattle.grid.specs.PlaceLaws.{IsPlaceIn}
pub use Rattle.grid.specs.Places.{places_of}
pub use Rattle.grid.specs.Sizes.{IsStripSize}
pub use Rattle.grid.specs.declared.Strip.{Strip}
pub use Rattle.grid.specs.declared.place.Kind.{Kind}
pub use Rattle.grid.specs.declared.place.Kind.TheVariants.{Logic, Pad}
pub use Rattle.grid.specs.declared.place.Place.{Place}
pub use Rattle.implements.specs.Connects.{Connects}
pub use Rattle.implements.specs.Implements.{Implements}
pub use Rattle.implements.specs.LayoutOf.{layout_of}
pub use Rattle.implements.specs.Layouts.{Layout}
pub use Rattle.job_state.proofs.Beginnings.{over_past_last}
pub use Rattle.job_state.proofs.Ended.{placed_made}
pub use Rattle.job_state.proofs.Routings.{over_by_thirty}
pub use Rattle.job_state.specs.Held.{HasFewSteps, IsNotOverBefore}
pub use Rattle.job_state.specs.JobValue.{basis_in, end_value, is_last, is_whole, is_whole_value, pads_in, pass_count, placing_at, placing_sources, routing_sources, routing_stands, value_of, work_of}
unfoldable pub use Rattle.job_state.specs.JobValue.{nets_in, step_count, step_limit}
pub use Rattle.job_state.specs.RoutedCircuits.{RoutedCircuit}
pub use Rattle.job_state.specs.declared.sources.JobKind.{JobKind}
pub use Rattle.job_state.specs.declared.sources.JobKind.TheVariants.{Packing, Placing, Routing}
pub use Rattle.job_state.specs.declared.sources.Sources.{Sources}
pub use Rattle.job_state.specs.declared.work.Work.{Work}
pub use Rattle.job_state.specs.declared.work.Work.TheVariants.{Placed}
pub use Rattle.kept_places.specs.Kept.{KeptPlaces}
pub use Rattle.layout_law.specs.Tenancies.{FilesImplement, ImplementsItsText}
pub use Rattle.layout_text.specs.LayoutText.{net_text, place_text, route_text}
pub use Rattle.pathfinder.proofs.PlacedTerminals.{are_nets}
pub use Rattle.pathfinder.specs.LegalRoutes.{IsLegal}
pub use Rattle.pathfinder.specs.Negotiation.{Done, GaveUp, More, NoPath, Standing, routed_after}
pub use Rattle.pathfinder.specs.PlacedNets.{nets_to_route, wiring_of}
pub use Rattle.pathfinder.specs.Routings.{routes_by_node}
pub use Rattle.pathfinder.specs.Wiring.{AreNets, Net}
pub use Rattle.rr_graph.specs.Graph.{Basis, IsBasis, IsRoutingGraph, graph_of}
pub use Rattle.rr_graph.specs.declared.node.Node.{Node}
pub use Rattle.strip_place.proofs.Boarding.{standing_after}
pub use Rattle.strip_place.proofs.Carrying.{draw_decided, draw_stays}
pub use Rattle.strip_place.proofs.Keeping.{placed_kept}
pub use Rattle.strip_place.proofs.KeptSites.{kept_lawful, none_kept}
pub use Rattle.strip_place.proofs.Seatings.{start_standing}
pub use Rattle.strip_place.proofs.Standing.{distinct_by, placed_by}
pub use Rattle.strip_place.proofs.StartPlaces.{start_places}
pub use Rattle.strip_place.proofs.Starts.{fitting}
pub use Rattle.strip_place.specs.Anneal.{PlacingUnderWay, is_past_last, places_by_block}
unfoldable pub use Rattle.strip_place.specs.Anneal.{placed_after}
pub use Rattle.strip_place.specs.Boards.{drawn_block, places_on}
pub use Rattle.strip_place.specs.Keeping.{AreKeptOn}
pub use Rattle.strip_place.specs.KeptSites.{kept_sites_of}
pub use Rattle.strip_place.specs.Pass.{Draw, after_draw, cost_of, is_kept}
unfoldable pub use Rattle.strip_place.specs.Pass.{pass_of}
pub use Rattle.strip_place.specs.Seating.{exchanged_site}
pub use Rattle.strip_place.specs.Sites.{AreDistinct, AreOneToOne, IsSiteFor, drawn_for, site_count, start_of}
pub use Rattle.strip_place.specs.Start.{places_at_start}
pub use Rattle.strip_place.specs.Starting.{HaveRoom}
pub use Rattle.strip_place.specs.Task.{Task}
unfoldable pub use Rattle.strip_place.specs.Task.{task_of}
pub use Rattle.tenant_slot.specs.Results.{failure_of, kept_at_end}
pub use Rattle.tenant_slot.specs.SingleUser.{State, advance, after_reply, answer_to, is_lawful, is_next, kind_that_runs, next_generation, place, run, serve, sources_of, start, state_after, state_at_end, step, with_circuit, with_kept_places, with_netlist}
pub use Rattle.tenant_slot.specs.declared.command.Command.{Command}
pub use Rattle.tenant_slot.specs.declared.event.Advance.{Advance}
pub use Rattle.tenant_slot.specs.declared.event.Event.{Event}
pub use Rattle.tenant_slot.specs.declared.reply.Reply.{Reply}
pub use Rattle.tenant_slot.specs.declared.reply.Reply.TheVariants.{Accepted, Step}
pub use Rattle.tenant_slot.specs.declared.reply.StateName.{StateName}
pub use Rattle.tenant_slot.specs.declared.reply.StateName.TheVariants.{Empty, Loaded, Packed, Routed, Unrouted}
pub use Rattle.tenant_slot.specs.declared.reply.StepReply.TheVariants.{Advanced, Finished, Stale}
pub use Rattle.vpr_files.specs.NetFile.{net_text_of}
pub use Rattle.vpr_files.specs.PlaceFile.{place_text_of}
pub use Rattle.vpr_files.specs.RouteFile.{route_text_of}
