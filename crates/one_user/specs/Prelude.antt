-- The names of the crates below that this crate's definitions and contracts use.
pub use Rattle.arch_file.specs.Arch.{IsArch, IsWithin, arch_of}
pub use Rattle.arch_file.specs.declared.arch.Arch.{Arch}
pub use Rattle.arch_file.specs.declared.arch.TheConstants.{MAX_IO_RAT, MAX_TRACKS}
pub use Rattle.arch_file.specs.declared.fault.ArchFault.{ArchFault}
pub use Rattle.blif.specs.CircuitOf.{circuit_of}
pub use Rattle.blif.specs.declared.circuit.Circuit.{Circuit}
pub use Rattle.blif.specs.declared.circuit.TheConstants.{MAX_NETS}
pub use Rattle.blif.specs.declared.fault.BlifFault.{BlifFault}
pub use Rattle.block_places.specs.Fits.{fit_of}
pub use Rattle.block_places.specs.Placed.{ArePlaced}
pub use Rattle.block_places.specs.declared.fit.Fit.TheVariants.{Fits}
pub use Rattle.cluster.specs.Blocks.{block_nets, net_name}
pub use Rattle.cluster.specs.Clusters.{PackedCircuit, packed_of, unfit_of}
pub use Rattle.device_report.specs.Channels.{is_wire}
pub use Rattle.device_report.specs.Text.{channel_line}
pub use Rattle.device_report.specs.declared.channels.ChannelDirection.{ChannelDirection}
pub use Rattle.device_report.specs.declared.channels.ChannelDirection.TheVariants.{Across, Up}
pub use Rattle.device_report.specs.declared.channels.ChannelUse.{ChannelUse}
pub use Rattle.grid.specs.Sizes.{IsStripSize}
pub use Rattle.grid.specs.declared.Strip.{Strip}
pub use Rattle.grid.specs.declared.TheConstants.{MAX_COLUMNS, MAX_ROWS}
pub use Rattle.grid.specs.declared.place.Place.{Place}
pub use Rattle.job_state.specs.JobValue.{end_value, is_last, job_value, nets_in, pass_count, placing_at, placing_sources, routing_sources, step_count}
pub use Rattle.job_state.specs.Progress.{IsProgress}
pub use Rattle.job_state.specs.RoutedCircuits.{ListsAll, RoutedCircuit, held_by, pads_of}
pub use Rattle.job_state.specs.RoutedSet.{resources_of}
pub use Rattle.job_state.specs.declared.progress.Progress.{Progress}
pub use Rattle.job_state.specs.declared.progress.Progress.TheVariants.{GaveUp, NoPath, Packed, Packing, Placing, Routed, Routing}
pub use Rattle.job_state.specs.declared.sources.JobKind.{JobKind}
pub use Rattle.job_state.specs.declared.sources.Sources.{Sources}
pub use Rattle.job_state.specs.declared.work.Work.{Work}
pub use Rattle.line_text.specs.TextErrors.{Fails}
pub use Rattle.line_text.specs.Writing.{Writes}
pub use Rattle.pathfinder.specs.Ends.{IsEnd}
pub use Rattle.pathfinder.specs.Negotiation.{More, Tree, occupancy, routed_after}
pub use Rattle.pathfinder.specs.Overuse.{count_over, has_node, overuse_at}
pub use Rattle.pathfinder.specs.PlacedNets.{nets_to_route, wiring_of}
pub use Rattle.pathfinder.specs.Routings.{IsAfter, RoutingState}
pub use Rattle.pathfinder.specs.Wiring.{Net}
pub use Rattle.pathfinder.specs.declared.routing.IterEnd.{IterEnd}
pub use Rattle.pathfinder.specs.declared.routing.IterEnd.TheVariants.{Again, Done}
pub use Rattle.pin_file.specs.PinFiles.{Pin}
pub use Rattle.pin_file.specs.Reading.{pins_read}
pub use Rattle.pinned_places.specs.Results.{IsPinned}
pub use Rattle.pinned_places.specs.declared.fault.PinFault.{PinFault}
pub use Rattle.rr_graph.specs.Graph.{Basis, graph_of}
pub use Rattle.rr_graph.specs.Resources.{IsEarlier, has}
pub use Rattle.rr_graph.specs.declared.node.Node.{Node}
pub use Rattle.rr_graph.specs.declared.node.NodeKind.{NodeKind}
pub use Rattle.rr_graph.specs.declared.node.NodeKind.TheVariants.{ChanX, ChanY, Ipin, Opin, Sink, Source}
pub use Rattle.rr_graph.specs.declared.resource.Resource.{Resource}
pub use Rattle.rr_graph.specs.declared.resource.ResourceKind.{ResourceKind}
pub use Rattle.strip_place.specs.Anneal.{PlacingUnderWay, is_past_last, places_by_block, temperature_at}
pub use Rattle.strip_place.specs.declared.placing.TheConstants.{MAX_EFFORT, MAX_PASSES}
pub use Rattle.strips.specs.Windows.{device_strip}
pub use Rattle.tenant_slot.specs.Results.{ending_of, failure_of, place_file_of, route_file_of}
pub use Rattle.tenant_slot.specs.SingleUser.{State, answer_to, circuit_in, kind_that_runs, misfit_of, sources_of, start, state_at_end}
pub use Rattle.tenant_slot.specs.Slot.{SlotState, after_event}
pub use Rattle.tenant_slot.specs.declared.command.Command.TheVariants.{PlaceFile, RouteFile, Status}
pub use Rattle.tenant_slot.specs.declared.event.Event.TheVariants.{Command}
pub use Rattle.tenant_slot.specs.declared.failure.RoutingFailure.{RoutingFailure}
pub use Rattle.tenant_slot.specs.declared.reply.Ending.{Ending}
pub use Rattle.tenant_slot.specs.declared.reply.FileKind.TheVariants.{Route}
pub use Rattle.tenant_slot.specs.declared.reply.Misfit.{Misfit}
pub use Rattle.tenant_slot.specs.declared.reply.Refusal.{Refusal}
pub use Rattle.tenant_slot.specs.declared.reply.Refusal.TheVariants.{BadBlif, CannotPack, DoesNotFit}
pub use Rattle.tenant_slot.specs.declared.reply.Reply.{Reply}
pub use Rattle.tenant_slot.specs.declared.reply.Reply.TheVariants.{Accepted, File, Refused, Step}
pub use Rattle.tenant_slot.specs.declared.reply.StateName.{StateName}
pub use Rattle.tenant_slot.specs.declared.reply.StateName.TheVariants.{Loaded, Placed}
pub use Rattle.tenant_slot.specs.declared.reply.StepReply.{StepReply}
pub use Rattle.tenant_slot.specs.declared.reply.StepReply.TheVariants.{Advanced, Finished, Stale}
pub use Rattle.tenant_slot.specs.declared.slot.TheConstants.{MAX_ENTRIES}
pub use Rattle.track_bound.specs.Busiest.{IsBusiest}
pub use Rattle.vpr_files.specs.NetFile.{net_text_of}
pub use Rattle.vpr_files.specs.NodeText.{node_text_of}
pub use Rattle.vpr_files.specs.PlaceFile.{place_text_of}
pub use Rattle.vpr_files.specs.RouteFile.{route_text_of}
