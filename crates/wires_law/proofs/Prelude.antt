-- The names that this crate's proofs use, but for its own lemmas.
pub use Rattle.std.proofs.Common.{Bool, Err, List, Ok, Result, Some, [], arith, false, get_or, length, map, nat_le, refl, sym, true, ℕ, ◌&&◌, ◌||◌, ◌∙◌, ◌∷◌, ◌≡◌, ◌≢◌}
pub use Rattle.std.proofs.lemmas.Bool.{and_parts, false≢true, le-leb}
pub use Rattle.std.proofs.lemmas.List.{get_or_past}
pub use Rattle.std.proofs.lemmas.List.Elements.{All-append, All-cons, All-nil, filter_passes}
pub use Rattle.std.specs.List.{flat_map, range_with_len}
pub use Rattle.std.specs.Option.{option_to_list}
pub use Rattle.std.specs.Prelude.{All}
pub use Rattle.arch_file.specs.declared.arch.Arch.{Arch}
pub use Rattle.blif.specs.declared.circuit.Circuit.{Circuit}
pub use Rattle.blif.specs.declared.fault.BlifFault.{BlifFault}
pub use Rattle.block_places.specs.Placed.{block_at, place_of}
pub use Rattle.cluster.specs.Blocks.{blocks_of}
pub use Rattle.cluster.specs.Clusters.{PackedCircuit, packed_of}
pub use Rattle.cluster.specs.declared.block.Block.{Block}
pub use Rattle.cluster.specs.declared.block.Block.TheVariants.{Cluster, InputPad, OutputPad}
pub use Rattle.grid.specs.declared.Strip.{Strip}
pub use Rattle.grid.specs.declared.place.Place.{Place}
pub use Rattle.job_state.specs.Gathered.{on_path, on_tree, on_trees}
pub use Rattle.job_state.specs.JobValue.{basis_in, circuit_in, nets_in, pass_count, placing_at, routing_sources, routing_stands, step_count, value_of}
unfoldable pub use Rattle.job_state.specs.JobValue.{pads_in}
pub use Rattle.job_state.specs.RoutedCircuits.{pad_of, pads_of}
pub use Rattle.job_state.specs.RoutedSet.{held_at_end}
unfoldable pub use Rattle.job_state.specs.RoutedSet.{resources_of}
pub use Rattle.job_state.specs.declared.sources.Sources.{Sources}
pub use Rattle.kept_places.specs.Kept.{KeptPlaces}
pub use Rattle.pathfinder.specs.Negotiation.{Done, GaveUp, More, NoPath, Routed, Standing, Tree, routed_after}
pub use Rattle.pathfinder.specs.PlacedNets.{wiring_of}
pub use Rattle.pathfinder.specs.Routings.{routes_by_node}
pub use Rattle.pathfinder.specs.Wiring.{Net}
pub use Rattle.rr_graph.specs.Geometry.{is_chan_y, is_edge, is_node, is_slot, joins}
pub use Rattle.rr_graph.specs.Graph.{make_node}
unfoldable pub use Rattle.rr_graph.specs.Graph.{graph_of, nodes_of}
pub use Rattle.rr_graph.specs.Resources.{has, moved_resource, resource_kind_of, resource_of}
pub use Rattle.rr_graph.specs.declared.node.Node.{Node}
pub use Rattle.rr_graph.specs.declared.node.NodeKind.{NodeKind}
pub use Rattle.rr_graph.specs.declared.resource.Resource.{Resource}
pub use Rattle.rr_graph.specs.declared.resource.ResourceKind.{ResourceKind}
pub use Rattle.rr_graph.specs.declared.resource.ResourceKind.TheVariants.{ChanX, ChanY, Ipin, Opin, Pad}
pub use Rattle.service_core.proofs.Holdings.{has-moved, has_all}
pub use Rattle.service_core.proofs.Owning.{in_window}
pub use Rattle.service_core.proofs.Parted.{are_parted}
pub use Rattle.service_core.specs.Headline.{AreParted}
pub use Rattle.service_core.specs.History.{History, state_of}
pub use Rattle.service_core.specs.Owners.{IsOwner}
pub use Rattle.service_core.specs.Run.{Call, Run}
pub use Rattle.service_core.specs.Service.{ServiceState, empty_service}
pub use Rattle.service_core.specs.declared.device.Device.{Device}
pub use Rattle.strip_place.specs.Anneal.{places_by_block}
pub use Rattle.strips.proofs.Laid.{apart_of}
pub use Rattle.strips.proofs.Windows.{beside_outside, pair_leaves, windows_apart}
pub use Rattle.strips.specs.Plan.{AreApart, strip_of}
pub use Rattle.strips.specs.Windows.{device_strip, is_in_window, strip_of_width}
pub use Rattle.strips.specs.declared.placed_strip.PlacedStrip.{PlacedStrip}
pub use Rattle.tenant_slot.specs.RoutedSet.{held_in}
unfoldable pub use Rattle.tenant_slot.specs.RoutedSet.{routed_set}
pub use Rattle.tenant_slot.specs.SingleUser.{State}
pub use Rattle.tenant_slot.specs.declared.reply.StateName.{StateName}
pub use Rattle.tenant_slot.specs.declared.reply.StateName.TheVariants.{Empty, Loaded, Packed, Packing, Placed, Placing, Routing, Unrouted}
pub use Rattle.wires_law.specs.Untouched.{AreUntouched}
