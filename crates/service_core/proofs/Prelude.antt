-- The names that this crate's proofs use, but for its own lemmas.
pub use Rattle.std.proofs.Common.{Bool, Err, List, None, Ok, Option, Result, Some, [], ap, append-nil, append_assoc, arith, cond, eqb, false, get_or, inl, inr, length, length-append, map, nat_le, nat_lt, not, refl, rules, subst, suc, sym, true, zero, ℕ, ◌%◌, ◌&&◌, ◌*◌, ◌++◌, ◌+◌, ◌-◌, ◌<◌, ◌||◌, ◌∙◌, ◌∷◌, ◌≡◌, ◌≢◌, ◌≤◌, ◌⊎◌}
pub use Rattle.std.proofs.Math.ListN.{set}
pub use Rattle.std.proofs.lemmas.Bool.{and_from, and_parts, false≢true, le-leb, leb-true, lt-ltb, ltb-true, or_cases}
pub use Rattle.std.proofs.lemmas.Bool.Decides.{Decides-eqb, nat_tests}
pub use Rattle.std.proofs.lemmas.List.{get_or_past, map-append, map_push, set-get_or}
pub use Rattle.std.proofs.lemmas.List.Elements.{All-append, All-cons, All-contains_itself, All-filter, All-get_or, All-head, All-nil, All-push, All-tail, All-weaker, Contains-append_left, Contains-append_right, filter-append, filter_passes}
pub use Rattle.std.proofs.lemmas.List.Folds.{list_any_at}
pub use Rattle.std.proofs.lemmas.List.Kept.{AllPairs-filter}
pub use Rattle.std.proofs.lemmas.List.Sums.{sum_by-append}
pub use Rattle.std.proofs.lemmas.Option.{get_or_from_slice_get, none-some, same_Some, slice_get_within}
pub use Rattle.std.proofs.lemmas.Result.{IfOk-weaker}
pub use Rattle.std.specs.List.{filter, flat_map, list_any, range_with_len, zip}
pub use Rattle.std.specs.Option.{IsSome, option_map_or, option_to_list}
pub use Rattle.std.specs.Prelude.{All, Contains, IfSome, IsSomeAnd, find, if◌then◌else◌, is_some, max, option_and_then, option_map, slice_get, unwrap_or, ⊤, ◌↔◌}
pub use Rattle.std.specs.Result.{is_err}
pub use Rattle.std.specs.declared.alloc.AllocError.{AllocError}
pub use Rattle.arch_file.specs.Arch.{is_input_class, is_output_class}
pub use Rattle.arch_file.specs.declared.arch.Pin.{Pin}
pub use Rattle.blif.specs.declared.circuit.Circuit.{Circuit}
pub use Rattle.blif.specs.declared.fault.BlifFault.{BlifFault}
pub use Rattle.block_places.specs.Placed.{block_at, is_same_place, place_of}
pub use Rattle.cluster.proofs.Pairs.{all_back}
pub use Rattle.cluster.specs.Blocks.{blocks_of}
pub use Rattle.cluster.specs.Clusters.{PackedCircuit, packed_of}
pub use Rattle.cluster.specs.Keys.{keys_of}
pub use Rattle.cluster.specs.declared.block.Block.{Block}
pub use Rattle.cluster.specs.declared.block.Block.TheVariants.{Cluster, InputPad, OutputPad}
pub use Rattle.device_book.proofs.Places.{same_resource}
pub use Rattle.device_book.specs.Owners.{AreOwned, IsNoOneElses, ListsOwners, OwnsJust, Shifts, StandIn}
pub use Rattle.grid.specs.Places.{column_of, pads_at, place_at}
unfoldable pub use Rattle.grid.specs.Places.{places_of}
pub use Rattle.grid.specs.declared.place.Kind.{Kind}
pub use Rattle.grid.specs.declared.place.Kind.TheVariants.{Logic, Pad}
pub use Rattle.grid.specs.declared.place.Place.{Place}
pub use Rattle.job_state.specs.Gathered.{on_path, on_tree, on_trees}
pub use Rattle.job_state.specs.JobValue.{circuit_in, nets_in, pass_count, placing_at, routing_sources, routing_stands, step_count, value_of}
unfoldable pub use Rattle.job_state.specs.JobValue.{pads_in}
pub use Rattle.job_state.specs.RoutedCircuits.{pad_of, pads_of}
pub use Rattle.job_state.specs.RoutedSet.{held_at_end}
unfoldable pub use Rattle.job_state.specs.RoutedSet.{resources_of}
pub use Rattle.job_state.specs.declared.sources.Sources.{Sources}
pub use Rattle.kept_places.specs.Kept.{KeptPlaces, kept_place}
pub use Rattle.pathfinder.specs.Negotiation.{Done, GaveUp, More, NoPath, Routed, Standing, Tree, routed_after}
pub use Rattle.pathfinder.specs.PlacedNets.{wiring_of}
pub use Rattle.pathfinder.specs.Routings.{routes_by_node}
pub use Rattle.pathfinder.specs.Wiring.{Net}
pub use Rattle.rr_graph.specs.Geometry.{is_block_number, is_block_row, is_chan_y, is_node, is_pad_row, is_slot}
pub use Rattle.rr_graph.specs.Graph.{make_node}
unfoldable pub use Rattle.rr_graph.specs.Graph.{graph_of, nodes_of}
pub use Rattle.rr_graph.specs.Resources.{is_same, resource_of}
pub use Rattle.rr_graph.specs.declared.node.Node.{Node}
pub use Rattle.rr_graph.specs.declared.node.NodeKind.{NodeKind}
pub use Rattle.rr_graph.specs.declared.resource.ResourceKind.{ResourceKind}
pub use Rattle.rr_graph.specs.declared.resource.ResourceKind.TheVariants.{ChanX, ChanY, Ipin, Opin}
pub use Rattle.service_core.specs.Calls.{IsGivenBack, IsMoved, IsNextStep, IsOriginIn, IsPut, IsServed, IsTaken, Puts}
pub use Rattle.service_core.specs.Headline.{AreAlike, AreOwnJournals, AreParted, AreToldTheSame, Counts, EachIsAlone, HaveSameStrip, IsBook}
pub use Rattle.service_core.specs.History.{History, IsReplayed, events_of, slot_of, state_of, with_entry, with_here}
pub use Rattle.service_core.specs.Kept.{AreFree, ChecksAdmission, IsLiveIn, IsPlaceOf, IsService, IsSound, KeepsBook, TakesUp, held_at, placed_at, routed_in, with_entry_of, with_here_of}
pub use Rattle.service_core.specs.OwnEvents.{if_own, own_events, own_exchange, own_exchanges, own_replies}
pub use Rattle.service_core.specs.Owners.{HasOneOwner, IsOwner, ListsOwnersOf}
pub use Rattle.service_core.specs.Prelude.{Accepted, Advanced, Answers, Arch, Event, Finished, GivesBack, IsAdvanceOf, IsFirstFit, IsFree, IsOrigin, IsParted, JobState, JobStep, NotAnswered, Origin, Owned, Owners, PlacedStrip, Plan, Refused, Releases, Reply, Resource, SlotState, Stale, State, Step, StepReply, Strip, basis_in, extent_of, has, in_book, is_there, moved_resource, offset_of, owner_of, replies_to, run, start, state_after, step, strip_of, strips_without, with_moved}
pub use Rattle.service_core.specs.Receipt.{Receipted}
pub use Rattle.service_core.specs.Run.{Admit, Call, CanAdmit, Evict, GiveBack, Happens, IsGivenBackTo, IsReceipt, IsStepOf, Move, Put, Run, Take, Tenant, step_entry, step_event}
pub use Rattle.service_core.specs.Service.{AreAlone, IsAloneOn, ServiceState, admitted_history, empty_service, entries_in, history_of, journal_of, live_of, live_width, placed_width, strip_on, with_changed, with_tenancy, without_tenancy}
pub use Rattle.service_core.specs.Tenancy.{GivesHistoryBack, GivesUp, GivesUpOrKeeps, IsHistory, PutsHistory, ServesHistory, StandsIn, TakesHistory, closed_history, if_live}
pub use Rattle.service_core.specs.Texts.{Adds, AddsBytes, CountAs, FitInto, all_bytes, bytes_of, command_texts, entry_texts, event_texts, reply_texts}
pub use Rattle.service_core.specs.declared.device.Device.{Device}
pub use Rattle.service_core.specs.declared.entry.Entry.{Entry}
pub use Rattle.service_core.specs.declared.not_served.NotServed.TheVariants.{JournalFull, NoMemory, NoSuchTenancy}
pub use Rattle.service_core.specs.declared.op_refusal.OpRefusal.{OpRefusal}
pub use Rattle.service_core.specs.declared.op_refusal.OpRefusal.TheVariants.{BadWidth, IdsSpent, NoRoom, TooManyStrips}
pub use Rattle.service_core.specs.declared.put_reply.PutReply.TheVariants.{Full, Gone, Recorded}
pub use Rattle.strip_place.specs.Anneal.{PlacingUnderWay, places_by_block, temperature_at}
unfoldable pub use Rattle.strip_place.specs.Anneal.{placed_after}
pub use Rattle.strip_place.specs.Keeping.{kind_for}
pub use Rattle.strip_place.specs.Pass.{Draw, after_move, cost_of, drawn_place, is_kept, place_after}
unfoldable pub use Rattle.strip_place.specs.Pass.{after_draw, pass_of}
pub use Rattle.strip_place.specs.Start.{kept_by_block, place_for, placed_behind, places_at_start}
unfoldable pub use Rattle.strip_place.specs.Start.{placed_first}
pub use Rattle.strip_place.specs.Task.{Task, task_of}
pub use Rattle.strips.proofs.Laid.{IsParted-with, IsParted-with-apart, IsParted-with-inside, apart_of, found_id, strip_of-push, strip_of-without}
pub use Rattle.strips.specs.Plan.{FitsAt, Moves, moved_strip}
pub use Rattle.tenant_slot.proofs.Leading.{net, pack, placing}
pub use Rattle.tenant_slot.proofs.Runs.{replies_to-append, state_after-append, step-accepted, step-full}
pub use Rattle.tenant_slot.specs.RoutedSet.{held_in}
unfoldable pub use Rattle.tenant_slot.specs.RoutedSet.{routed_set}
pub use Rattle.tenant_slot.specs.SingleUser.{advance, after_reply, answer_to, at_rest, is_lawful, is_next, kind_that_runs, serve}
pub use Rattle.tenant_slot.specs.Slot.{running_sources}
pub use Rattle.tenant_slot.specs.declared.command.Command.TheVariants.{Status, Withdraw}
pub use Rattle.tenant_slot.specs.declared.event.Advance.{Advance}
pub use Rattle.tenant_slot.specs.declared.event.Event.TheVariants.{Command}
pub use Rattle.tenant_slot.specs.declared.reply.Refusal.TheVariants.{WrongState}
pub use Rattle.tenant_slot.specs.declared.reply.StateName.{StateName}
pub use Rattle.tenant_slot.specs.declared.reply.StateName.TheVariants.{Empty, Loaded, Packed, Packing, Placed, Placing, Routing, Unrouted}
