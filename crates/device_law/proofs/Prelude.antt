-- The names that this crate's proofs use, but for its own lemmas.
pub use Rattle.std.proofs.Common.{Bool, Err, List, None, Ok, Option, Result, Some, [], ap, append-nil, append_assoc, arith, codes, cond, decimal, drop, eq-eqb, eqb, false, get_or, inl, inr, le-leb, length, length-append, lt-ltb, map, nat_le, not, refl, subst, suc, sym, take, true, zero, ℕ, ◌%◌, ◌&&◌, ◌*◌, ◌++◌, ◌+◌, ◌-◌, ◌/◌, ◌<◌, ◌^◌, ◌||◌, ◌∙◌, ◌∷◌, ◌≡◌, ◌≤◌, ◌⊎◌}
pub use Rattle.std.proofs.lemmas.Bool.{and_from, and_parts, cases_lt, eqb-true, false≢true, leb-true, ltb-true, true≢false}
pub use Rattle.std.proofs.lemmas.Bool.Decides.{nat_tests}
pub use Rattle.std.proofs.lemmas.Fmt.{decimal_by_steps, decimal_nonempty}
pub use Rattle.std.proofs.lemmas.List.{get_or_past}
pub use Rattle.std.proofs.lemmas.List.Elements.{All-append, All-contains_itself, All-head, All-nil, All-push, All-tail, filter_passes}
pub use Rattle.std.proofs.lemmas.List.Folds.{find-append, list_all-append}
pub use Rattle.std.proofs.lemmas.List.Splits.{slice_split_at}
pub use Rattle.std.proofs.lemmas.List.Sums.{AllPass-from_list_all, fold-append}
pub use Rattle.std.proofs.lemmas.Option.{none-some, same_Some, slice_get_within}
pub use Rattle.std.specs.Fmt.{digit_glyph, digits_onto}
unfoldable pub use Rattle.std.specs.Fmt.{digits}
pub use Rattle.std.specs.List.{after_first, before_first, enumerate_from, flat_map, list_all, list_any, onto_first, position_or_len, range_with_len, slice_split}
pub use Rattle.std.specs.Option.{option_map_or, option_or, option_to_list}
pub use Rattle.std.specs.Prelude.{All, AllPairs, Contains, IfSome, IsSome, IsSomeAnd, find, if◌then◌else◌, is_some, min, nat_lt, option_map, position, slice_get, unwrap_or, ⊤, ◌==◌}
pub use Rattle.arch_file.proofs.FewPins.{few_pins}
pub use Rattle.arch_file.specs.Arch.{IsArch, is_input_class, is_output_class}
pub use Rattle.arch_file.specs.declared.arch.Arch.{Arch}
pub use Rattle.arch_file.specs.declared.arch.Pin.{Pin}
pub use Rattle.arch_file.specs.declared.fault.ArchFault.{ArchFault}
pub use Rattle.blif.specs.CircuitOf.{circuit_of}
pub use Rattle.blif.specs.declared.circuit.Circuit.{Circuit}
pub use Rattle.blif.specs.declared.fault.BlifFault.{BlifFault}
pub use Rattle.block_places.specs.Fits.{kind_of}
pub use Rattle.block_places.specs.Placed.{block_at, place_of}
pub use Rattle.cluster.specs.Blocks.{blocks_of}
pub use Rattle.cluster.specs.Clusters.{PackedCircuit, packed_of}
pub use Rattle.cluster.specs.declared.block.Block.{Block}
pub use Rattle.cluster.specs.declared.block.Block.TheVariants.{Cluster}
pub use Rattle.device_law.specs.OwnersBack.{AreExactlyRead, AreOwnersReadBack, IsSmall, after_count, is_on, is_on_by, is_pad_on, is_pin_on, last_line, node_of, owned_as, owners_read, with_owners}
pub use Rattle.device_law.specs.Prelude.{Act, Architecture, Call, ChanX, ChanY, Device, DeviceFault, DeviceSize, History, InputFault, Ipin, IsDevice, IsEarlier, IsOwner, Listed, NoList, NoOwners, NotThere, Operator, Opin, Owned, OwnedNode, Owners, Pad, PlacedStrip, Resource, ResourceKind, Run, Seen, ServiceState, Session, Stage, Telling, Tells, after_line, device_of, empty_service, is_in_strip, is_name, is_within, list_line, list_text, listed_on, live_of, nothing_seen, offset_of, owner_seen, owners_text, plus, start_of, state_of, state_text, strip_of}
pub use Rattle.device_law.specs.ReadBack.{ArePrintable, IsInside, IsListReadBack, IsPrintable, Reading, after_heading, entries, entries_read, entry_of, from_step}
pub use Rattle.device_law.specs.Shown.{AreOnDevice, IsOutputRead, IsReadFrom, Shown, nothing_shown, owners_in, reports, shown_after, shown_by, shown_in, size_of, strip_listed, without_state}
pub use Rattle.device_lines.specs.Lines.{begins_with_digit, is_name_byte, is_reply_word, is_state}
unfoldable pub use Rattle.device_lines.specs.Lines.{change_in, first_counted, first_kind, listed_in, owned_in, owner_count, owner_line}
pub use Rattle.device_lines.specs.Reading.{are_parted, end_of, first_foreign, follows, is_chan_y, is_earlier, is_feed, is_owners, last_of, line_read, list_before, missing_at, missing_inside, missing_part, owner_fault, reply_line, rises, seen_in_list, unless_fault, with_change, with_id}
unfoldable pub use Rattle.device_lines.specs.Reading.{device_in, last_fault, lines_of, lines_read}
pub use Rattle.device_lines.specs.Words.{is_other, is_space}
unfoldable pub use Rattle.device_lines.specs.Words.{after_text, first_number, number_field, word_field}
pub use Rattle.device_lines.specs.declared.fault.DeviceFault.TheVariants.{OutOfOrder}
pub use Rattle.fpgad_run.proofs.Telling.{answered_runs}
pub use Rattle.fpgad_run.specs.Program.{checked_start}
pub use Rattle.fpgad_run.specs.Run.{IsAnswered, replies_text, sections_after, told_operator}
pub use Rattle.grid.proofs.Numbers.{all_within}
pub use Rattle.grid.specs.PlaceLaws.{IsPlaceIn}
pub use Rattle.grid.specs.Places.{places_of}
pub use Rattle.grid.specs.Sizes.{IsStripSize}
pub use Rattle.grid.specs.declared.Strip.{Strip}
pub use Rattle.grid.specs.declared.place.Place.{Place}
pub use Rattle.implements.specs.LayoutOf.{laid_block}
unfoldable pub use Rattle.implements.specs.LayoutOf.{layout_of}
pub use Rattle.implements.specs.Layouts.{LaidBlock}
pub use Rattle.job_state.specs.Gathered.{on_path, on_tree, on_trees}
pub use Rattle.job_state.specs.Job.{JobState}
pub use Rattle.job_state.specs.JobValue.{end_value, pass_count, placing_at, placing_sources, routing_sources, routing_stands, step_count, value_of}
unfoldable pub use Rattle.job_state.specs.JobValue.{pads_in}
pub use Rattle.job_state.specs.RoutedCircuits.{pad_of, pads_of}
pub use Rattle.job_state.specs.RoutedSet.{held_at_end}
unfoldable pub use Rattle.job_state.specs.RoutedSet.{resources_of}
pub use Rattle.job_state.specs.declared.sources.JobKind.TheVariants.{Placing}
pub use Rattle.job_state.specs.declared.sources.Sources.{Sources}
pub use Rattle.job_state.specs.declared.work.Work.{Work}
pub use Rattle.job_state.specs.declared.work.Work.TheVariants.{Placed}
pub use Rattle.kept_places.specs.Kept.{KeptPlaces}
pub use Rattle.layout_law.proofs.Ends.{placed_end}
pub use Rattle.layout_law.specs.Tenancies.{ImplementsItsText}
pub use Rattle.line_text.specs.Decimal.{decimal_of, is_digit}
pub use Rattle.line_text.specs.Words.{is_blank}
pub use Rattle.operator.proofs.OperatorLemmas.{lengths-admitted, lengths-evicted, lengths-moved}
pub use Rattle.operator.proofs.Stepping.{AreSteady, Steady, lengths-run, steady_asks, steady_held, steady_step, steady_take}
pub use Rattle.operator.specs.OperatorText.{admitted_text, evicted_text, last_id, list_lines, listed_text, moved_text, names_after, outcome_text, outcome_word, refused_text, taken_text}
pub use Rattle.operator.specs.OwnersText.{owned_text, resource_text}
pub use Rattle.operator.specs.Serving.{IsAdmission, IsServed, Tried, tried_calls, tried_text}
pub use Rattle.pathfinder.specs.Negotiation.{Done, GaveUp, More, NoPath, Routed, Standing, Tree}
pub use Rattle.pathfinder.specs.Routings.{routes_by_node}
pub use Rattle.pathfinder.specs.Wiring.{Net}
pub use Rattle.rr_graph.specs.Geometry.{is_block_number, is_block_row, is_node, is_pad_row, is_slot}
pub use Rattle.rr_graph.specs.Graph.{Basis, make_node}
unfoldable pub use Rattle.rr_graph.specs.Graph.{graph_of, nodes_of}
pub use Rattle.rr_graph.specs.Resources.{has, is_there, moved_resource, resource_of, resource_rank}
pub use Rattle.rr_graph.specs.declared.node.Node.{Node}
pub use Rattle.rr_graph.specs.declared.node.NodeKind.{NodeKind}
pub use Rattle.script_text.specs.Replies.{Section, section_text}
pub use Rattle.script_text.specs.Script.{Acts, acts_from, begins_text, form_by, form_of, operator_form, operator_line, session_form, with_act, with_line, without_blanks}
unfoldable pub use Rattle.script_text.specs.Script.{form_in}
pub use Rattle.script_text.specs.declared.operator_line.OperatorLine.{OperatorLine}
pub use Rattle.script_text.specs.declared.operator_line.OperatorLine.TheVariants.{Admit, Evict, Move, Put, Step, Take}
pub use Rattle.service_core.proofs.Booking.{its_width, placed_strip}
pub use Rattle.service_core.proofs.Effects.{Admitted, Effect, Entered, Evicted, Moved, Nothing, Turned, effect, run_device, run_keeps}
pub use Rattle.service_core.proofs.Held.{events_stay}
pub use Rattle.service_core.proofs.Holdings.{has-moved, has_all, moved_left}
pub use Rattle.service_core.proofs.Keeps.{if_live_some, no_strip-next}
pub use Rattle.service_core.proofs.Lists.{All-history_of, All-modified, history_of-past, history_of-zero}
pub use Rattle.service_core.proofs.MovedStrips.{strip_of-moved}
pub use Rattle.service_core.proofs.Moving.{own_stands}
pub use Rattle.service_core.specs.Calls.{IsAdmitted, IsEvicted, IsMoved}
pub use Rattle.service_core.specs.Headline.{AreParted}
pub use Rattle.service_core.specs.History.{with_entry, with_here}
pub use Rattle.service_core.specs.Kept.{IsService}
pub use Rattle.service_core.specs.Names.{op_refusal_number, op_refusal_text}
pub use Rattle.service_core.specs.Owners.{ListsOwnersOf}
pub use Rattle.service_core.specs.Run.{Happens, IsGivenBackTo}
pub use Rattle.service_core.specs.Service.{IsAloneOn, admitted_history, history_of, live_width, placed_width, strip_on}
pub use Rattle.service_core.specs.Tenancy.{closed_history}
pub use Rattle.service_core.specs.declared.op_refusal.OpRefusal.{OpRefusal}
pub use Rattle.sessions.proofs.StepLemmas.{Run-append}
pub use Rattle.sessions.specs.Fitting.{own_graph}
pub use Rattle.sessions.specs.Items.{ends_text, without_cr}
pub use Rattle.sessions.specs.SessionText.{blank_word}
pub use Rattle.sessions.specs.Steps.{MakesStep}
pub use Rattle.sessions.specs.declared.line.LineForm.{LineForm}
pub use Rattle.sessions.specs.declared.steps.StepOutcome.{StepOutcome}
pub use Rattle.strip_place.specs.Anneal.{PlacingUnderWay, is_past_last, places_by_block}
pub use Rattle.strips.proofs.Laid.{IsParted-with-inside, apart_of, strip_of-push, strip_of-without}
pub use Rattle.strips.specs.Plan.{IsParted, Plan, moved_strip, strips_without, with_moved}
pub use Rattle.tenant_slot.specs.RoutedSet.{held_in}
unfoldable pub use Rattle.tenant_slot.specs.RoutedSet.{routed_set}
pub use Rattle.tenant_slot.specs.SingleUser.{State, run}
pub use Rattle.tenant_slot.specs.declared.event.Event.{Event}
pub use Rattle.tenant_slot.specs.declared.reply.StateName.{StateName}
pub use Rattle.tenant_slot.specs.declared.reply.StateName.TheVariants.{Empty, Loaded, Packed, Packing, Routing, Unrouted}
pub use Rattle.vpr_files.specs.NodeText.{number_word, position_text}
unfoldable pub use Rattle.vpr_files.specs.NodeText.{node_text_of}
