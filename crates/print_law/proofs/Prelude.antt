-- The names that this crate's proofs use, but for its own lemmas.
pub use Rattle.std.proofs.Common.{Bool, Err, List, None, Ok, Option, Result, Some, [], ap, append_assoc, arith, cond, drop, false, filter, fold, get_or, if◌then◌else◌, inl, inr, leb, length, map, nat_le, nat_lt, not, refl, subst, suc, sym, take, true, zero, ℕ, ◌&&◌, ◌++◌, ◌+◌, ◌-◌, ◌<◌, ◌==◌, ◌^◌, ◌||◌, ◌∙◌, ◌∷◌, ◌≡◌, ◌≤◌, ◌⊎◌}
pub use Rattle.std.proofs.lemmas.Bool.{cases_lt, leb-true}
pub use Rattle.std.proofs.lemmas.Bool.Decides.{nat_tests}
pub use Rattle.std.proofs.lemmas.List.{get_or_default, get_or_past, length-map, take_all}
pub use Rattle.std.proofs.lemmas.List.Elements.{All-append, All-cons, All-contains, All-drop, All-filter, All-head, All-map, All-nil, All-tail, All-take, All-weaker}
pub use Rattle.std.proofs.lemmas.List.FromFn.{length-enumerate_from}
pub use Rattle.std.proofs.lemmas.List.Quantifiers.{position-Some}
pub use Rattle.std.proofs.lemmas.List.Sums.{list_all-from_AllPass, sum_by-cons}
pub use Rattle.std.proofs.lemmas.Option.{slice_get_within}
pub use Rattle.std.proofs.lemmas.Slice.Zip.{length-zip}
pub use Rattle.std.specs.List.{concat, enumerate_from, filter_map, flat_map, onto_first, position_or_len, range_with_len, reduce, slice_index_or, slice_split, zip}
pub use Rattle.std.specs.Option.{ForSome, option_map_or, option_to_list}
pub use Rattle.std.specs.Ordering.{min_by_ordering}
pub use Rattle.std.specs.Prelude.{All, Contains, codes, count_by, option_and_then, option_map, slice_get, ⊤}
pub use Rattle.std.specs.Result.{result_flatten, result_map_both}
pub use Rattle.std.specs.Str.{bytes_eq}
pub use Rattle.std.specs.declared.cmp.Ordering.{Ordering}
pub use Rattle.std.specs.declared.cmp.Ordering.TheVariants.{Equal, Greater, Less}
pub use Rattle.arch_file.specs.Arch.{IsArch, arch_of_lines}
unfoldable pub use Rattle.arch_file.specs.Arch.{arch_of}
pub use Rattle.arch_file.specs.declared.arch.Arch.{Arch}
pub use Rattle.arch_file.specs.declared.arch.Pin.{Pin}
pub use Rattle.arch_file.specs.declared.arch.PinClass.{PinClass}
pub use Rattle.arch_file.specs.declared.arch.PinClass.TheVariants.{Clock, Input, Output}
pub use Rattle.arch_file.specs.declared.arch.TheConstants.{MAX_PINS}
pub use Rattle.ble_cluster.specs.Bles.{LogicElement, bles_of, element_at, element_of_latch, element_of_table, latch_after, stands_alone}
pub use Rattle.ble_cluster.specs.Clusters.{clocks_of, outputs_of, outside_inputs}
pub use Rattle.ble_cluster.specs.Nets.{distinct_nets, has, with_nets}
pub use Rattle.blif.proofs.AllTexts.{text_lawful}
pub use Rattle.blif.specs.CircuitOf.{IsLawfulFor, all_faults, declared_in}
unfoldable pub use Rattle.blif.specs.CircuitOf.{circuit_of, circuit_of_lines}
pub use Rattle.blif.specs.Circuits.{model_of}
unfoldable pub use Rattle.blif.specs.Circuits.{circuit_from}
pub use Rattle.blif.specs.Faults.{fault_of_lines}
pub use Rattle.blif.specs.Keywords.{args_of}
pub use Rattle.blif.specs.LatchLines.{control_of, is_latch}
pub use Rattle.blif.specs.LawfulCircuits.{IsCircuit, IsLatchWithin, IsTableWithin}
pub use Rattle.blif.specs.LineNets.{latch_nets, names_in}
pub use Rattle.blif.specs.LookupTables.{LookupTable}
pub use Rattle.blif.specs.Sights.{kind_of, names_of}
unfoldable pub use Rattle.blif.specs.Sights.{sights_of}
pub use Rattle.blif.specs.declared.circuit.Circuit.{Circuit}
pub use Rattle.blif.specs.declared.fault.BlifFault.{BlifFault}
pub use Rattle.blif.specs.declared.fault.BlifFaultKind.TheVariants.{OverLimit}
pub use Rattle.blif.specs.declared.keyword.Keyword.{Keyword}
pub use Rattle.blif.specs.declared.keyword.Keyword.TheVariants.{End, Inputs, Latch, Model, Names, Other, Outputs, Row, Skipped}
pub use Rattle.block_places.specs.Placed.{place_of}
pub use Rattle.cluster.specs.Blocks.{BlockNet, block_nets, blocks_of, elements_in, is_same_class, leaves_block, net_on_pin, pins_of}
pub use Rattle.cluster.specs.ClusterPins.{IsElementWithin}
pub use Rattle.cluster.specs.Clusters.{PackedCircuit, packed_of}
pub use Rattle.cluster.specs.LawfulPackings.{IsPacked}
pub use Rattle.cluster.specs.PackingLaws.{IsBlockNet, IsLawfulPacking}
pub use Rattle.cluster.specs.declared.block.Block.{Block}
pub use Rattle.cluster.specs.declared.block.Block.TheVariants.{Cluster, InputPad, OutputPad}
pub use Rattle.desk_common.specs.Outputs.{IsBeginning}
pub use Rattle.desk_common.specs.declared.outcome.Outcome.{Outcome}
pub use Rattle.desk_layouts.specs.Checked.{texts_with}
pub use Rattle.desk_layouts.specs.Refused.{AreReadAndRefused}
pub use Rattle.desk_layouts.specs.declared.layout_input.LayoutPaths.{LayoutPaths}
pub use Rattle.grid.specs.PlaceLaws.{IsInRow, IsPlaceIn}
pub use Rattle.grid.specs.Places.{places_of}
pub use Rattle.grid.specs.Sizes.{IsStripSize}
pub use Rattle.grid.specs.declared.Strip.{Strip}
pub use Rattle.grid.specs.declared.place.Kind.{Kind}
pub use Rattle.grid.specs.declared.place.Kind.TheVariants.{Logic, Pad}
pub use Rattle.grid.specs.declared.place.Place.{Place}
pub use Rattle.implements.proofs.BleKinds.{behind_is}
pub use Rattle.implements.proofs.BleMembers.{from_bles}
pub use Rattle.implements.proofs.Members.{all_members, from_append, from_filter, from_flat_map, from_get, from_map, in_cases, in_first, in_later, in_none, only_one}
pub use Rattle.implements.proofs.Ports.{block_is, laid_at, numbered, place_is}
pub use Rattle.implements.specs.Implements.{Implements, IsNarrowBle}
pub use Rattle.implements.specs.LayoutOf.{feed_of, laid_ble, laid_block, laid_net}
unfoldable pub use Rattle.implements.specs.LayoutOf.{layout_of}
pub use Rattle.implements.specs.Layouts.{LaidBlock, LaidNet, Layout}
pub use Rattle.implements.specs.declared.feed.Feed.{Feed}
pub use Rattle.implements.specs.declared.feed.Feed.TheVariants.{Ble}
pub use Rattle.job_state.specs.JobValue.{end_value, pass_count, placing_at, placing_sources, routing_sources, step_count}
unfoldable pub use Rattle.job_state.specs.JobValue.{nets_in}
pub use Rattle.job_state.specs.declared.sources.JobKind.TheVariants.{Routing}
pub use Rattle.job_state.specs.declared.work.Work.{Work}
pub use Rattle.job_state.specs.declared.work.Work.TheVariants.{Placed}
pub use Rattle.kept_places.specs.Kept.{KeptPlaces}
pub use Rattle.layout_files.specs.Cursors.{IsPlain, is_word_end}
pub use Rattle.layout_files.specs.Fitting.{AreNumbered, FitsBle, FitsBlock, FitsFiles, FitsNet, FitsPad, HasNumber, IsSmallNode, IsSmallPlace, feed_number, is_cluster}
pub use Rattle.layout_files.specs.LayoutFiles.{EndsAtSink, HasPrintedForm, HasWholePaths, IsBare, is_sink_kind}
pub use Rattle.layout_law.proofs.Ends.{HasRoutes, placed_end, routed_end}
pub use Rattle.layout_law.proofs.Laws.{Laws}
pub use Rattle.layout_law.proofs.Routed.{connected, implemented, packed_arch, packed_circuit}
pub use Rattle.layout_law.proofs.States.{Has, HasNotFailed, IsPlaceable, always_sound, lawful_packed, places_lawful}
pub use Rattle.layout_law.specs.Tenancies.{ImplementsItsText}
pub use Rattle.layout_text.specs.LayoutText.{net_text, place_text, route_text}
pub use Rattle.layout_verdict.specs.Texts.{IsReadFrom, Texts}
pub use Rattle.layout_verdict.specs.Verdicts.{CanBeFiled, IsImplemented, IsVerdict}
pub use Rattle.layout_verdict.specs.declared.laid_circuit.LaidCircuit.{LaidCircuit}
pub use Rattle.layout_verdict.specs.declared.verdict.Verdict.{Verdict}
pub use Rattle.layout_verdict.specs.declared.verdict.Verdict.TheVariants.{ArchRefused, Differs, FilesRefused, NetlistRefused, NoMemory}
pub use Rattle.least_path.specs.Graph.{Graph}
pub use Rattle.least_path.specs.LeastPath.{ways}
unfoldable pub use Rattle.least_path.specs.LeastPath.{least_path, short_paths}
pub use Rattle.least_path.specs.Path.{path_cmp}
pub use Rattle.line_text.specs.LeastFault.{least_fault}
pub use Rattle.line_text.specs.Lines.{JoinedLine, fault_of, is_continued, joined_bytes, joined_line, joined_part, physical_lines, runs, trim_end, without_comment, without_last}
unfoldable pub use Rattle.line_text.specs.Lines.{lines_of}
pub use Rattle.line_text.specs.Names.{has_name, with_names}
pub use Rattle.line_text.specs.Words.{is_blank, is_filled, words_of}
pub use Rattle.line_text.specs.declared.fault.LineFault.{LineFault}
pub use Rattle.line_text.specs.declared.lines.TheConstants.{MAX_TEXT}
pub use Rattle.pathfinder.proofs.Found.{any_from}
pub use Rattle.pathfinder.proofs.Iterations.{paths_within}
pub use Rattle.pathfinder.proofs.PlacedTerminals.{are_nets}
pub use Rattle.pathfinder.proofs.Rounds.{HoldsWithin, done_sound}
pub use Rattle.pathfinder.specs.Growth.{LeastPathLaws}
pub use Rattle.pathfinder.specs.Negotiation.{Done, GaveUp, More, NoPath, Standing, Tree, accumulated_overuse, grown_tree, is_feasible, next_routing, priced_graph, rerouted_trees, routing_with_trees, starts_of}
unfoldable pub use Rattle.pathfinder.specs.Negotiation.{routed_after}
pub use Rattle.pathfinder.specs.PlacedNets.{nets_to_route, wiring_of}
pub use Rattle.pathfinder.specs.Routings.{routes_by_node}
pub use Rattle.pathfinder.specs.Wiring.{IsNet, IsWiring, Wiring}
pub use Rattle.pathfinder.specs.declared.routing.TheConstants.{MAX_ITERATIONS}
pub use Rattle.print_law.specs.Prints.{AreTextsOf, HasFiledLayout, HasPlainNames, IsAccepted, IsAnswered, NamesNoOpen}
pub use Rattle.print_law.specs.Tools.{HasFilesAt}
pub use Rattle.rr_graph.specs.Geometry.{is_block_number, is_block_row, is_chan_y, is_node, is_pad_row, is_slot}
pub use Rattle.rr_graph.specs.Graph.{Basis, IsBasis, IsRoutingGraph, graph_of}
pub use Rattle.rr_graph.specs.declared.node.Node.{Node}
pub use Rattle.rr_graph.specs.declared.node.NodeKind.{NodeKind}
pub use Rattle.rr_graph.specs.declared.node.NodeKind.TheVariants.{ChanX, ChanY, Ipin, Opin, Sink, Source}
pub use Rattle.strip_place.specs.Anneal.{PlacingUnderWay, places_by_block}
pub use Rattle.strip_place.specs.Keeping.{AreKeptOn}
pub use Rattle.tenant_slot.specs.Results.{place_file_of, route_file_of}
pub use Rattle.tenant_slot.specs.SingleUser.{State, answer_to, is_lawful, run, serve, sources_of, with_circuit}
pub use Rattle.tenant_slot.specs.declared.command.Command.{Command}
pub use Rattle.tenant_slot.specs.declared.command.Command.TheVariants.{PlaceFile, RouteFile}
pub use Rattle.tenant_slot.specs.declared.event.Event.{Event}
pub use Rattle.tenant_slot.specs.declared.reply.FileKind.{FileKind}
pub use Rattle.tenant_slot.specs.declared.reply.FileKind.TheVariants.{Net, Route}
pub use Rattle.tenant_slot.specs.declared.reply.Refusal.TheVariants.{WrongState}
pub use Rattle.tenant_slot.specs.declared.reply.Reply.{Reply}
pub use Rattle.tenant_slot.specs.declared.reply.Reply.TheVariants.{File, Refused}
pub use Rattle.tenant_slot.specs.declared.reply.StateName.{StateName}
pub use Rattle.tenant_slot.specs.declared.reply.StateName.TheVariants.{Routed}
pub use Rattle.vpr_files.specs.NetFile.{driver_place, net_text_of, pin_with}
pub use Rattle.vpr_files.specs.PlaceFile.{place_text_of}
pub use Rattle.vpr_files.specs.RouteFile.{route_text_of}
