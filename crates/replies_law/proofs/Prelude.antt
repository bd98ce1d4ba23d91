-- The names that this crate's proofs use, but for its own lemmas.
pub use Rattle.std.proofs.Common.{Bool, Err, List, None, Ok, Option, Result, Some, [], ap, append-nil, append_assoc, arith, codes, cond, decimal, drop, eqb, false, fold, get_or, inl, inr, length, length-append, map, not, refl, subst, suc, sym, take, true, zero, ℕ, ◌%◌, ◌++◌, ◌+◌, ◌-◌, ◌/◌, ◌<◌, ◌^◌, ◌||◌, ◌∙◌, ◌∷◌, ◌≡◌, ◌≢◌, ◌≤◌, ◌⊎◌}
pub use Rattle.std.proofs.Math.Seq.{drop-append_seam, take-append_seam, take-length}
pub use Rattle.std.proofs.lemmas.Bool.{and_from, and_parts, cases_lt, eqb-true, false≢true, leb-true}
pub use Rattle.std.proofs.lemmas.Bool.Decides.{Decides-eqb, nat_tests}
pub use Rattle.std.proofs.lemmas.Fmt.{decimal_by_steps, decimal_nonempty}
pub use Rattle.std.proofs.lemmas.List.{take_more}
pub use Rattle.std.proofs.lemmas.List.Elements.{All-head, All-tail}
pub use Rattle.std.proofs.lemmas.List.Folds.{list_all-append}
pub use Rattle.std.proofs.lemmas.List.Sums.{fold-append}
pub use Rattle.std.proofs.lemmas.Slice.Eq.{bytes_eq-Decides}
pub use Rattle.std.specs.Fmt.{digit_glyph, digits_onto}
unfoldable pub use Rattle.std.specs.Fmt.{digits}
pub use Rattle.std.specs.List.{after_first, before_first, enumerate_from, filter_map, flat_map, list_all, onto_first, position_or_len, slice_split}
pub use Rattle.std.specs.Option.{option_map_or}
pub use Rattle.std.specs.Prelude.{All, AllPairs, Contains, IfSome, IsSome, IsSomeAnd, filter, is_some, nat_le, nat_lt, option_and_then, option_map, slice_get, unwrap_or, ⊤, ◌&&◌}
pub use Rattle.std.specs.Result.{result_flatten, result_map_both}
pub use Rattle.std.specs.Str.{bytes_eq}
pub use Rattle.std.specs.declared.alloc.AllocError.{AllocError}
pub use Rattle.arch_file.specs.declared.arch.Arch.{Arch}
pub use Rattle.arch_file.specs.declared.fault.ArchFault.{ArchFault}
pub use Rattle.blif.specs.BlifFaults.{WordFault, at_words, driven_nets, driver_faults, fault_where, faults_in, kind_faults, of_line, row_faults, table_faults}
pub use Rattle.blif.specs.CircuitOf.{at_line}
unfoldable pub use Rattle.blif.specs.CircuitOf.{circuit_of, circuit_of_lines, final_faults, line_faults, undriven_faults}
unfoldable pub use Rattle.blif.specs.Circuits.{circuit_from}
pub use Rattle.blif.specs.Faults.{fault_of_lines}
pub use Rattle.blif.specs.Keywords.{args_of, last_of}
pub use Rattle.blif.specs.LatchLines.{is_latch}
pub use Rattle.blif.specs.LineNets.{latch_output, names_in, output_of, reads_in}
pub use Rattle.blif.specs.Names.{has_name, names_with_index, repeats_from, with_name, with_names}
pub use Rattle.blif.specs.Sights.{Sights, kind_of, names_of}
unfoldable pub use Rattle.blif.specs.Sights.{sights_of}
pub use Rattle.blif.specs.declared.cover.Cover.{Cover}
pub use Rattle.blif.specs.declared.fault.BlifFaultKind.{BlifFaultKind}
pub use Rattle.blif.specs.declared.fault.BlifFaultKind.TheVariants.{BadLatch, RepeatedOutput, TwoDrivers, Undriven, Unknown}
pub use Rattle.blif.specs.declared.keyword.Keyword.{Keyword}
pub use Rattle.blif.specs.declared.keyword.Keyword.TheVariants.{Clock, End, Inputs, Latch, Model, Names, Other, Outputs, Row, Skipped}
unfoldable pub use Rattle.cluster.specs.Clusters.{packed_of}
pub use Rattle.device_book.specs.declared.book.Owned.{Owned}
pub use Rattle.fpgad_run.proofs.Telling.{answered_runs}
pub use Rattle.fpgad_run.specs.Program.{checked_start, device_of}
pub use Rattle.fpgad_run.specs.Run.{IsAnswered, Tells, replies_text, sections_after, told_operator, told_session, with_text}
pub use Rattle.job_state.specs.Job.{JobState}
pub use Rattle.job_state.specs.declared.step.JobStep.{JobStep}
pub use Rattle.line_text.proofs.InOrder.{earlier_by}
pub use Rattle.line_text.proofs.NameLemmas.{with_name-first, with_name-later}
pub use Rattle.line_text.specs.Decimal.{decimal_of, is_digit, value_of}
pub use Rattle.line_text.specs.LeastFault.{Found, least_by, precedes}
pub use Rattle.line_text.specs.Lines.{JoinedLine, fault_of, joined_bytes, joined_line, joined_part, physical_lines, runs}
unfoldable pub use Rattle.line_text.specs.Lines.{lines_of}
pub use Rattle.line_text.specs.Words.{is_blank, is_filled}
pub use Rattle.line_text.specs.declared.fault.LineFault.{LineFault}
pub use Rattle.operator.proofs.OperatorLemmas.{lengths-admitted, lengths-evicted, lengths-moved}
pub use Rattle.operator.proofs.Stepping.{AreSteady, Steady, lengths-run, steady_asks, steady_step}
pub use Rattle.operator.specs.HeldJobs.{HeldList, Holds, PutsHeld, job_at, with_job, without_job}
pub use Rattle.operator.specs.OperatorText.{admitted_text, evicted_text, last_id, list_text, listed_text, moved_text, names_after, taken_text}
pub use Rattle.operator.specs.OwnersText.{owned_text, owners_text, resource_text}
pub use Rattle.operator.specs.Serving.{HasOwnGraph, IsAdmission, IsServed, Stage, Tried, tried_calls, tried_text}
pub use Rattle.printed_replies.proofs.PrintLemmas.{read_back}
pub use Rattle.printed_replies.specs.Lengths.{kind_and_length, line_length, line_of, lines_length, number_within, owners_length, session_length, told_bytes, told_file, told_owners}
pub use Rattle.printed_replies.specs.Printing.{HasReply, HaveReplies, IsReply, asked_in, printed_for, section_of}
pub use Rattle.printed_replies.specs.Replies.{AskedLine, Speaker, heading, live_after, with_speaker}
pub use Rattle.printed_replies.specs.declared.asked.ReplyForm.{ReplyForm}
pub use Rattle.printed_replies.specs.declared.asked.ReplyForm.TheVariants.{Admission, Eviction}
pub use Rattle.replies_law.specs.Alone.{AreGranted, AreLeft, IsAlone, IsGranted, IsLeft, IsTheSame, Plays, admissions, answers_in, fits, grants, is_about, is_admit, is_admitted, is_own, own_acts, own_answer, own_answers, own_tellings, section_in}
pub use Rattle.replies_law.specs.Memory.{HaveMemory, RanOut}
pub use Rattle.replies_law.specs.OneOutput.{HasOneOutput}
pub use Rattle.replies_law.specs.Prelude.{Act, AnsweredLine, Architecture, BlifFault, Circuit, Evict, IsReplies, NoMemory, Operator, OperatorLine, Options, Put, Session, Step, Take, Telling, after_prefix, asked_of, is_line_feed, net_of, outcome_text, refused_text, replies_in, start_of, told_to, with_reply}
pub use Rattle.replies_law.specs.ReadBack.{AreTellable, HasName, IsOutputReadBack, NetsAreWords, NoFeed, answered_line, is_other}
pub use Rattle.rr_graph.specs.Resources.{IsEarlier, resource_rank}
pub use Rattle.rr_graph.specs.declared.node.Node.{Node}
pub use Rattle.rr_graph.specs.declared.node.NodeKind.{NodeKind}
pub use Rattle.rr_graph.specs.declared.resource.Resource.{Resource}
pub use Rattle.rr_graph.specs.declared.resource.ResourceKind.{ResourceKind}
pub use Rattle.script_replies.specs.Asking.{operator_form, session_form}
pub use Rattle.script_text.specs.Replies.{Section, section_text}
pub use Rattle.script_text.specs.Script.{Acts, acts_from, begins_text, form_by, form_of, is_name, is_name_byte, operator_line, with_act, with_line, without_blanks}
unfoldable pub use Rattle.script_text.specs.Script.{form_in}
pub use Rattle.script_text.specs.declared.operator_line.OperatorLine.TheVariants.{Move, Owners}
pub use Rattle.service_core.proofs.Effects.{Kept, run_device, run_keeps}
pub use Rattle.service_core.proofs.Histories.{state_after-push}
pub use Rattle.service_core.proofs.Keeps.{IsService-empty, if_live_some}
pub use Rattle.service_core.proofs.Lists.{All-history_of, history_of-modified, history_of-push, history_of-zero}
pub use Rattle.service_core.proofs.MovedStrips.{same_histories}
pub use Rattle.service_core.proofs.Parted.{are_parted}
pub use Rattle.service_core.specs.Calls.{IsAdmitted, IsEvicted, IsMoved, IsPut, IsTaken}
pub use Rattle.service_core.specs.History.{History, slot_of, state_of, with_entry, with_here}
pub use Rattle.service_core.specs.Names.{op_refusal_number, op_refusal_text}
pub use Rattle.service_core.specs.Owners.{ListsOwnersOf}
pub use Rattle.service_core.specs.Receipt.{Receipted}
pub use Rattle.service_core.specs.Run.{Call, CanAdmit, Happens, IsGivenBackTo, IsReceipt, IsStepOf, RefusesAdmission, Run}
pub use Rattle.service_core.specs.Run.Call.{Admit, GiveBack, Tenant}
pub use Rattle.service_core.specs.Service.{IsAloneOn, ServiceState, admitted_history, empty_service, history_of, live_of, placed_width, strip_on, with_change, with_changed}
pub use Rattle.service_core.specs.Tenancy.{if_live}
pub use Rattle.service_core.specs.declared.device.Device.{Device}
pub use Rattle.service_core.specs.declared.entry.Entry.{Entry}
pub use Rattle.service_core.specs.declared.not_served.NotServed.{NotServed}
pub use Rattle.service_core.specs.declared.not_served.NotServed.TheVariants.{JournalFull, NoSuchTenancy}
pub use Rattle.service_core.specs.declared.op_refusal.OpRefusal.{OpRefusal}
pub use Rattle.service_core.specs.declared.put_reply.PutReply.{PutReply}
pub use Rattle.sessions.proofs.Counted.{live_of-changed}
pub use Rattle.sessions.proofs.EndToEndLemmas.{split}
pub use Rattle.sessions.proofs.StepLemmas.{Run-append}
pub use Rattle.sessions.specs.EndToEnd.{told_text}
pub use Rattle.sessions.specs.Fitting.{own_graph}
pub use Rattle.sessions.specs.Items.{ends_text, without_cr}
pub use Rattle.sessions.specs.SessionAnswer.{Asks, AsksCommand, EndsWait, GivesNoneBack, LeavesNone}
pub use Rattle.sessions.specs.SessionText.{answer_text, ending_text, numbered_line, reply_text, session_refusal_text, unserved_text}
pub use Rattle.sessions.specs.Steps.{EndsSteps, IsOnePut, MadeStep, MakesStep, StepsAndPuts}
pub use Rattle.sessions.specs.declared.line.LineForm.{LineForm}
pub use Rattle.sessions.specs.declared.line.SessionLine.{SessionLine}
pub use Rattle.sessions.specs.declared.line.SessionLine.TheVariants.{Blank, Refused, Wait}
pub use Rattle.sessions.specs.declared.refusal.SessionRefusal.{SessionRefusal}
pub use Rattle.sessions.specs.declared.refusal.SessionRefusal.TheVariants.{BadNumber, Evicted, UnfinishedUpload, UnknownCommand}
pub use Rattle.sessions.specs.declared.steps.StepOutcome.{StepOutcome}
pub use Rattle.sessions.specs.declared.steps.StepOutcome.TheVariants.{Full, Gone, Nothing, Recorded, Unfit}
pub use Rattle.sessions.specs.declared.told.Answer.{Answer}
pub use Rattle.sessions.specs.declared.told.Answer.TheVariants.{Served}
pub use Rattle.strips.specs.Plan.{FitsAt, IsFirstFit, Plan, is_bad_width, offset_of}
pub use Rattle.strips.specs.declared.placed_strip.PlacedStrip.{PlacedStrip}
pub use Rattle.tenant_slot.proofs.Runs.{step-served}
pub use Rattle.tenant_slot.specs.Results.{ending_told}
pub use Rattle.tenant_slot.specs.SingleUser.{State, after_reply, answer_to, circuit_in, is_lawful, pack_unless, place_unless, serve, start, step, with_circuit}
pub use Rattle.tenant_slot.specs.Slot.{SlotState, after_event, is_takeable, next_job, running_sources}
pub use Rattle.tenant_slot.specs.declared.command.Command.{Command}
pub use Rattle.tenant_slot.specs.declared.command.Command.TheVariants.{Cancel, Change, Net, Pack, Place, PlaceFile, Route, RouteFile, Status, Upload, Withdraw}
pub use Rattle.tenant_slot.specs.declared.event.Event.{Event}
pub use Rattle.tenant_slot.specs.declared.event.Event.TheVariants.{Advance}
pub use Rattle.tenant_slot.specs.declared.failure.RoutingFailure.{RoutingFailure}
pub use Rattle.tenant_slot.specs.declared.reply.FileKind.{FileKind}
pub use Rattle.tenant_slot.specs.declared.reply.Misfit.{Misfit}
pub use Rattle.tenant_slot.specs.declared.reply.Refusal.TheVariants.{BadBlif, BadEffort, WrongState}
pub use Rattle.tenant_slot.specs.declared.reply.Reply.{Reply}
pub use Rattle.tenant_slot.specs.declared.reply.Reply.TheVariants.{Accepted, File}
pub use Rattle.tenant_slot.specs.declared.reply.StepReply.{StepReply}
pub use Rattle.vpr_files.specs.NodeText.{kind_word}
unfoldable pub use Rattle.vpr_files.specs.NodeText.{node_text_of}
