-- The names that this crate's proofs use, but for its own lemmas.
pub use Rattle.std.proofs.Common.{Bool, Err, IfOk, List, None, Ok, Option, Result, Some, [], ap, append-nil, append_assoc, arith, codes, cond, decimal, drop, eqb, false, get_or, inl, inr, is_some, length, length-append, lit<, map, nat_le, not, refl, rules, subst, suc, sym, take, true, zero, ℕ, ◌&&◌, ◌++◌, ◌+◌, ◌-◌, ◌<◌, ◌∙◌, ◌∷◌, ◌≡◌, ◌≢◌, ◌≤◌}
pub use Rattle.std.proofs.Math.ListN.{set}
pub use Rattle.std.proofs.lemmas.Bool.{eqb-true, false≢true}
pub use Rattle.std.proofs.lemmas.Bool.Decides.{nat_tests}
pub use Rattle.std.proofs.lemmas.Fmt.{decimal_digit}
pub use Rattle.std.proofs.lemmas.Grind.{flat_map-append}
pub use Rattle.std.proofs.lemmas.List.{length-map, map-append, take_all}
pub use Rattle.std.proofs.lemmas.List.Elements.{All-cons, All-head, All-map, All-nil, All-same, All-tail, recursion_from_All}
pub use Rattle.std.proofs.lemmas.List.Folds.{flat_map-map}
pub use Rattle.std.proofs.lemmas.List.Sums.{split_at_first}
pub use Rattle.std.proofs.lemmas.Option.{slice_get-get_or, slice_get_past}
pub use Rattle.std.proofs.lemmas.Result.{IfOk-weaker, on_ok_weaker}
pub use Rattle.std.proofs.lemmas.Slice.Eq.{bytes_eq-Decides}
pub use Rattle.std.specs.Bool.{beq}
pub use Rattle.std.specs.List.{AllByRecursion, after_first, before_first, filter, flat_map, items_where_true, list_all, position, position_or_len, repeat}
pub use Rattle.std.specs.List.Retain.{IsFiltered, ReturnsInTurn}
pub use Rattle.std.specs.Option.{option_map_or}
pub use Rattle.std.specs.Prelude.{All, IfSome, IsSome, IsSomeAnd, OnOk, nat_lt, option_and_then, option_copied, option_map, replicate, slice_get, ⊤, ◌↔◌, ◌⊎◌}
pub use Rattle.std.specs.Str.{bytes_eq}
pub use Rattle.std.specs.declared.alloc.AllocError.{AllocError}
pub use Rattle.device_book.specs.declared.book.Owned.{Owned}
pub use Rattle.job_state.specs.declared.sources.JobKind.{JobKind}
unfoldable pub use Rattle.line_feed.specs.Pieces.{kept_of}
pub use Rattle.line_service.proofs.LineLemmas.{both_lines}
pub use Rattle.live_lines.proofs.LawLemmas.{items_with, named, named_of, not_10, not_of, of_name_tag, says}
pub use Rattle.live_lines.specs.Acts.{IsAnswered, Telling}
pub use Rattle.live_lines.specs.Figures.{AreFigures, IsRow}
pub use Rattle.live_lines.specs.Laws.{items_for}
pub use Rattle.live_lines.specs.Live.{TakesAsked, TellsItem, asked_by, asks, with_service}
pub use Rattle.live_lines.specs.Live.Asked.{Echoes, Figures, Nothing}
pub use Rattle.live_lines.specs.declared.live.Live.{Live}
pub use Rattle.live_machine.specs.Account.{AreItems, AreWaiting, IsAccount, IsSaid, IsText, is_nobodys, line_in, lines_in, log_drained, nobodys_line, nobodys_lines, told_drained}
pub use Rattle.live_machine.specs.Fed.{IsFed}
pub use Rattle.live_machine.specs.Held.{AreSaid, HearsForm, HearsHeld, HearsIn, HearsOf, Held, HeldItem, IsSaidBy, IsSaidItem, IsSaidText, PutsItem, TakesFirst, TakesLostItems, TakesLostOf, TakesOf, begins_with_wait, calls_off, form_of, has_items, held_of, is_lost_text, is_wait, is_wait_item, text_of, with_held, without_name}
pub use Rattle.live_machine.specs.Machine.{EndsHold, Frees, FreesIf, GivesUp, HearsAfter, HearsAsked, HearsFree, HearsName, Holds, IsFree, IsLine, IsMade, IsStatusFor, MachineState, Serves, ServesAll, ServesFirst, ServesItem, ServesItems, ServesNobodys, ServesSaid, TellsLost, WaitsAfter, Works, begins_with, is_busy, is_by_hand, is_outside, must_wait}
pub use Rattle.live_machine.specs.Machine.Call.{Drain, GiveUp, Line, PutStep, ServeHeld}
pub use Rattle.live_machine.specs.Parts.{AreServed, Counts, EndsPut, EndsStep, FreesDone, FreesHeld, HasTurn, HasTurns, HearsHolding, IsTurnOf, PutsIf, PutsStep, ServesNext, ServesOne, ServesSome, TellsLostItems, has_wait, items_in, lost_texts, machine_of, state_with}
pub use Rattle.live_machine.specs.Prelude.{AnswersLine, AreAlone, AreAnswered, Asked, Asks, Begins, Blank, Command, Evict, GiveBack, Happens, History, IsGivenBack, Item, JobState, JobStep, LineForm, LiveState, MAX_ENTRIES, NoForm, NoMemory, Operates, Put, Says, ServiceState, Step, Take, TextSoFar, Wait, asked_of, ends_text, for_name, is_name, is_one_line, is_ready, items_to_come, kind_that_runs, last_id, line_form, live_of, name_of, next_job, no_memory_text, operator_told, outcome_text, output_of, physical_lines, rest_of, said_by, slot_of, state_in, state_of, tag_of, takeable_in, with_feed, with_here, without_cr}
pub use Rattle.live_machine.specs.Turn.{IsDay, IsNobodysLine, IsServedAs, IsServedTurn, Turn, heard_in, heard_lines, log_of, replies_of, served_in, served_lines, told_in, told_of}
pub use Rattle.live_machine.specs.Turn.Turn.{Answers, Loses}
pub use Rattle.live_machine.specs.Workers.{IsHome, IsLeftAlone, NeedNotWait, all_here, nomemory_reply, runs_in, without_workers}
pub use Rattle.live_machine.specs.declared.held.OpenText.{OpenText}
pub use Rattle.live_machine.specs.declared.held.OpenText.TheVariants.{Begun, Lost, NoText}
pub use Rattle.live_machine.specs.declared.machine.Machine.{Machine}
pub use Rattle.live_machine.specs.declared.machine.steps.StepEnd.{StepEnd}
pub use Rattle.live_machine.specs.declared.machine.steps.StepEnd.TheVariants.{Dropped}
pub use Rattle.live_machine.specs.declared.server.LineServer.{LineServer}
pub use Rattle.live_machine.specs.declared.stop.Stop.{Stop}
pub use Rattle.operator.specs.HeldJobs.{PutsHeld, job_at}
pub use Rattle.operator.specs.OperatorText.{list_text, listed_text, names_after}
pub use Rattle.operator.specs.Serving.{IsAdmission, IsServed, Stage}
pub use Rattle.rr_graph.specs.Resources.{has, moved_resource}
pub use Rattle.rr_graph.specs.declared.resource.Resource.{Resource}
pub use Rattle.script_text.specs.Script.{is_name_byte}
pub use Rattle.script_text.specs.declared.act.Act.{Act}
pub use Rattle.script_text.specs.declared.act.Act.TheVariants.{Operator, Session}
pub use Rattle.script_text.specs.declared.operator_line.OperatorLine.{OperatorLine}
pub use Rattle.script_text.specs.declared.operator_line.OperatorLine.TheVariants.{Admit, Move, Owners}
pub use Rattle.service_core.proofs.Keeps.{if_live_some}
pub use Rattle.service_core.specs.History.{with_entry}
pub use Rattle.service_core.specs.Owners.{IsOwner, ListsOwnersOf}
pub use Rattle.service_core.specs.Run.{Call, CanAdmit, IsGivenBackTo, IsStepOf, RefusesAdmission, Run, step_entry}
pub use Rattle.service_core.specs.Run.Call.{Tenant}
pub use Rattle.service_core.specs.Service.{IsAloneOn, entries_in, history_of, with_change, with_changed, with_tenancy, without_tenancy}
pub use Rattle.service_core.specs.declared.device.Device.{Device}
pub use Rattle.service_core.specs.declared.entry.Entry.{Entry}
pub use Rattle.service_core.specs.declared.not_served.NotServed.TheVariants.{JournalFull, NoSuchTenancy}
pub use Rattle.service_core.specs.declared.op_refusal.OpRefusal.{OpRefusal}
pub use Rattle.service_core.specs.declared.op_refusal.OpRefusal.TheVariants.{BadWidth, IdsSpent, NoRoom, TooManyStrips}
pub use Rattle.service_core.specs.declared.put_reply.PutReply.{PutReply}
pub use Rattle.service_core.specs.declared.service.TheConstants.{MAX_ADMISSIONS}
pub use Rattle.sessions.proofs.Counted.{live_of-changed}
pub use Rattle.sessions.proofs.EndToEndLemmas.{split}
pub use Rattle.sessions.proofs.StepLemmas.{Run-append}
pub use Rattle.sessions.proofs.WaitLemmas.{wait_leaves}
pub use Rattle.sessions.specs.Items.{begins_text, items_from, text_ahead, text_item, with_form, with_item}
pub use Rattle.sessions.specs.Reading.{GivesItem}
pub use Rattle.sessions.specs.SessionAnswer.{AsksCommand, EndsWait, GivesNoneBack, LeavesNone}
pub use Rattle.sessions.specs.Steps.{MakesStep, Waits}
pub use Rattle.sessions.specs.declared.line.SessionLine.{SessionLine}
pub use Rattle.sessions.specs.declared.line.SessionLine.TheVariants.{Refused}
pub use Rattle.sessions.specs.declared.line.TextKind.{TextKind}
pub use Rattle.sessions.specs.declared.steps.StepOutcome.{StepOutcome}
pub use Rattle.sessions.specs.declared.steps.StepOutcome.TheVariants.{Full, Gone, Recorded, Unfit}
pub use Rattle.sessions.specs.declared.told.Answer.{Answer}
pub use Rattle.sessions.specs.declared.told.Answer.TheVariants.{Served}
pub use Rattle.strips.specs.Plan.{offset_of}
pub use Rattle.tagged_lines.proofs.TagLemmas.{are_lines, both, is_line, line_then, rest_is, tag_is}
pub use Rattle.tagged_lines.specs.Tags.{Tagged, id_of, is_good_id, is_id_byte, is_of, is_tag, owner_of, tagged_text}
pub use Rattle.tenant_slot.specs.RoutedSet.{routed_set}
pub use Rattle.tenant_slot.specs.SingleUser.{State, answer_to, go_on, sources_of, state_after, step}
pub use Rattle.tenant_slot.specs.Slot.{SlotState, is_takeable}
pub use Rattle.tenant_slot.specs.declared.command.Command.TheVariants.{Status}
pub use Rattle.tenant_slot.specs.declared.event.Advance.{Advance}
pub use Rattle.tenant_slot.specs.declared.event.Event.{Event}
pub use Rattle.tenant_slot.specs.declared.reply.StepReply.{StepReply}
pub use Rattle.tenant_slot.specs.declared.reply.StepReply.TheVariants.{Advanced, Finished, Stale}
