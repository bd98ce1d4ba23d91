-- The names that this crate's proofs use, but for its own lemmas.
pub use Rattle.std.proofs.Common.{Bool, Err, List, None, Ok, Option, Result, Some, [], ap, append-nil, append_assoc, arith, cond, drop, eqb, false, get_or, inl, inr, length, map, not, refl, subst, suc, sym, true, zero, ℕ, ◌++◌, ◌+◌, ◌-◌, ◌<◌, ◌∙◌, ◌∷◌, ◌≡◌, ◌≢◌, ◌≤◌}
pub use Rattle.std.proofs.lemmas.Bool.{and_parts}
pub use Rattle.std.proofs.lemmas.Bool.Decides.{nat_tests}
pub use Rattle.std.proofs.lemmas.Grind.{flat_map-append}
pub use Rattle.std.proofs.lemmas.List.Elements.{All-append, All-cons, All-head, All-nil, All-same, All-tail}
pub use Rattle.std.proofs.lemmas.Slice.Eq.{bytes_eq-Decides}
pub use Rattle.std.specs.List.{AllZip, after_first, before_first, filter_map, flat_map, list_all, onto_first}
pub use Rattle.std.specs.Option.{option_map_or}
pub use Rattle.std.specs.Prelude.{All, IfSome, IsSomeAnd, if◌then◌else◌, is_some, nat_lt, option_map, reverse, slice_index, unwrap_or, ⊤, ◌&&◌, ◌==◌, ◌⊎◌}
pub use Rattle.std.specs.Str.{bytes_eq}
pub use Rattle.std.specs.declared.alloc.AllocError.{AllocError}
pub use Rattle.arch_file.specs.declared.arch.Arch.{Arch}
pub use Rattle.grid.specs.declared.Strip.{Strip}
pub use Rattle.job_state.specs.Job.{JobState}
pub use Rattle.job_state.specs.declared.sources.JobKind.{JobKind}
pub use Rattle.job_state.specs.declared.step.JobStep.{JobStep}
pub use Rattle.line_text.specs.Lines.{physical_lines}
pub use Rattle.line_text.specs.Words.{is_blank}
pub use Rattle.operator.specs.HeldJobs.{HeldList, Holds, PutsHeld, give_backs, job_at}
pub use Rattle.operator.specs.OperatorText.{last_id}
pub use Rattle.operator.specs.Serving.{IsAdmission, IsServed, Stage}
pub use Rattle.script_text.specs.Replies.{Section, section_of}
pub use Rattle.script_text.specs.Script.{Acts, acts_from, begins_text, form_by, form_of, operator_form, session_form, with_act, with_line, without_blanks}
unfoldable pub use Rattle.script_text.specs.Script.{form_in}
pub use Rattle.script_text.specs.Threaded.{Heard, Parts, Said, Threaded, Within, after_first_word, heard_so_far, hears_form, nothing_said, threaded_from, with_feed, with_input, with_operator, with_said}
pub use Rattle.script_text.specs.Threaded.Within.{Head, Script, Upload}
pub use Rattle.script_text.specs.declared.act.Act.{Act}
pub use Rattle.script_text.specs.declared.act.Act.TheVariants.{Operator, Session}
pub use Rattle.script_text.specs.declared.operator_line.OperatorLine.{OperatorLine}
pub use Rattle.script_threads.proofs.OneRunLemmas.{serves_run}
pub use Rattle.script_threads.proofs.TurnLemmas.{IsTurn, full_from, served_told, without_refused}
pub use Rattle.script_threads.specs.Lines.{AreServed, with_give_backs}
pub use Rattle.script_threads.specs.Served.{Conversation, IsAnswered, IsServedFrom, told_in}
pub use Rattle.script_threads.specs.Sessions.{evicted_text}
pub use Rattle.script_threads.specs.Turns.{receipts_told}
pub use Rattle.service_core.proofs.Alone.{each_alone}
pub use Rattle.service_core.proofs.Effects.{Effect, Kept, effect, kept_after, run_keeps}
pub use Rattle.service_core.proofs.Histories.{state_after-push}
pub use Rattle.service_core.proofs.Keeps.{IsService-empty, if_live_some}
pub use Rattle.service_core.proofs.Lists.{All-history_of, history_of-modified, history_of-past, history_of-push}
pub use Rattle.service_core.specs.Calls.{IsPut, IsTaken}
pub use Rattle.service_core.specs.Headline.{EachIsAlone}
pub use Rattle.service_core.specs.History.{History, slot_of, state_of, with_entry, with_here}
pub use Rattle.service_core.specs.OwnEvents.{own_events, own_exchange, own_exchanges, own_replies}
pub use Rattle.service_core.specs.Receipt.{Noted, Receipted}
pub use Rattle.service_core.specs.Run.{Call, Happens, IsGivenBackTo, IsReceipt, IsStepOf, Run, step_entry}
pub use Rattle.service_core.specs.Run.Call.{Admit, Evict, GiveBack, Move, Owners, Put, Take, Tenant}
pub use Rattle.service_core.specs.Service.{IsAloneOn, ServiceState, empty_service, history_of, live_of, live_width, strip_on, with_changed}
pub use Rattle.service_core.specs.Tenancy.{closed_history}
pub use Rattle.service_core.specs.declared.device.Device.{Device}
pub use Rattle.service_core.specs.declared.entry.Entry.{Entry}
pub use Rattle.service_core.specs.declared.not_served.NotServed.{NotServed}
pub use Rattle.service_core.specs.declared.not_served.NotServed.TheVariants.{JournalFull, NoMemory, NoSuchTenancy}
pub use Rattle.service_core.specs.declared.op_refusal.OpRefusal.TheVariants.{BadWidth, IdsSpent, NoRoom, TooManyStrips}
pub use Rattle.service_core.specs.declared.put_reply.PutReply.{PutReply}
pub use Rattle.service_core.specs.declared.put_reply.PutReply.TheVariants.{Full, Gone, Recorded}
pub use Rattle.session_threads.proofs.ItemLemmas.{line_then}
pub use Rattle.session_threads.specs.Inputs.{is_one_line}
pub use Rattle.session_threads.specs.Told.{IsAtRest, IsTold, place_text, told_text, told_texts}
pub use Rattle.sessions.proofs.Counted.{live_of-changed, some_and}
pub use Rattle.sessions.proofs.EndToEndLemmas.{split}
pub use Rattle.sessions.proofs.StepLemmas.{Run-append}
pub use Rattle.sessions.specs.Fitting.{own_graph}
pub use Rattle.sessions.specs.Items.{ends_text, items_from, items_of, text_ahead, without_cr}
pub use Rattle.sessions.specs.SessionAnswer.{AsksCommand, EndsWait, GivesNoneBack, LeavesNone}
pub use Rattle.sessions.specs.SessionLines.{line_form}
pub use Rattle.sessions.specs.SessionText.{answer_text, reply_text, session_refusal_text}
pub use Rattle.sessions.specs.Steps.{EndsSteps, IsOnePut, MadeStep, MakesStep, StepsAndPuts, Waits}
pub use Rattle.sessions.specs.WholeSession.{IsOthers, Item, Meanwhile, Turn, Turns, text_of_turns}
pub use Rattle.sessions.specs.declared.line.LineForm.{LineForm}
pub use Rattle.sessions.specs.declared.line.LineForm.TheVariants.{Asks, Begins}
pub use Rattle.sessions.specs.declared.line.SessionLine.{SessionLine}
pub use Rattle.sessions.specs.declared.line.SessionLine.TheVariants.{Blank, Refused, Wait}
pub use Rattle.sessions.specs.declared.refusal.SessionRefusal.TheVariants.{UnknownCommand}
pub use Rattle.sessions.specs.declared.steps.StepOutcome.{StepOutcome}
pub use Rattle.sessions.specs.declared.steps.StepOutcome.TheVariants.{Nothing, Unfit}
pub use Rattle.sessions.specs.declared.told.Answer.{Answer}
pub use Rattle.sessions.specs.declared.told.Answer.TheVariants.{Served}
pub use Rattle.shared_core.proofs.Reaching.{IsOfThreads}
pub use Rattle.shared_core.specs.Reaching.{own_receipts}
pub use Rattle.tenant_slot.proofs.Runs.{step-served}
pub use Rattle.tenant_slot.specs.SingleUser.{State, advance, after_reply, answer_to, kind_that_runs, replies_to, run, serve, sources_of, start, state_after, state_at_end, step}
pub use Rattle.tenant_slot.specs.Slot.{is_takeable, next_job}
pub use Rattle.tenant_slot.specs.declared.command.Command.{Command}
pub use Rattle.tenant_slot.specs.declared.command.Command.TheVariants.{Pack, Route, Status}
pub use Rattle.tenant_slot.specs.declared.event.Advance.{Advance}
pub use Rattle.tenant_slot.specs.declared.event.Event.{Event}
pub use Rattle.tenant_slot.specs.declared.reply.Refusal.TheVariants.{WrongState}
pub use Rattle.tenant_slot.specs.declared.reply.Reply.{Reply}
pub use Rattle.tenant_slot.specs.declared.reply.Reply.TheVariants.{Step}
pub use Rattle.tenant_slot.specs.declared.reply.StateName.TheVariants.{Empty, Packed, Packing}
pub use Rattle.tenant_slot.specs.declared.reply.StepReply.{StepReply}
pub use Rattle.tenant_slot.specs.declared.reply.StepReply.TheVariants.{Advanced, Finished, Stale}
pub use Rattle.transcripts.specs.declared.item.ItemAnswer.{ItemAnswer}
pub use Rattle.transcripts.specs.declared.item.ItemAnswer.TheVariants.{Note, Receipt}
pub use Rattle.workers_law.specs.SameScript.{IsReadTheSame, IsSameScript, input_of, items_by, lines_ahead, operator_lines}
pub use Rattle.workers_law.specs.Waited.{IsReply, after_command, after_last_step, begins_job, waited_text, waits_for_each}
pub use Rattle.workers_law.specs.Workers.{AreReplied, OwnTurns, TakesNone, items_in}
