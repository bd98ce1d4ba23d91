-- The names that this crate's proofs use, but for its own lemmas.
pub use Rattle.std.proofs.Common.{Bool, Err, List, None, Ok, Option, Result, Some, [], ap, append-nil, append_assoc, arith, false, inl, inr, length, not, refl, subst, sym, true, ℕ, ◌++◌, ◌+◌, ◌∙◌, ◌∷◌, ◌≡◌, ◌≢◌, ◌≤◌}
pub use Rattle.std.proofs.lemmas.Grind.{flat_map-append}
pub use Rattle.std.proofs.lemmas.List.Elements.{All-head, All-tail}
pub use Rattle.std.proofs.lemmas.Slice.Eq.{bytes_eq-Decides}
pub use Rattle.std.specs.List.{after_first, before_first, flat_map}
pub use Rattle.std.specs.Option.{option_map_or}
pub use Rattle.std.specs.Prelude.{All, if◌then◌else◌, is_some, map, option_map, ⊤}
pub use Rattle.std.specs.Str.{bytes_eq}
pub use Rattle.arch_file.specs.declared.arch.Arch.{Arch}
pub use Rattle.arch_file.specs.declared.fault.ArchFault.{ArchFault}
pub use Rattle.fpgad_run.specs.OnThreads.{said_in}
pub use Rattle.fpgad_run.specs.Program.{checked_start}
pub use Rattle.fpgad_run.specs.Run.{IsAnswered, told_session, with_text}
pub use Rattle.job_state.specs.Job.{JobState}
pub use Rattle.line_text.specs.Lines.{physical_lines}
pub use Rattle.line_text.specs.Words.{is_blank}
pub use Rattle.operator.proofs.Served.{served_runs}
pub use Rattle.operator.proofs.Stepping.{AreSteady, Steady, steady_asks}
pub use Rattle.operator.specs.HeldJobs.{Holds, PutsHeld, job_at}
pub use Rattle.operator.specs.OperatorText.{names_after}
pub use Rattle.operator.specs.Serving.{IsAdmission, IsServed}
pub use Rattle.same_answers.specs.InOrder.{AreLeftAlone, AreRepliedTo, HasTextInOrder, IsLeftAlone, IsRepliedTo, acts_of, answer_for, answers_for}
pub use Rattle.same_answers.specs.Prelude.{Act, Architecture, Call, Conversation, Device, Evict, HasOwnGraph, IsReply, Operator, Run, Section, ServiceState, Session, Stage, Step, Take, Telling, Tells, device_of, empty_service, items_by, last_id, live_width, own_events, own_graph, section_of, sections_after, start, start_of, strip_on, threaded_start_of, waited_text, waits_for_each}
pub use Rattle.same_answers.specs.SameAnswers.{HasSameAnswers, HasStrip, IsRepliedIn, from_session, if_session, stage_at_session, text_of}
pub use Rattle.script_text.specs.Script.{Acts, acts_from, begins_text, form_by, form_of, operator_form, session_form, with_act, with_line, without_blanks}
unfoldable pub use Rattle.script_text.specs.Script.{form_in}
pub use Rattle.script_text.specs.Threaded.{Heard, Parts, Within, heard_so_far, hears_form, is_by_hand, nothing_said, threaded_from, with_feed, with_said}
pub use Rattle.script_text.specs.Threaded.Within.{Head, Script, Upload}
pub use Rattle.script_text.specs.declared.operator_line.OperatorLine.{OperatorLine}
pub use Rattle.script_text.specs.declared.operator_line.OperatorLine.TheVariants.{Admit, Move, Owners, Put}
pub use Rattle.script_threads.specs.Served.{told_in}
pub use Rattle.service_core.proofs.Effects.{run_device}
pub use Rattle.service_core.proofs.Lists.{history_of-modified, history_of-past, history_of-push, history_of-zero}
pub use Rattle.service_core.specs.History.{History}
pub use Rattle.service_core.specs.OwnEvents.{own_exchange, own_exchanges}
pub use Rattle.service_core.specs.Run.{Happens, IsGivenBackTo}
pub use Rattle.service_core.specs.Run.Call.{Tenant}
pub use Rattle.service_core.specs.Service.{live_of, with_changed}
pub use Rattle.service_core.specs.Tenancy.{closed_history, if_live}
pub use Rattle.service_core.specs.declared.op_refusal.OpRefusal.{OpRefusal}
pub use Rattle.sessions.proofs.StepLemmas.{Run-append}
pub use Rattle.sessions.specs.Items.{ends_text, items_of, with_item, without_cr}
pub use Rattle.sessions.specs.SessionAnswer.{Asks, AsksCommand, EndsWait, LeavesNone}
pub use Rattle.sessions.specs.SessionText.{answer_text}
pub use Rattle.sessions.specs.Steps.{MadeStep, MakesStep, StepsAndPuts}
pub use Rattle.sessions.specs.WholeSession.{IsOthers, Item, Meanwhile, Turn, text_of_turns}
pub use Rattle.sessions.specs.declared.line.LineForm.{LineForm}
pub use Rattle.sessions.specs.declared.line.SessionLine.{SessionLine}
pub use Rattle.sessions.specs.declared.line.SessionLine.TheVariants.{Blank, Command, Refused, Wait}
pub use Rattle.sessions.specs.declared.steps.StepOutcome.{StepOutcome}
pub use Rattle.sessions.specs.declared.steps.StepOutcome.TheVariants.{Full, Gone, NoMemory, Nothing, Recorded, Unfit}
pub use Rattle.sessions.specs.declared.told.Answer.{Answer}
pub use Rattle.tenant_slot.specs.SingleUser.{State}
pub use Rattle.tenant_slot.specs.declared.command.Command.TheVariants.{Pack}
pub use Rattle.tenant_slot.specs.declared.event.Event.{Event}
pub use Rattle.tenant_slot.specs.declared.reply.Reply.{Reply}
pub use Rattle.workers_law.specs.SameScript.{IsReadTheSame, IsSameScript, input_of}
pub use Rattle.workers_law.specs.Workers.{AreReplied, HasSameText, HasWaitedText, OwnTurns, TakesNone, Waits, items_in}
