-- The names that this crate's proofs use, but for its own lemmas.
pub use Rattle.std.proofs.Common.{Bool, Err, List, None, Ok, Option, Result, Some, [], ap, append-nil, append_assoc, arith, codes, decimal, drop, eqb, false, filter, get_or, inl, inr, length, length-append, map, not, refl, rules, subst, suc, sym, take, true, ℕ, ◌++◌, ◌+◌, ◌-◌, ◌<◌, ◌∙◌, ◌∷◌, ◌≡◌, ◌≢◌, ◌≤◌}
pub use Rattle.std.proofs.Math.Seq.{take-append-add}
pub use Rattle.std.proofs.lemmas.Bool.{false≢true}
pub use Rattle.std.proofs.lemmas.Bool.Decides.{Decides-eqb, nat_tests}
pub use Rattle.std.proofs.lemmas.Grind.{common_steps, flat_map-append}
pub use Rattle.std.proofs.lemmas.List.{length-take-le, map-append, take-append-le, take_all}
pub use Rattle.std.proofs.lemmas.List.Elements.{All-filter, All-head, All-map, All-push, All-tail}
pub use Rattle.std.proofs.lemmas.Option.{none-some, same_Some}
pub use Rattle.std.specs.List.{before_first, flat_map, position_or_len, slice_split}
pub use Rattle.std.specs.Prelude.{All, IfOk, IfSome, IsSome, IsSomeAnd, if◌then◌else◌, is_some, nat_lt, option_map, ⊤, ◌&&◌, ◌==◌, ◌⊎◌}
pub use Rattle.std.specs.declared.alloc.AllocError.{AllocError}
pub use Rattle.grid.specs.declared.Strip.{Strip}
pub use Rattle.job_state.specs.declared.sources.JobKind.{JobKind}
pub use Rattle.job_state.specs.declared.sources.Sources.{Sources}
pub use Rattle.line_text.specs.Words.{is_blank, is_filled}
pub use Rattle.service_core.proofs.Alone.{state_alone}
pub use Rattle.service_core.proofs.Booking.{has_offset, placed_strip}
pub use Rattle.service_core.proofs.Effects.{Admitted, Effect, Entered, Evicted, Kept, Moved, Turned, effect, run_device, run_keeps}
pub use Rattle.service_core.proofs.Held.{IsOnStrip, events_stay}
pub use Rattle.service_core.proofs.Histories.{state_after-push}
pub use Rattle.service_core.proofs.Keeps.{IsService-empty, if_live_some}
pub use Rattle.service_core.proofs.Lists.{All-history_of, history_of-modified, history_of-past, history_of-push}
pub use Rattle.service_core.proofs.MovedStrips.{same_width}
pub use Rattle.service_core.proofs.Parted.{are_parted}
pub use Rattle.service_core.specs.Calls.{IsGivenBack, IsPut, IsServed, Puts}
pub use Rattle.service_core.specs.Headline.{AreParted}
pub use Rattle.service_core.specs.History.{History, events_of, slot_of, state_of, with_entry, with_here}
pub use Rattle.service_core.specs.OwnEvents.{if_own}
pub use Rattle.service_core.specs.Receipt.{Noted}
pub use Rattle.service_core.specs.Run.{IsGivenBackTo, IsReceipt, IsStepOf, step_entry}
pub use Rattle.service_core.specs.Run.Call.{Move, Owners}
pub use Rattle.service_core.specs.Service.{AreAlone, IsAloneOn, history_of, placed_width, with_changed, with_tenancy}
pub use Rattle.service_core.specs.Tenancy.{closed_history, if_live}
pub use Rattle.service_core.specs.declared.entry.Entry.{Entry}
pub use Rattle.sessions.specs.EndToEnd.{IsToldAlone, LineIsToldAlone, alone_after, alone_text, told_text}
pub use Rattle.sessions.specs.Fitting.{HasWindow, own_graph}
pub use Rattle.sessions.specs.Items.{ends_text, items_from, items_of, text_ahead, text_item, without_cr}
unfoldable pub use Rattle.sessions.specs.Items.{kept_part}
pub use Rattle.sessions.specs.Prelude.{Accepted, Admit, Advance, Basis, Call, CannotPack, Device, Event, Evict, File, GiveBack, Happens, IsNextStep, IsOriginIn, IsTaken, JobState, JobStep, JournalFull, NoMemory, NoSuchTenancy, NotServed, Put, PutReply, Receipted, Reply, Run, ServiceState, State, Status, StepReply, Take, Tenant, device_strip, empty_service, is_on_device, live_of, live_width, offset_of, own_events, physical_lines, replies_to, start, state_after, step, strip_on, takeable_in, words_of}
pub use Rattle.sessions.specs.Reading.{GivesItem, TextSoFar, item_and, items_to_come, resumed_item}
pub use Rattle.sessions.specs.SessionAnswer.{Asks, AsksCommand, EndsWait, GivesNoneBack, IsAnswer, LeavesNone}
pub use Rattle.sessions.specs.SessionLines.{line_form, text_command}
pub use Rattle.sessions.specs.SessionText.{answer_text, numbered_line, reply_text, session_refusal_name, session_refusal_number, session_refusal_text}
pub use Rattle.sessions.specs.Steps.{EndsSteps, IsOnePut, MadeStep, MakesStep, StepsAndPuts, Waits}
pub use Rattle.sessions.specs.WholeSession.{Heard, IsOthers, Turn, Turns, answer_aside, events_in, heard_by, session_text, text_of_turns}
pub use Rattle.sessions.specs.WholeSession.Heard.{Happened}
pub use Rattle.sessions.specs.WholeSession.Turn.{Item, Meanwhile}
pub use Rattle.sessions.specs.declared.line.LineForm.TheVariants.{Begins}
pub use Rattle.sessions.specs.declared.line.SessionLine.{SessionLine}
pub use Rattle.sessions.specs.declared.line.SessionLine.TheVariants.{Blank, Command, Refused, Wait}
pub use Rattle.sessions.specs.declared.line.TextKind.TheVariants.{Upload}
pub use Rattle.sessions.specs.declared.refusal.SessionRefusal.{SessionRefusal}
pub use Rattle.sessions.specs.declared.steps.StepOutcome.{StepOutcome}
pub use Rattle.sessions.specs.declared.steps.StepOutcome.TheVariants.{Full, Gone, Nothing, Recorded, Unfit}
pub use Rattle.sessions.specs.declared.told.Answer.{Answer}
pub use Rattle.sessions.specs.declared.told.Answer.TheVariants.{Served}
pub use Rattle.strips.specs.Plan.{moved_strip, strip_of}
pub use Rattle.strips.specs.declared.placed_strip.PlacedStrip.{PlacedStrip}
pub use Rattle.tenant_slot.proofs.Runs.{state_after-append, step-full}
pub use Rattle.tenant_slot.specs.SingleUser.{kind_that_runs, sources_of}
pub use Rattle.tenant_slot.specs.Slot.{SlotState, is_takeable, next_job}
pub use Rattle.tenant_slot.specs.declared.reply.FileKind.TheVariants.{Net}
pub use Rattle.tenant_slot.specs.declared.reply.StateName.TheVariants.{Loaded}
