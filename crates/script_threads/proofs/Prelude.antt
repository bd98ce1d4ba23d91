-- The names that this crate's proofs use, but for its own lemmas.
pub use Rattle.std.proofs.Common.{Bool, Err, List, None, Ok, Option, Result, Some, [], ap, append-nil, append_assoc, arith, drop, eqb, false, get_or, inl, inr, length, refl, replicate, rules, subst, suc, sym, take, true, zero, ℕ, ◌++◌, ◌+◌, ◌-◌, ◌<◌, ◌∙◌, ◌∷◌, ◌≡◌, ◌≢◌, ◌≤◌, ◌⊎◌}
pub use Rattle.std.proofs.Math.Seq.{take-length}
pub use Rattle.std.proofs.lemmas.Bool.Decides.{Decides-eqb, nat_tests}
pub use Rattle.std.proofs.lemmas.Grind.{flat_map-append}
pub use Rattle.std.proofs.lemmas.Iterator.Adapters.{YieldsList-from_vec}
pub use Rattle.std.proofs.lemmas.Iterator.Consumers.{YieldsList-end, YieldsList-so_far, YieldsList-turn}
pub use Rattle.std.proofs.lemmas.List.{map-append, map-id, map_push}
pub use Rattle.std.proofs.lemmas.List.Elements.{All-append, All-cons, All-contains, All-head, All-map, All-more, All-nil, All-push, All-same, All-tail, All-weaker, Contains-append_left, Contains-append_right, filter_map-append}
pub use Rattle.std.proofs.lemmas.List.Kept.{AllPairs-cons}
pub use Rattle.std.proofs.lemmas.Slice.Eq.{bytes_eq-Decides}
pub use Rattle.std.specs.List.{AllZip, Contains, cons_option, filter_map, flat_map}
pub use Rattle.std.specs.Prelude.{All, AllPairs, IfOk, IfSome, IsSomeAnd, OnOk, if◌then◌else◌, is_some, map, nat_le, option_map, reverse, ◌&&◌, ◌||◌}
pub use Rattle.std.specs.declared.alloc.Global.{Global}
pub use Rattle.std.specs.declared.vec.Vec.{Vec}
pub use Rattle.job_state.specs.declared.sources.Sources.{Sources}
pub use Rattle.job_state.specs.declared.step.JobStep.{JobStep}
pub use Rattle.operator.proofs.OperatorLemmas.{on_ok}
pub use Rattle.script_text.specs.declared.inputs.SessionInput.{SessionInput}
pub use Rattle.script_threads.specs.Left.{HaveMadeSteps, IsEnded, IsJobOf, MakesSteps, MakesStepsOf}
pub use Rattle.script_threads.specs.Lines.{AreServed, RepliesEach, Serves, stage, with_give_backs}
pub use Rattle.script_threads.specs.OneRun.{IsOneRun, calls_of}
pub use Rattle.script_threads.specs.Parts.{Adds, AreFullNotes, AreParts, Finishes, part_told, started_by}
pub use Rattle.script_threads.specs.Prelude.{AreAllCalls, AreApart, AreOfLive, AreTold, Basis, Call, Command, Device, Follows, GiveBack, HeldList, History, IsServed, IsTold, Item, ItemAnswer, JobState, LeaseState, Marked, Note, Noted, OperatorLine, Parts, Put, Receipt, Receipted, Refused, Run, Said, Section, ServiceState, SessionLine, Stage, Status, Stays, Take, Tenant, TranscriptState, Wait, empty_service, give_backs, is_leased, is_of_threads, items_of, journal_of, last_id, live_of, named_operator, new_transcript, noted_all, own_graph, own_receipts, receipt_in, said_by, section_of, sink_text, takeable_in}
pub use Rattle.script_threads.specs.Refusals.{NoneLate, is_note, is_receipt, places_in, served_late}
pub use Rattle.script_threads.specs.Seats.{AreFree, GivesOneLease, HasSeat}
pub use Rattle.script_threads.specs.Served.{Conversation, IsAnswered, IsServedFrom, Ran, told_in}
pub use Rattle.script_threads.specs.Sessions.{Asked, IsToldBy, PartState, asked_in, asked_of, evicted_line, transcripts_of}
pub use Rattle.script_threads.specs.Turns.{is_turn, own_answer, own_answers, receipts_told, told_answer, told_answers}
pub use Rattle.script_threads.specs.declared.crowd.Started.{Started}
pub use Rattle.service_core.proofs.Alone.{each_alone, is_book, own_journals}
pub use Rattle.service_core.proofs.Effects.{Kept, kept_after, run_device, run_keeps}
pub use Rattle.service_core.proofs.Keeps.{IsService-empty, if_live_some}
pub use Rattle.service_core.proofs.Lists.{All-history_of, history_of-modified, history_of-past, history_of-zero}
pub use Rattle.service_core.proofs.Owning.{one_owner}
pub use Rattle.service_core.proofs.Parted.{are_parted}
pub use Rattle.service_core.specs.Calls.{IsTaken}
pub use Rattle.service_core.specs.History.{slot_of, state_of}
pub use Rattle.service_core.specs.Run.{Happens, IsGivenBackTo, IsReceipt}
pub use Rattle.service_core.specs.Run.Call.{Admit, Evict, Move, Owners}
pub use Rattle.service_core.specs.Service.{IsAloneOn, entries_in, history_of, with_changed}
pub use Rattle.service_core.specs.Tenancy.{if_live}
pub use Rattle.service_core.specs.declared.not_served.NotServed.TheVariants.{JournalFull, NoMemory, NoSuchTenancy}
pub use Rattle.service_core.specs.declared.not_served.NoteCause.{NoteCause}
pub use Rattle.session_threads.specs.Told.{AnswersCommand}
pub use Rattle.sessions.proofs.EndToEndLemmas.{split}
pub use Rattle.sessions.proofs.StepLemmas.{Run-append}
pub use Rattle.sessions.specs.Steps.{MadeStep, MakesStep, StepsAndPuts, Waits}
pub use Rattle.sessions.specs.declared.line.SessionLine.TheVariants.{Blank}
pub use Rattle.sessions.specs.declared.steps.StepOutcome.{StepOutcome}
pub use Rattle.sessions.specs.declared.steps.StepOutcome.TheVariants.{Recorded, Unfit}
pub use Rattle.settling.proofs.AllCalls.{Stands, own_stand}
pub use Rattle.settling.specs.Settling.{IsFullIfTold, SettledState, has_id}
pub use Rattle.shared_core.proofs.Journals.{given_back}
pub use Rattle.shared_core.proofs.Marks.{marked_of-remarked, marked_of-zero}
pub use Rattle.shared_core.proofs.Reaching.{IsOfThreads, run_goes_on}
pub use Rattle.shared_core.specs.CoreCalls.{GivesLease}
pub use Rattle.shared_core.specs.CoreState.{CoreState, given_in, marked_of, no_marks, with_changed_marks, with_lease}
pub use Rattle.shared_core.specs.Following.{GoesOn}
pub use Rattle.shared_core.specs.Reaching.{own_receipt}
pub use Rattle.tenant_slot.proofs.Runs.{step-served}
pub use Rattle.tenant_slot.specs.Slot.{SlotState, is_takeable, next_job}
pub use Rattle.transcripts.specs.Transcripts.{receipts_of, with_no_memory}
