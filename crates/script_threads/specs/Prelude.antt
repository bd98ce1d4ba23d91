-- The names of the crates below that this crate's definitions and contracts use.
pub use Rattle.job_state.specs.Job.{JobState}
pub use Rattle.operator.specs.Held.{sink_text}
pub use Rattle.operator.specs.HeldJobs.{HeldList, give_backs}
pub use Rattle.operator.specs.OperatorText.{last_id}
pub use Rattle.operator.specs.Serving.{IsServed, Stage}
pub use Rattle.rr_graph.specs.Graph.{Basis}
pub use Rattle.script_text.specs.Replies.{Section, section_of}
pub use Rattle.script_text.specs.Script.{named_operator}
pub use Rattle.script_text.specs.Threaded.{AreApart, Parts, Said, parts_of, said_by}
pub use Rattle.script_text.specs.declared.operator_line.OperatorLine.{OperatorLine}
pub use Rattle.script_text.specs.declared.replies.RunReplies.{RunReplies}
pub use Rattle.service_core.specs.Calls.{takeable_in}
pub use Rattle.service_core.specs.Headline.{AreOwnJournals, AreParted, EachIsAlone, IsBook}
pub use Rattle.service_core.specs.History.{History}
pub use Rattle.service_core.specs.Kept.{IsDevice}
pub use Rattle.service_core.specs.Owners.{HasOneOwner}
pub use Rattle.service_core.specs.Receipt.{Noted, Receipted}
pub use Rattle.service_core.specs.Run.{Call, Run}
pub use Rattle.service_core.specs.Run.Call.{GiveBack, Put, Take, Tenant}
pub use Rattle.service_core.specs.Service.{ServiceState, empty_service, journal_of, live_of}
pub use Rattle.service_core.specs.declared.device.Device.{Device}
pub use Rattle.service_core.specs.declared.not_served.NoteCause.TheVariants.{JournalFull}
pub use Rattle.service_core.specs.declared.service.TheConstants.{MAX_ADMISSIONS}
pub use Rattle.session_threads.specs.Told.{AreTold, IsTold, noted_all, told_texts}
pub use Rattle.session_threads.specs.WholeSession.{new_transcript}
pub use Rattle.sessions.specs.Fitting.{own_graph}
pub use Rattle.sessions.specs.Items.{items_of}
pub use Rattle.sessions.specs.SessionText.{session_refusal_text}
pub use Rattle.sessions.specs.declared.line.SessionLine.{SessionLine}
pub use Rattle.sessions.specs.declared.line.SessionLine.TheVariants.{Command, Refused, Wait}
pub use Rattle.sessions.specs.declared.refusal.SessionRefusal.{SessionRefusal}
pub use Rattle.sessions.specs.declared.refusal.SessionRefusal.TheVariants.{Evicted}
pub use Rattle.settling.specs.Settling.{AreAllCalls, entry_of}
pub use Rattle.shared_core.specs.CoreState.{LeaseState, Marked, is_leased}
pub use Rattle.shared_core.specs.Following.{Follows, Stays}
pub use Rattle.shared_core.specs.Reaching.{is_of_threads, own_receipts}
pub use Rattle.shared_core.specs.declared.shared.TheConstants.{MAX_WORKERS}
pub use Rattle.tenant_slot.specs.declared.command.Command.TheVariants.{Status}
pub use Rattle.tenant_slot.specs.declared.slot.TheConstants.{MAX_ENTRIES}
pub use Rattle.transcripts.specs.Transcripts.{AreOfLive, TranscriptState, receipt_in}
pub use Rattle.transcripts.specs.declared.item.Item.{Item}
pub use Rattle.transcripts.specs.declared.item.ItemAnswer.{ItemAnswer}
pub use Rattle.transcripts.specs.declared.item.ItemAnswer.TheVariants.{Note, Receipt}
pub use Rattle.transcripts.specs.declared.item.SessionEnd.TheVariants.{Ended}
