-- The names of the crates below that this crate's definitions and contracts use.
pub use Rattle.job_queue.specs.Seats.{ReadyId}
pub use Rattle.line_text.specs.Lines.{physical_lines}
pub use Rattle.line_text.specs.Words.{is_blank}
pub use Rattle.line_text.specs.Writing.{TakesAll, TakesPart, Writes}
pub use Rattle.line_text.specs.declared.source.Failed.{Failed}
pub use Rattle.service_core.specs.Service.{AreAlone, live_of}
pub use Rattle.sessions.specs.Items.{ends_text, items_of, without_cr}
pub use Rattle.sessions.specs.Reading.{GivesItem, TextSoFar, item_and, items_to_come}
pub use Rattle.sessions.specs.SessionLines.{line_form}
pub use Rattle.sessions.specs.SessionText.{no_memory_text, note_text, reply_text, session_refusal_text}
pub use Rattle.sessions.specs.declared.line.SessionLine.{SessionLine}
pub use Rattle.sessions.specs.declared.line.SessionLine.TheVariants.{Blank, Command, Refused, Wait}
pub use Rattle.shared_core.specs.CoreState.{CoreState, is_idle_in, ready_number}
pub use Rattle.tenant_slot.specs.SingleUser.{kind_that_runs}
pub use Rattle.tenant_slot.specs.declared.command.Command.TheVariants.{Status}
pub use Rattle.tenant_slot.specs.declared.reply.Reply.{Reply}
pub use Rattle.transcripts.specs.Transcripts.{Enters, TranscriptState, transcript_with, with_no_memory, with_place}
pub use Rattle.transcripts.specs.declared.item.Item.{Item}
pub use Rattle.transcripts.specs.declared.item.ItemAnswer.{ItemAnswer}
pub use Rattle.transcripts.specs.declared.item.ItemAnswer.TheVariants.{Note, Receipt}
pub use Rattle.transcripts.specs.declared.item.SessionEnd.{SessionEnd}
pub use Rattle.transcripts.specs.declared.item.SessionEnd.TheVariants.{Ended, ReaderFailed, WriterFailed}
