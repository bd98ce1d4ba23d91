-- How a live service ends.
use Rattle.std.specs.Prelude.{ℕ}
use Rattle.live_run.specs.Prelude.{ConversationEnd, Done as DoneEnd, Stopped as StoppedEnd, TooManyLines as TooManyEnd, NoMemory as NoMemoryEnd, ReadError, Failed}
use Rattle.line_text.specs.declared.source.ReadError.TheVariants.{NoMemory as NoReadMemory}
use Rattle.live_run.specs.declared.outcome.Outcome.{Outcome}
use Rattle.live_run.specs.declared.outcome.Outcome.TheVariants.{Done, ArchUnreadable, ArchRefused, LogUnreadable, LogDiffers, LogIsStream, LogInUse, Stopped, TooManyLines, NoMemory}

abbrev pub status_of : Outcome → ℕ
status_of Done = 0
status_of ArchUnreadable = 1
status_of (ArchRefused fault) = 1
status_of LogUnreadable = 1
status_of LogInUse = 1
status_of (LogDiffers difference) = 2
status_of LogIsStream = 2
status_of (Stopped fault) = 1
status_of TooManyLines = 1
status_of NoMemory = 4

abbrev pub outcome_of : ConversationEnd → Outcome
outcome_of DoneEnd = Done
outcome_of (StoppedEnd fault) = Stopped fault
outcome_of TooManyEnd = TooManyLines
outcome_of NoMemoryEnd = NoMemory

abbrev pub unread_log : ReadError → Outcome
unread_log Failed = LogUnreadable
unread_log NoReadMemory = NoMemory
