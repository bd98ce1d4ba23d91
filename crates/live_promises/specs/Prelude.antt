-- The names of the crates below that this crate's definitions and contracts use.
pub use Rattle.dialogue.specs.History.{Event, kept_in, told_in}
pub use Rattle.fpgad_run.specs.EndToEnd.{AreToldAlone}
pub use Rattle.fpgad_run.specs.Run.{Telling, Tells, calls_of}
pub use Rattle.line_feed.specs.Pieces.{kept_of}
pub use Rattle.line_service.specs.Conversation.{AreAnswered}
pub use Rattle.live_input.specs.Serving.{AnswersLine, begins}
pub use Rattle.live_lines.specs.Laws.{items_for, replies_for, said_by}
pub use Rattle.live_lines.specs.Live.{LiveState}
pub use Rattle.live_machine.specs.Account.{IsAccount}
pub use Rattle.live_machine.specs.Held.{Held, held_of}
pub use Rattle.live_machine.specs.Machine.{Call, MachineState, Run, begins_with}
pub use Rattle.live_machine.specs.Turn.{IsDay, IsServedTurn, Turn, log_of, replies_of, served_lines, told_of}
pub use Rattle.live_threads.specs.Endings.{IsProgramEnd}
pub use Rattle.live_threads.specs.Serving.{IsCut, events_of}
pub use Rattle.operator.specs.OperatorText.{last_id}
pub use Rattle.script_text.specs.Script.{is_name}
pub use Rattle.service_core.specs.Headline.{AreOwnJournals, AreParted, EachIsAlone, IsBook}
pub use Rattle.service_core.specs.Owners.{HasOneOwner}
pub use Rattle.service_core.specs.Service.{empty_service, live_of}
pub use Rattle.service_core.specs.declared.device.Device.{Device}
pub use Rattle.sessions.specs.Reading.{items_to_come}
pub use Rattle.tagged_lines.specs.Tags.{Tagged, output_of, told_to}
