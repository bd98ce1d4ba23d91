-- The names of the crates below that this crate's definitions and contracts use.
pub use Rattle.arch_file.specs.Arch.{arch_of}
pub use Rattle.arch_file.specs.declared.arch.Arch.{Arch}
pub use Rattle.dialogue.specs.History.{Event, Fails, Happens, View}
pub use Rattle.dialogue.specs.History.Event.{Kept, Told}
pub use Rattle.dialogue.specs.declared.dialogue.FailedDevice.{FailedDevice}
pub use Rattle.dialogue.specs.declared.dialogue.FailedDevice.TheVariants.{Input, Log, Output}
pub use Rattle.line_feed.specs.Feed.{ahead_of, line_of}
pub use Rattle.line_feed.specs.Pieces.{IsKept, is_one_line, kept_of}
pub use Rattle.line_service.specs.Conversation.{AreAnswered}
pub use Rattle.line_text.specs.Lines.{physical_lines}
pub use Rattle.live_input.specs.Serving.{AnswersLine, begins_on, is_ready, kept_lines, state_in}
pub use Rattle.live_lines.specs.Live.{Asked, LiveState, asked_of, asks}
pub use Rattle.live_lines.specs.Live.Asked.{Operates, Says}
pub use Rattle.live_machine.specs.Account.{lines_in}
pub use Rattle.live_machine.specs.Held.{are_at_rest, form_of, is_wait}
pub use Rattle.live_machine.specs.Machine.{Call, IsLine, MachineState, Run, begins_with}
pub use Rattle.live_machine.specs.Machine.Call.{Drain}
pub use Rattle.live_machine.specs.Parts.{EndsMachine, IsReady, machine_of}
pub use Rattle.live_machine.specs.Workers.{IsHome, without_workers}
pub use Rattle.live_run.specs.Commands.{RunsLine}
pub use Rattle.live_run.specs.Limits.{device_of}
pub use Rattle.live_run.specs.Outcomes.{status_of}
pub use Rattle.live_run.specs.Retelling.{IsRetold, Retells, TellsPart, text_told}
pub use Rattle.live_run.specs.declared.options.CommandLine.{CommandLine}
pub use Rattle.live_run.specs.declared.options.Options.{Options}
pub use Rattle.live_run.specs.declared.outcome.Outcome.{Outcome}
pub use Rattle.live_run.specs.declared.outcome.Outcome.TheVariants.{Done, NoMemory, Stopped}
pub use Rattle.rr_graph.specs.Graph.{Basis}
pub use Rattle.rtrb.specs.Ring.{IsPair, SameConsumer, SameProducer, received, sent}
pub use Rattle.rtrb.specs.declared.consumer.Consumer.{Consumer}
pub use Rattle.rtrb.specs.declared.producer.Producer.{Producer}
pub use Rattle.script_text.specs.declared.operator_line.OperatorLine.TheVariants.{Put, Step, Take}
pub use Rattle.service_core.specs.Kept.{IsDevice}
pub use Rattle.service_core.specs.Service.{ServiceState, empty_service}
pub use Rattle.service_core.specs.declared.device.Device.{Device}
pub use Rattle.sessions.specs.Fitting.{own_graph}
pub use Rattle.tagged_lines.specs.Tags.{with_feed}
