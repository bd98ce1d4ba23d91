-- The names of the crates below that this crate's definitions and contracts use.
pub use Rattle.fpgad_run.specs.OnThreads.{AreThreadedReplies, threaded_start_of}
pub use Rattle.fpgad_run.specs.Program.{IsReplies, Start, device_of, start_of}
pub use Rattle.fpgad_run.specs.Run.{Telling, Tells, sections_after}
pub use Rattle.fpgad_run.specs.declared.inputs.Architecture.{Architecture}
pub use Rattle.fpgad_run.specs.declared.options.Options.{Options}
pub use Rattle.operator.specs.OperatorText.{last_id}
pub use Rattle.operator.specs.Serving.{HasOwnGraph, Stage}
pub use Rattle.script_text.specs.Replies.{Section, section_of}
pub use Rattle.script_text.specs.declared.act.Act.{Act}
pub use Rattle.script_text.specs.declared.act.Act.TheVariants.{Operator, Session}
pub use Rattle.script_text.specs.declared.operator_line.OperatorLine.TheVariants.{Evict, Step, Take}
pub use Rattle.script_threads.specs.Served.{Conversation}
pub use Rattle.service_core.specs.OwnEvents.{own_events}
pub use Rattle.service_core.specs.Run.{Call, Run}
pub use Rattle.service_core.specs.Service.{ServiceState, empty_service, live_width, strip_on}
pub use Rattle.service_core.specs.declared.device.Device.{Device}
pub use Rattle.session_threads.specs.Told.{told_text}
pub use Rattle.sessions.specs.Fitting.{own_graph}
pub use Rattle.tenant_slot.specs.SingleUser.{start}
pub use Rattle.workers_law.specs.SameScript.{items_by}
pub use Rattle.workers_law.specs.Waited.{IsReply, waited_text, waits_for_each}
