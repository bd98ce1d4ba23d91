-- The names of the crates below that this crate's definitions and contracts use.
pub use Rattle.fpgad_run.specs.Commands.{RunsInOrder, RunsOnThreads}
pub use Rattle.fpgad_run.specs.OnThreads.{threaded_start_of}
pub use Rattle.fpgad_run.specs.Outcomes.{status_of}
pub use Rattle.fpgad_run.specs.Program.{Decides, Writes, start_of}
pub use Rattle.fpgad_run.specs.declared.inputs.Architecture.{Architecture}
pub use Rattle.fpgad_run.specs.declared.inputs.Architecture.TheVariants.{InScript, Text, Unreadable}
pub use Rattle.fpgad_run.specs.declared.options.CommandLine.{CommandLine}
pub use Rattle.fpgad_run.specs.declared.options.Options.{Options}
pub use Rattle.fpgad_run.specs.declared.outcome.Outcome.{Outcome}
pub use Rattle.fpgad_run.specs.declared.outcome.Outcome.TheVariants.{NoMemory, NotSettled}
pub use Rattle.script_text.specs.Threaded.{Parts}
pub use Rattle.script_text.specs.declared.replies.RunReplies.{RunReplies}
pub use Rattle.script_threads.specs.OneRun.{IsOneRun, calls_of}
pub use Rattle.script_threads.specs.Served.{IsServedOnThreads}
pub use Rattle.service_core.specs.Headline.{AreOwnJournals, AreParted, EachIsAlone, IsBook}
pub use Rattle.service_core.specs.Owners.{HasOneOwner}
pub use Rattle.service_core.specs.Run.{Call, Run}
pub use Rattle.service_core.specs.Service.{ServiceState, empty_service}
pub use Rattle.service_core.specs.declared.device.Device.{Device}
pub use Rattle.wires_law.specs.Untouched.{AreUntouched}
pub use Rattle.workers_law.specs.Workers.{HasWaitedText}
