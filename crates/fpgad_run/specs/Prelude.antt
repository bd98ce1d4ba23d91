-- The names of the crates below that this crate's definitions and contracts use.
pub use Rattle.arch_file.specs.Arch.{IsArch, arch_of}
pub use Rattle.arch_file.specs.Faults.{printed_fault}
pub use Rattle.arch_file.specs.declared.arch.Arch.{Arch}
pub use Rattle.arch_file.specs.declared.arch.TheConstants.{MAX_TRACKS}
pub use Rattle.arch_file.specs.declared.fault.ArchFault.{ArchFault}
pub use Rattle.grid.specs.declared.TheConstants.{MAX_COLUMNS, MAX_ROWS}
pub use Rattle.line_text.specs.Lines.{physical_lines}
pub use Rattle.line_text.specs.declared.memory_sink.MemorySink.{MemorySink}
pub use Rattle.line_text.specs.declared.source.Failed.{Failed}
pub use Rattle.line_text.specs.declared.text_error.TextError.{TextError}
pub use Rattle.line_text.specs.declared.text_error.TextError.TheVariants.{Fault, NoMemory}
pub use Rattle.operator.specs.Held.{sink_text}
pub use Rattle.operator.specs.OperatorText.{last_id}
pub use Rattle.operator.specs.Serving.{HasOwnGraph, IsServed, Stage}
pub use Rattle.option_words.specs.Values.{number_of, text_of}
pub use Rattle.option_words.specs.declared.given.Given.{Given}
pub use Rattle.rr_graph.specs.Graph.{Basis}
pub use Rattle.script_text.specs.Replies.{Section, output_of, run_text, section_of}
pub use Rattle.script_text.specs.Script.{acts_from, named_act, script_of}
pub use Rattle.script_text.specs.Texts.{bytes_ahead}
pub use Rattle.script_text.specs.Threaded.{Parts, Threaded, heard_so_far, nothing_said, threaded_from, threaded_of}
pub use Rattle.script_text.specs.Threaded.Within.{Head, Script}
pub use Rattle.script_text.specs.declared.act.Act.{Act}
pub use Rattle.script_text.specs.declared.act.Act.TheVariants.{Operator, Session}
pub use Rattle.script_text.specs.declared.replies.RunReplies.{RunReplies}
pub use Rattle.script_threads.specs.Served.{IsServedOnThreads}
pub use Rattle.script_threads.specs.declared.unserved.Unserved.{Unserved}
pub use Rattle.script_threads.specs.declared.unserved.Unserved.TheVariants.{NotSettled}
pub use Rattle.service_core.specs.Headline.{AreOwnJournals, AreParted, EachIsAlone, IsBook}
pub use Rattle.service_core.specs.Owners.{HasOneOwner}
pub use Rattle.service_core.specs.Run.{Call, Run}
pub use Rattle.service_core.specs.Service.{ServiceState, empty_service}
pub use Rattle.service_core.specs.declared.device.Device.{Device}
pub use Rattle.service_core.specs.declared.device.TheConstants.{NO_TEXT_LIMIT}
pub use Rattle.sessions.specs.EndToEnd.{LineIsToldAlone}
pub use Rattle.sessions.specs.Fitting.{own_graph}
pub use Rattle.sessions.specs.SessionAnswer.{Asks, IsAnswer, LeavesNone}
pub use Rattle.sessions.specs.SessionText.{answer_text}
pub use Rattle.sessions.specs.declared.line.SessionLine.{SessionLine}
pub use Rattle.sessions.specs.declared.told.Answer.{Answer}
pub use Rattle.shared_core.specs.declared.shared.TheConstants.{MAX_WORKERS}
