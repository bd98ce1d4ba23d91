-- The names of the crates below that this crate's definitions and contracts use.
pub use Rattle.blif.specs.CircuitOf.{circuit_of}
pub use Rattle.blif.specs.Faults.{net_of}
pub use Rattle.blif.specs.declared.circuit.Circuit.{Circuit}
pub use Rattle.blif.specs.declared.fault.BlifFault.{BlifFault}
pub use Rattle.cluster.specs.Blocks.{net_name}
pub use Rattle.fpgad_run.specs.Program.{IsReplies, Start, start_of}
pub use Rattle.fpgad_run.specs.Run.{Telling}
pub use Rattle.fpgad_run.specs.declared.inputs.Architecture.{Architecture}
pub use Rattle.fpgad_run.specs.declared.options.Options.{Options}
pub use Rattle.operator.specs.OperatorText.{outcome_text, refused_text}
pub use Rattle.printed_replies.specs.Lengths.{after_prefix, is_line_feed}
pub use Rattle.printed_replies.specs.Printing.{told_to}
pub use Rattle.printed_replies.specs.Replies.{AnsweredLine, Reading, and_then, with_reply}
pub use Rattle.script_replies.specs.Asking.{asked_of, replies_in}
pub use Rattle.script_text.specs.declared.act.Act.{Act}
pub use Rattle.script_text.specs.declared.act.Act.TheVariants.{Operator, Session}
pub use Rattle.script_text.specs.declared.operator_line.OperatorLine.{OperatorLine}
pub use Rattle.script_text.specs.declared.operator_line.OperatorLine.TheVariants.{Admit, Evict, Put, Step, Take}
pub use Rattle.service_core.specs.declared.service.TheConstants.{MAX_ADMISSIONS}
pub use Rattle.sessions.specs.SessionText.{no_memory_text}
pub use Rattle.sessions.specs.declared.steps.StepOutcome.TheVariants.{NoMemory}
