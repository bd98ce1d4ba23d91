-- The names of the crates below that this crate's definitions and contracts use.
pub use Rattle.device_book.specs.declared.book.Owned.{Owned}
pub use Rattle.indexmap.specs.IndexMap.{spare}
pub use Rattle.job_state.specs.Job.{JobState}
pub use Rattle.job_state.specs.JobValue.{basis_in}
pub use Rattle.line_text.specs.Words.{texts}
pub use Rattle.line_text.specs.declared.memory_sink.MemorySink.{MemorySink}
pub use Rattle.rr_graph.specs.Graph.{Basis}
pub use Rattle.rr_graph.specs.declared.node.NodeKind.TheVariants.{ChanX, ChanY, Ipin, Opin}
pub use Rattle.rr_graph.specs.declared.resource.Resource.{Resource}
pub use Rattle.rr_graph.specs.declared.resource.ResourceKind.{ResourceKind}
pub use Rattle.rr_graph.specs.declared.resource.ResourceKind.TheVariants.{Pad}
pub use Rattle.script_text.specs.Script.{named_operator}
pub use Rattle.script_text.specs.declared.operator_line.OperatorLine.{OperatorLine}
pub use Rattle.script_text.specs.declared.operator_line.OperatorLine.TheVariants.{Admit, Evict, List, Move, Owners, Put, Step}
pub use Rattle.service_core.specs.History.{History, state_of}
pub use Rattle.service_core.specs.Names.{op_refusal_number, op_refusal_text}
pub use Rattle.service_core.specs.Owners.{ListsOwnersOf}
pub use Rattle.service_core.specs.Run.{Call, Happens, Run}
pub use Rattle.service_core.specs.Run.Call.{GiveBack, Take}
pub use Rattle.service_core.specs.Service.{ServiceState, live_of}
pub use Rattle.service_core.specs.declared.op_refusal.OpRefusal.{OpRefusal}
pub use Rattle.sessions.specs.Fitting.{own_graph}
pub use Rattle.sessions.specs.SessionText.{blank_word, numbered_line, step_text}
pub use Rattle.sessions.specs.Steps.{MakesStep, StepsAndPuts}
pub use Rattle.sessions.specs.declared.steps.StepOutcome.{StepOutcome}
pub use Rattle.sessions.specs.declared.steps.StepOutcome.TheVariants.{Full, Gone, NoMemory, Nothing, Recorded, Unfit}
pub use Rattle.strips.specs.Plan.{offset_of}
pub use Rattle.tenant_slot.specs.Names.{state_text}
pub use Rattle.vpr_files.specs.NodeText.{node_text_of, position_text}
