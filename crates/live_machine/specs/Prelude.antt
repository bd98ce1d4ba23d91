-- The names of the crates below that this crate's definitions and contracts use.
pub use Rattle.backlog.specs.Waiting.{TakesLost}
pub use Rattle.backlog.specs.declared.backlog.Turn.{Turn}
pub use Rattle.backlog.specs.declared.backlog.Turn.TheVariants.{Item, Lost, Nothing}
pub use Rattle.job_state.specs.Job.{JobState}
pub use Rattle.job_state.specs.declared.step.JobStep.{JobStep}
pub use Rattle.line_feed.specs.Pieces.{is_one_line, kept_of}
pub use Rattle.line_service.specs.Conversation.{AreAnswered}
pub use Rattle.line_text.specs.Lines.{physical_lines}
pub use Rattle.live_input.specs.Serving.{AnswersLine, ClosesTexts, is_ready, state_in}
pub use Rattle.live_lines.specs.Laws.{said_by}
pub use Rattle.live_lines.specs.Live.{Asked, LiveState, asked_of, for_name, operator_told}
pub use Rattle.live_lines.specs.Live.Asked.{NoForm, Operates, Says}
pub use Rattle.operator.specs.OperatorText.{last_id, name_of, outcome_text}
pub use Rattle.script_text.specs.Script.{is_name, named_operator}
pub use Rattle.script_text.specs.declared.operator_line.OperatorLine.TheVariants.{Evict, Put, Step, Take}
pub use Rattle.service_core.specs.Calls.{IsGivenBack, takeable_in}
pub use Rattle.service_core.specs.History.{History, slot_of, state_of, with_here}
pub use Rattle.service_core.specs.Run.{Happens}
pub use Rattle.service_core.specs.Run.Call.{GiveBack}
pub use Rattle.service_core.specs.Service.{AreAlone, ServiceState, journal_of, live_of}
pub use Rattle.sessions.specs.Items.{ends_text, without_cr}
pub use Rattle.sessions.specs.Reading.{TextSoFar, items_to_come}
pub use Rattle.sessions.specs.SessionLines.{line_form}
pub use Rattle.sessions.specs.SessionText.{no_memory_text}
pub use Rattle.sessions.specs.declared.line.LineForm.{LineForm}
pub use Rattle.sessions.specs.declared.line.LineForm.TheVariants.{Asks, Begins}
pub use Rattle.sessions.specs.declared.line.SessionLine.TheVariants.{Blank, Command, Wait}
pub use Rattle.sessions.specs.declared.line.TextKind.TheVariants.{Change}
pub use Rattle.sessions.specs.declared.steps.StepOutcome.TheVariants.{NoMemory}
pub use Rattle.tagged_lines.specs.Tags.{output_of, rest_of, tag_of, with_feed}
pub use Rattle.tenant_slot.specs.SingleUser.{kind_that_runs}
pub use Rattle.tenant_slot.specs.Slot.{next_job}
pub use Rattle.tenant_slot.specs.declared.command.Command.TheVariants.{Cancel, Withdraw}
pub use Rattle.tenant_slot.specs.declared.slot.TheConstants.{MAX_ENTRIES}
