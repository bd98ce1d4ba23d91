-- The names of the crates below that this crate's definitions and contracts use.
pub use Rattle.blif.specs.Faults.{net_of, number_of}
pub use Rattle.job_state.specs.Job.{JobState}
pub use Rattle.job_state.specs.JobValue.{basis_in}
pub use Rattle.job_state.specs.declared.step.JobStep.{JobStep}
pub use Rattle.line_text.specs.Decimal.{decimal_of}
pub use Rattle.line_text.specs.Lines.{physical_lines}
pub use Rattle.line_text.specs.Words.{words_of}
pub use Rattle.line_text.specs.Writing.{Writes}
pub use Rattle.rr_graph.specs.Graph.{Basis}
pub use Rattle.service_core.specs.Calls.{IsNextStep, IsOriginIn, IsTaken, takeable_in}
pub use Rattle.service_core.specs.Kept.{IsDevice}
pub use Rattle.service_core.specs.OwnEvents.{own_events}
pub use Rattle.service_core.specs.Receipt.{Receipted}
pub use Rattle.service_core.specs.Run.{Call, Happens, Run}
pub use Rattle.service_core.specs.Run.Call.{Admit, Evict, GiveBack, Put, Take, Tenant}
pub use Rattle.service_core.specs.Service.{ServiceState, empty_service, live_of, live_width, strip_on}
pub use Rattle.service_core.specs.declared.device.Device.{Device}
pub use Rattle.service_core.specs.declared.not_served.NotServed.{NotServed}
pub use Rattle.service_core.specs.declared.not_served.NotServed.TheVariants.{JournalFull, NoMemory, NoSuchTenancy}
pub use Rattle.service_core.specs.declared.not_served.NoteCause.{NoteCause}
pub use Rattle.service_core.specs.declared.put_reply.PutReply.{PutReply}
pub use Rattle.service_core.specs.declared.put_reply.PutReply.TheVariants.{Full, Gone, Recorded}
pub use Rattle.strips.specs.Plan.{offset_of}
pub use Rattle.strips.specs.Windows.{device_strip, is_on_device}
pub use Rattle.tenant_slot.specs.Names.{file_text, refusal_number, refusal_text, state_text}
pub use Rattle.tenant_slot.specs.SingleUser.{State, replies_to, start, state_after, step}
pub use Rattle.tenant_slot.specs.declared.command.Command.{Command}
pub use Rattle.tenant_slot.specs.declared.command.Command.TheVariants.{Cancel, Change, Net, Pack, Place, PlaceFile, Route, RouteFile, Status, Upload, Withdraw}
pub use Rattle.tenant_slot.specs.declared.event.Event.{Event}
pub use Rattle.tenant_slot.specs.declared.event.Event.TheVariants.{Advance}
pub use Rattle.tenant_slot.specs.declared.reply.Ending.{Ending}
pub use Rattle.tenant_slot.specs.declared.reply.Ending.TheVariants.{GaveUp, NoPath}
pub use Rattle.tenant_slot.specs.declared.reply.Misfit.TheVariants.{Blocks, Pads}
pub use Rattle.tenant_slot.specs.declared.reply.Refusal.{Refusal}
pub use Rattle.tenant_slot.specs.declared.reply.Refusal.TheVariants.{BadBlif, BadEffort, CannotPack, DoesNotFit, WrongState}
pub use Rattle.tenant_slot.specs.declared.reply.Reply.{Reply}
pub use Rattle.tenant_slot.specs.declared.reply.Reply.TheVariants.{Accepted, File, Refused, Step}
pub use Rattle.tenant_slot.specs.declared.reply.StepReply.{StepReply}
pub use Rattle.tenant_slot.specs.declared.reply.StepReply.TheVariants.{Advanced, Finished, Stale}
