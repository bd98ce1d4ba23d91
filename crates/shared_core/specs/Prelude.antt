-- The names of the crates below that this crate's definitions and contracts use.
pub use Rattle.arch_file.specs.declared.arch.Arch.{Arch}
pub use Rattle.job_state.specs.declared.step.JobStep.{JobStep}
pub use Rattle.service_core.specs.Calls.{IsAdmitted, IsEvicted, IsGivenBack, IsMoved, IsServed, IsTaken, Puts, takeable_in}
pub use Rattle.service_core.specs.Headline.{AreParted}
pub use Rattle.service_core.specs.History.{History, state_of}
pub use Rattle.service_core.specs.Kept.{IsDevice}
pub use Rattle.service_core.specs.Receipt.{Receipted}
pub use Rattle.service_core.specs.Run.{Call, Run}
pub use Rattle.service_core.specs.Run.Call.{GiveBack, Put, Take, Tenant}
pub use Rattle.service_core.specs.Service.{AreAlone, ServiceState, empty_service, entries_in, history_of, journal_of, live_of}
pub use Rattle.service_core.specs.declared.entry.Entry.{Entry}
pub use Rattle.service_core.specs.declared.not_served.NotServed.{NotServed}
pub use Rattle.service_core.specs.declared.op_refusal.OpRefusal.{OpRefusal}
pub use Rattle.service_core.specs.declared.put_reply.PutReply.{PutReply}
pub use Rattle.service_core.specs.declared.put_reply.PutReply.TheVariants.{Full, Gone, Recorded}
pub use Rattle.service_core.specs.declared.service.TheConstants.{MAX_ADMISSIONS}
pub use Rattle.strips.specs.Plan.{offset_of}
pub use Rattle.strips.specs.declared.layout.TheConstants.{MAX_STRIPS}
pub use Rattle.tenant_slot.specs.SingleUser.{kind_that_runs}
pub use Rattle.tenant_slot.specs.declared.event.Event.{Event}
pub use Rattle.tenant_slot.specs.declared.event.Event.TheVariants.{Advance, Command}
pub use Rattle.tenant_slot.specs.declared.slot.TheConstants.{MAX_ENTRIES}
