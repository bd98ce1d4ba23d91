-- The names of the crates below that this crate's definitions and contracts use.
pub use Rattle.arch_file.specs.Arch.{IsArch, IsWithin}
pub use Rattle.arch_file.specs.declared.arch.Arch.{Arch}
pub use Rattle.blif.specs.Faults.{net_of}
pub use Rattle.device_book.specs.Owners.{Claims, IsFree, Owners, Releases, extent_of, in_book, owner_of}
pub use Rattle.device_book.specs.declared.book.Extent.{Extent}
pub use Rattle.device_book.specs.declared.book.Owned.{Owned}
pub use Rattle.grid.specs.Sizes.{IsStripSize}
pub use Rattle.grid.specs.declared.Strip.{Strip}
pub use Rattle.grid.specs.declared.TheConstants.{MAX_COLUMNS, MAX_ROWS}
pub use Rattle.job_state.specs.Job.{JobState}
pub use Rattle.job_state.specs.JobValue.{basis_in}
pub use Rattle.job_state.specs.declared.step.JobStep.{JobStep}
pub use Rattle.rr_graph.specs.Resources.{IsEarlier, has, is_there, moved_resource}
pub use Rattle.rr_graph.specs.declared.resource.Resource.{Resource}
pub use Rattle.strips.specs.Plan.{IsFirstFit, IsLaidOut, IsParted, Plan, is_bad_width, offset_of, strip_of, strips_without, with_moved}
pub use Rattle.strips.specs.Windows.{is_on_device}
pub use Rattle.strips.specs.declared.layout.TheConstants.{MAX_STRIPS}
pub use Rattle.strips.specs.declared.placed_strip.PlacedStrip.{PlacedStrip}
pub use Rattle.tenant_slot.specs.Answer.{Answers}
pub use Rattle.tenant_slot.specs.RoutedSet.{routed_set}
pub use Rattle.tenant_slot.specs.SingleUser.{State, replies_to, run, start, state_after, step}
pub use Rattle.tenant_slot.specs.Slot.{GivesBack, IsAdvanceOf, IsOrigin, SlotState, after_event, is_takeable, next_job}
pub use Rattle.tenant_slot.specs.declared.command.Command.{Command}
pub use Rattle.tenant_slot.specs.declared.command.Command.TheVariants.{Change, Upload}
pub use Rattle.tenant_slot.specs.declared.event.Event.{Event}
pub use Rattle.tenant_slot.specs.declared.event.Event.TheVariants.{Advance}
pub use Rattle.tenant_slot.specs.declared.not_served.NotAnswered.{NotAnswered}
pub use Rattle.tenant_slot.specs.declared.not_served.NotAnswered.TheVariants.{JournalFull, NoMemory}
pub use Rattle.tenant_slot.specs.declared.origin.Origin.{Origin}
pub use Rattle.tenant_slot.specs.declared.origin.Origin.TheVariants.{Running, Unknown}
pub use Rattle.tenant_slot.specs.declared.reply.Ending.{Ending}
pub use Rattle.tenant_slot.specs.declared.reply.Ending.TheVariants.{NoPath}
pub use Rattle.tenant_slot.specs.declared.reply.Refusal.{Refusal}
pub use Rattle.tenant_slot.specs.declared.reply.Refusal.TheVariants.{BadBlif}
pub use Rattle.tenant_slot.specs.declared.reply.Reply.{Reply}
pub use Rattle.tenant_slot.specs.declared.reply.Reply.TheVariants.{Accepted, File, Refused, Status, Step}
pub use Rattle.tenant_slot.specs.declared.reply.StepReply.{StepReply}
pub use Rattle.tenant_slot.specs.declared.reply.StepReply.TheVariants.{Advanced, Finished, Stale}
pub use Rattle.tenant_slot.specs.declared.slot.TheConstants.{MAX_ENTRIES}
