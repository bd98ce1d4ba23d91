-- The names that this crate's proofs use, but for its own lemmas.
pub use Rattle.std.proofs.Common.{Bool, Err, IfOk, List, None, Ok, Option, Result, Some, [], ap, arith, eqb, false, not, refl, subst, sym, true, ℕ, ◌++◌, ◌+◌, ◌-◌, ◌<◌, ◌∙◌, ◌∷◌, ◌≡◌, ◌≢◌}
pub use Rattle.std.proofs.lemmas.Bool.Decides.{nat_tests}
pub use Rattle.std.specs.Option.{option_map_or}
pub use Rattle.std.specs.Prelude.{IfErr, IfSome, if◌then◌else◌, is_some, nat_lt, option_map, ◌&&◌}
pub use Rattle.blif.specs.declared.fault.BlifFaultKind.TheVariants.{TooWide}
pub use Rattle.job_state.specs.Job.{next_step}
pub use Rattle.tenant_slot.specs.Answer.{Answers, IsAnswerTo, Outcome, slot_after, state_with}
pub use Rattle.tenant_slot.specs.Content.{CanFinish, HasContent, IsMadeOf, IsNetlist, name_at_rest, netlist_in, text_of}
pub use Rattle.tenant_slot.specs.JobNames.{state_before, state_during}
pub use Rattle.tenant_slot.specs.Outcomes.{job_begun, load_outcome, pack_outcome, place_outcome}
pub use Rattle.tenant_slot.specs.Prelude.{Arch, AreKeptOn, BlifFault, Circuit, JobKind, JobState, JobStep, KeptPlaces, Placing, Sources, Strip, circuit_of, fit_of, has, is_last, is_over, net_text_of, packed_of, packing_sources, placing_sources, resources_of, unfit_of}
pub use Rattle.tenant_slot.specs.RoutedSet.{held_in}
unfoldable pub use Rattle.tenant_slot.specs.RoutedSet.{routed_set}
pub use Rattle.tenant_slot.specs.SingleUser.{State, advance, after_reply, answer_to, at_rest, go_on, is_lawful, is_next, kind_that_runs, misfit_of, next_generation, pack_unless, place, place_unless, replies_to, routed_unless, run, serve, sources_of, start, state_after, state_at_end, step, with_circuit, with_kept_places, with_netlist}
pub use Rattle.tenant_slot.specs.Slot.{GivesBack, IsAdvanceOf, IsOrigin, SlotState, after_event, is_takeable, next_job, running_sources}
pub use Rattle.tenant_slot.specs.Standing.{IsChange, IsSlot, accepted_in, here_of, name_of, put_in, put_reply, ready_of, ready_with, seen_state, slot_state, without_ready}
pub use Rattle.tenant_slot.specs.declared.command.Command.{Command}
pub use Rattle.tenant_slot.specs.declared.command.Command.TheVariants.{Cancel, Change, Net, Pack, Place, PlaceFile, Route, RouteFile, Status, Upload, Withdraw}
pub use Rattle.tenant_slot.specs.declared.content.Content.{Content}
pub use Rattle.tenant_slot.specs.declared.content.Content.TheVariants.{Empty, Packed, Placed, Routed, Unrouted}
pub use Rattle.tenant_slot.specs.declared.content.Netlist.{Netlist}
pub use Rattle.tenant_slot.specs.declared.event.Advance.{Advance}
pub use Rattle.tenant_slot.specs.declared.event.Event.{Event}
pub use Rattle.tenant_slot.specs.declared.failure.RoutingFailure.TheVariants.{GaveUp}
pub use Rattle.tenant_slot.specs.declared.not_served.NotAnswered.{NotAnswered}
pub use Rattle.tenant_slot.specs.declared.not_served.NotAnswered.TheVariants.{NoMemory}
pub use Rattle.tenant_slot.specs.declared.origin.Origin.{Origin}
pub use Rattle.tenant_slot.specs.declared.reply.Misfit.{Misfit}
pub use Rattle.tenant_slot.specs.declared.reply.Misfit.TheVariants.{Blocks}
pub use Rattle.tenant_slot.specs.declared.reply.Refusal.TheVariants.{BadBlif, BadEffort, CannotPack, DoesNotFit, WrongState}
pub use Rattle.tenant_slot.specs.declared.reply.Reply.{Reply}
pub use Rattle.tenant_slot.specs.declared.reply.Reply.TheVariants.{Accepted, File, Refused, Step}
pub use Rattle.tenant_slot.specs.declared.reply.StateName.{StateName}
pub use Rattle.tenant_slot.specs.declared.reply.StateName.TheVariants.{Loaded, Packing, Routing}
pub use Rattle.tenant_slot.specs.declared.reply.StepReply.TheVariants.{Advanced, Finished, Stale}
pub use Rattle.tenant_slot.specs.declared.standing.Running.{Running}
pub use Rattle.tenant_slot.specs.declared.standing.Standing.{Standing}
