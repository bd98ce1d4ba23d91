-- The names that this crate's proofs use, but for its own lemmas.
pub use Rattle.std.proofs.Common.{Bool, Err, List, None, Ok, Option, Some, [], ap, append-nil, arith, eqb, false, get_or, length, length-append, not, refl, replicate, rules, set, subst, suc, sym, take, true, zero, ℕ, ◌++◌, ◌+◌, ◌-◌, ◌<◌, ◌∙◌, ◌∷◌, ◌≡◌, ◌≢◌, ◌≤◌}
pub use Rattle.std.proofs.lemmas.Bool.Decides.{Decides-eqb, nat_tests}
pub use Rattle.std.proofs.lemmas.Grind.{flat_map-append}
pub use Rattle.std.proofs.lemmas.List.{length-replicate, length-set, map-append}
pub use Rattle.std.proofs.lemmas.List.Elements.{All-head, All-push, All-tail}
pub use Rattle.std.proofs.lemmas.List.Quantifiers.{position-Some}
pub use Rattle.std.proofs.lemmas.List.Sorted.{searched}
pub use Rattle.std.proofs.lemmas.List.Sums.{fails_before_first}
pub use Rattle.std.proofs.lemmas.Option.{get_or_from_slice_get, slice_get-get_or, slice_get_past, slice_get_within}
pub use Rattle.std.specs.List.{position_or_len}
pub use Rattle.std.specs.List.Sorted.{IsBinarySearchResult}
pub use Rattle.std.specs.Ordering.{nat_cmp}
pub use Rattle.std.specs.Prelude.{All, IsSome, IsSomeAnd, Result, if◌then◌else◌, is_ok, is_some, map, nat_lt, option_map, slice_get, ◌&&◌, ◌==◌, ◌||◌}
pub use Rattle.std.specs.declared.alloc.AllocError.{AllocError}
pub use Rattle.job_state.specs.Job.{JobState}
pub use Rattle.service_core.proofs.Lists.{All-history_of, history_of-modified, history_of-past, history_of-push, history_of-zero, length-modified}
pub use Rattle.service_core.specs.Calls.{IsPut}
pub use Rattle.service_core.specs.History.{with_entry, with_here}
pub use Rattle.service_core.specs.Kept.{with_entry_of, with_here_of}
pub use Rattle.service_core.specs.Run.{Happens, IsGivenBackTo, IsReceipt, step_entry}
pub use Rattle.service_core.specs.Run.Call.{Admit, Evict, Move, Owners}
pub use Rattle.service_core.specs.Service.{IsAloneOn, admitted_history, live_width, placed_width, with_changed, with_tenancy, without_tenancy}
pub use Rattle.service_core.specs.Tenancy.{closed_history, if_live}
pub use Rattle.service_core.specs.declared.not_served.NotServed.TheVariants.{JournalFull, NoMemory, NoSuchTenancy}
pub use Rattle.service_core.specs.declared.op_refusal.OpRefusal.TheVariants.{BadWidth, IdsSpent, NoRoom, TooManyStrips}
pub use Rattle.shared_core.specs.Accounts.{AreMarks, AreRising, IsAccount, IsRising, entries_of, leases_in, places_sum}
pub use Rattle.shared_core.specs.CoreCalls.{puts_of}
pub use Rattle.shared_core.specs.CoreState.{AreSlotted, CoreState, LeaseState, Marked, SlotTable, can_lease, has_place, has_room_in, holder_of, if_somebody, is_leased, is_live, is_put, marked_of, no_marks, number_of, numbers_after, places_in, places_of, puts_among, puts_in, with_changed_marks, with_lease, with_place}
pub use Rattle.shared_core.specs.Following.{Follows, GoesOn, Stays}
pub use Rattle.shared_core.specs.Prelude.{AreAlone, AreParted, Call, Entry, Full, GiveBack, Gone, History, IsAdmitted, IsEvicted, IsGivenBack, IsMoved, IsServed, IsTaken, JobStep, NotServed, OpRefusal, Put, PutReply, Puts, Receipted, Recorded, Run, ServiceState, Take, Tenant, entries_in, history_of, journal_of, live_of, state_of}
pub use Rattle.shared_core.specs.Reaching.{IsReached, is_of_threads, own_receipt, own_receipts}
pub use Rattle.strips.proofs.Laid.{strip_of-without}
pub use Rattle.strips.specs.Plan.{strip_of, strips_without, with_moved}
pub use Rattle.strips.specs.declared.placed_strip.PlacedStrip.{PlacedStrip}
pub use Rattle.tenant_slot.proofs.Runs.{step-served}
pub use Rattle.tenant_slot.specs.declared.command.Command.{Command}
