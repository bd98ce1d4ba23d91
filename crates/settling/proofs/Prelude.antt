-- The names that this crate's proofs use, but for its own lemmas.
pub use Rattle.std.proofs.Common.{Bool, Bor, Err, List, None, Ok, Option, Some, [], ap, arith, drop, eqb, false, get_or, length, length-append, refl, rules, subst, suc, sym, take, true, zero, ℕ, ◌++◌, ◌+◌, ◌-◌, ◌<◌, ◌∙◌, ◌∷◌, ◌≡◌, ◌≢◌, ◌≤◌}
pub use Rattle.std.proofs.Math.Seq.{take-length}
pub use Rattle.std.proofs.lemmas.Bool.Decides.{Decides-eqb, nat_tests}
pub use Rattle.std.proofs.lemmas.List.Elements.{All-append, All-cons, All-head, All-more, All-nil, All-push, All-tail, filter_map-append}
pub use Rattle.std.proofs.lemmas.List.Kept.{AllPairs-cons}
pub use Rattle.std.proofs.lemmas.Option.{get_or_from_slice_get, slice_get-get_or, slice_get_within}
pub use Rattle.std.specs.Prelude.{All, AllPairs, IsSomeAnd, MatchBool, if◌then◌else◌, is_some, map, nat_lt, not, option_copied, option_map, slice_get, ◌&&◌, ◌||◌}
pub use Rattle.service_core.proofs.Lists.{All-history_of, history_of-modified}
pub use Rattle.service_core.specs.Calls.{IsServed}
pub use Rattle.service_core.specs.History.{History}
pub use Rattle.service_core.specs.Receipt.{Receipted}
pub use Rattle.service_core.specs.Run.{Call, Happens, Run}
pub use Rattle.service_core.specs.Run.Call.{Admit, Evict, GiveBack, Move, Owners, Put, Take, Tenant}
pub use Rattle.service_core.specs.Service.{AreAlone, IsAloneOn, ServiceState, entries_in, history_of, journal_of}
pub use Rattle.service_core.specs.declared.entry.Entry.{Entry}
pub use Rattle.settling.specs.Settling.{AreAllCalls, AreAllThere, AreMarkedEntries, Claim, IsBorneOut, IsFirstBad, IsFullIfTold, IsSettled, TellsFull, claims_from, claims_in, claims_of, entry_of, has_id, puts_counted, receipts_in}
pub use Rattle.shared_core.proofs.Marks.{marked_of-past, marked_of-remarked, marked_of-zero}
pub use Rattle.shared_core.proofs.Reaching.{IsOfThreads, run_goes_on}
pub use Rattle.shared_core.specs.Accounts.{AreMarks, IsRising, leases_in, places_sum}
pub use Rattle.shared_core.specs.CoreState.{CoreState, Marked, ShareState, given_in, has_place, is_leased, marked_of, places_of, puts_in, with_changed_marks}
pub use Rattle.shared_core.specs.Following.{Follows, GoesOn}
pub use Rattle.shared_core.specs.Reaching.{IsReached, is_of_threads, own_receipt, own_receipts}
pub use Rattle.tenant_slot.specs.declared.command.Command.{Command}
pub use Rattle.tenant_slot.specs.declared.reply.Reply.{Reply}
pub use Rattle.transcripts.specs.Transcripts.{TranscriptState, receipt_in, receipts_of}
pub use Rattle.transcripts.specs.declared.item.Item.{Item}
pub use Rattle.transcripts.specs.declared.item.ItemAnswer.{ItemAnswer}
pub use Rattle.transcripts.specs.declared.item.ItemAnswer.TheVariants.{Receipt}
