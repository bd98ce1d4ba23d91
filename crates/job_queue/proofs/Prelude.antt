-- The names that this crate's proofs use, but for its own lemmas.
pub use Rattle.std.proofs.Common.{List, Option, Some, [], ap, arith, drop, get_or, inl, inr, length, min, refl, rules, set, subst, suc, sym, take, zero, ℕ, ⊎_elim, ◌++◌, ◌+◌, ◌<◌, ◌∙◌, ◌∷◌, ◌≡◌, ◌≢◌, ◌≤◌}
pub use Rattle.std.proofs.lemmas.Bool.Decides.{nat_tests}
pub use Rattle.std.proofs.lemmas.List.{drop-set, drop_more, length-map, set-get_or, take-append-drop, take-set, take_all}
pub use Rattle.std.proofs.lemmas.List.Elements.{All-map, All-more, All-pop}
pub use Rattle.std.proofs.lemmas.Option.{get_or_from_slice_get, none-some, same_Some, slice_get-get_or, slice_get-map, slice_get_within}
pub use Rattle.std.specs.Prelude.{All, IfSome, MatchOption, map, option_to_list, slice_get, vec_len, ◌⊎◌}
pub use Rattle.crossbeam_deque.specs.Tasks.{Admits, Finds, FindsFew, Pushes, Takes}
pub use Rattle.job_queue.specs.Balance.{ArePopped, Balanced, Kept, Ruled, WasEmpty, WasPushed, log, pops_of, pushes_of, times, with_pops, with_pushes}
pub use Rattle.job_queue.specs.Seats.{AreEmpty, AreNewSeats, AreUnused, DequeHeld, IsAlone, IsPoppedFrom, IsStolen, IsTaken, ReadyId, SeatHeld, unused_deque}
pub use Rattle.job_queue.specs.declared.rule.PassLog.{PassLog}
pub use lib.ListN.{get_elem?}
pub use mathlib.Core.Option.{some, some-injective, some-ne-none}
