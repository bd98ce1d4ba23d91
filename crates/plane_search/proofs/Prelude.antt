-- The names that this crate's proofs use, but for its own lemmas.
pub use Rattle.std.proofs.Common.{Bool, IfNone, IfSome, List, None, Option, Some, [], add-one, ap, arith, drop, drop-cons, false, get_or, heap_items, inl, inr, length, length-set, map, refl, replicate, reverse, set, subst, suc, sym, take, zero, ℕ, ◌*◌, ◌++◌, ◌+◌, ◌-◌, ◌<◌, ◌^◌, ◌∙◌, ◌∷◌, ◌≡◌, ◌≢◌, ◌≤◌, ◌⊎◌}
pub use Rattle.std.proofs.Math.ListN.{drop_of_length-le}
pub use Rattle.std.proofs.lemmas.Bool.{cases_eq, cases_lt}
pub use Rattle.std.proofs.lemmas.Cmp.{nat_cmp_total, nat_list_cmp_total, on_total, ranked, then_total}
pub use Rattle.std.proofs.lemmas.List.{append_assoc, get_or-map, get_or-set_other, get_or-set_same, get_or_default, length-map, map-append, map-set, nil_from_length, reverse-append}
pub use Rattle.std.proofs.lemmas.List.Elements.{All-append, All-cons, All-contains, All-from_recursion, All-head, All-map, All-nil, All-replicate, All-tail, All-take, Contains-append_cases, Contains-append_left, Contains-append_right, Contains-get_or, Contains-push, Contains-push_cases}
pub use Rattle.std.proofs.lemmas.List.Sorted.{All-permutation, Contains-permutation, IsNonDecreasingBy-from_sort, IsPermutation-append_left, IsPermutation-append_right, IsPermutation-map, IsPermutation-middle, IsPermutation-refl, IsPermutation-swap_remove, IsPermutation-sym, IsPermutation-to_front, IsPermutation-trans, length_permutation}
pub use Rattle.std.proofs.lemmas.List.Sums.{sum_by-cons, sum_by-set}
pub use Rattle.std.specs.BinaryHeap.{IsUpperBound}
pub use Rattle.std.specs.Bool.{MatchBool}
pub use Rattle.std.specs.Cmp.{IsTotalOrder}
pub use Rattle.std.specs.Cmp.Lexicographic.{slice_cmp, slice_partial_cmp}
pub use Rattle.std.specs.List.{All, Contains, sum_by, swap_remove}
pub use Rattle.std.specs.List.Sorted.{IsNonDecreasing, IsNonDecreasingBy, IsPermutation, IsSorted}
pub use Rattle.std.specs.Option.{option_to_list}
pub use Rattle.std.specs.Ordering.{MatchOrdering, is_lt, is_some_and, nat_cmp, ordering_reverse, ordering_then, partial_ordering_then}
pub use Rattle.std.specs.declared.cmp.Ordering.{Ordering}
pub use Rattle.std.specs.declared.cmp.Ordering.TheVariants.{Equal, Greater, Less}
pub use Rattle.plane_search.specs.Best.{AreListed, HasNoneWithin, HoldsNone, HoldsNothingBeyond, Improves, IsLeastIn, IsLeastOn, IsNoLater}
pub use Rattle.plane_search.specs.Heap.{open_of, opens_of, waiting_cmp}
pub use Rattle.plane_search.specs.Planes.{Family, HoldsNothingLess, IsFamily, IsInPlane, IsKnown, IsLeastOfTrack, IsOn, IsPlace, IsPlane, IsPlaneBound, IsRivalBound}
pub use Rattle.plane_search.specs.Prelude.{AreNodes, Graph, HasNoPath, IsLawful, IsLeastPath, IsPath, Leads, Path, TellsLeastPath, cost_of, least_path, path_cmp}
pub use Rattle.plane_search.specs.Ranking.{AreDone, AreRanked, IsUnderWay, tracks_in}
pub use Rattle.plane_search.specs.Reach.{IsBeginning, IsFollowed, IsFollowing, IsKeyed, IsLimit, IsMet, IsOpen, IsReaching, measure_of}
pub use Rattle.plane_search.specs.Starts.{AreStarts, places_of}
pub use Rattle.plane_search.specs.Walk.{AreCells, AreNoCheaper, AreOrderedStarts, AreUnfit, CostsAtLeast, CostsMore, IsBetween, IsLeastFrom, IsNext, IsStop, IsUnfit, IsWalking, after_step, costs_of, places_in, stop_at}
pub use Rattle.plane_search.specs.declared.heap.Waiting.{Waiting}
pub use Rattle.plane_search.specs.declared.marks.Marks.TheInside.{Inside}
pub use Rattle.plane_search.specs.declared.planes.Start.{Start}
pub use Rattle.plane_search.specs.declared.queue.Open.{Open}
pub use Rattle.plane_search.specs.declared.ranking.Ranked.{Ranked}
pub use Rattle.plane_search.specs.declared.walk.Step.{Step}
pub use Rattle.plane_search.specs.declared.walk.Stop.{Stop}
