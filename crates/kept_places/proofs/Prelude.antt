-- The names that this crate's proofs use, but for its own lemmas.
pub use Rattle.std.proofs.Common.{Bool, Err, IfOk, List, None, Ok, Option, Result, Some, T, [], ap, arith, cond, false, get_or, inl, inr, length, length-append, map, refl, rules, slice_get, subst, sym, take, true, ℕ, ◌&&◌, ◌++◌, ◌+◌, ◌-◌, ◌<◌, ◌∙◌, ◌∷◌, ◌≡◌, ◌≤◌, ◌⊎◌}
pub use Rattle.std.proofs.lemmas.Bool.{cases_eq}
pub use Rattle.std.proofs.lemmas.List.{get_or-map, get_or_default, length-map, map_more, map_push, take_all, take_more}
pub use Rattle.std.proofs.lemmas.List.Sorted.{Contains-permutation, IsPermutation-map, IsPermutation-sym}
pub use Rattle.std.proofs.lemmas.Map.Entries.{lookup_at_gap, lookup_from_place}
pub use Rattle.std.proofs.lemmas.Map.Keys.{IsDistinct-IsPermutation, IsDistinct-from_sorted, Less-from_sorted, apart_from_distinct, sorted_from_all_adjacent}
pub use Rattle.std.proofs.lemmas.Map.Views.{Contains-from_lookup, lookup-from_Contains}
pub use Rattle.std.proofs.lemmas.Option.{get_or_from_slice_get, slice_get_within}
pub use Rattle.std.specs.Bool.{IsTrue}
pub use Rattle.std.specs.Cmp.{IsTotalOrder, eq_by_cmp_equiv}
pub use Rattle.std.specs.Cmp.Lexicographic.{on_texts, slice_cmp}
pub use Rattle.std.specs.FinMap.{find, is_sorted, nat_cmp-IsAntisymmetric, put, slice_cmp-IsAntisymmetric}
pub use Rattle.std.specs.FinMap.Entries.{below_all, find-put, is_sorted-put, same_entries}
pub use Rattle.std.specs.List.{AllByRecursion, Contains, IsDistinct}
pub use Rattle.std.specs.List.Sorted.{IsPermutation, IsSorted}
unfoldable pub use Rattle.std.specs.List.Sorted.{IsStrictlySortedBy}
pub use Rattle.std.specs.Map.{keys_of, lookup}
pub use Rattle.std.specs.Ordering.{eq_by_cmp, is_eq, is_lt, nat_cmp, ordering_reverse, ordering_then}
pub use Rattle.std.specs.declared.cmp.Ordering.{Ordering}
pub use Rattle.std.specs.declared.cmp.Ordering.TheVariants.{Equal, Greater, Less}
pub use Rattle.cluster.specs.Keys.{BlockKey, key_order, kind_number}
pub use Rattle.cluster.specs.contracts.block.BlockKeyOrd.TheImpl.{cmp-value}
pub use Rattle.cluster.specs.declared.block.BlockKind.{BlockKind}
pub use Rattle.grid.specs.declared.place.Place.{Place}
pub use Rattle.kept_places.specs.Kept.{KeptPlaces}
unfoldable pub use Rattle.kept_places.specs.Kept.{in_order}
pub use Rattle.kept_places.specs.Rows.{AreNamed, entries_at}
pub use Rattle.kept_places.specs.Table.{entries_of, entry_of, key_of}
pub use Rattle.kept_places.specs.declared.table.KeptPlace.{KeptPlace}
pub use Rattle.kept_places.specs.declared.table.Row.{Row}
pub use Rattle.rows.proofs.Growing.{part_of-added, part_of-append}
