-- The names that this crate's proofs use, but for its own lemmas.
pub use Rattle.std.proofs.Common.{All, Bool, Err, IfOk, List, None, Ok, Option, Result, Some, [], ap, arith, codes, cond, drop, false, get_or, length, map, nat_lt, option_map, refl, rules, set, slice_get, subst, suc, sym, take, tests, true, zero, ℕ, ◌++◌, ◌+◌, ◌-◌, ◌<◌, ◌==◌, ◌||◌, ◌∙◌, ◌∷◌, ◌≡◌, ◌≢◌, ◌≤◌}
pub use Rattle.std.proofs.lemmas.Bool.Decides.{nat_tests}
pub use Rattle.std.proofs.lemmas.Grind.{drop_more_same}
pub use Rattle.std.proofs.lemmas.Iterator.{YieldsList-from_slice}
pub use Rattle.std.proofs.lemmas.Iterator.Search.{find_from_yields_List}
pub use Rattle.std.proofs.lemmas.List.{drop-set-lt, drop_all, drop_more, ext_get_or, get_or-drop, get_or-map, get_or_default, length-map, map_more, take_all, take_more_set}
pub use Rattle.std.proofs.lemmas.List.Elements.{All-cons, All-head, All-nil, All-push, All-tail, Contains-append_left, Contains-append_right, Contains-push}
pub use Rattle.std.proofs.lemmas.List.FromFn.{get_or-range_with_len, length-range_with_len}
pub use Rattle.std.proofs.lemmas.List.Quantifiers.{all_pairs_push, position-Some}
pub use Rattle.std.proofs.lemmas.List.Sums.{position_or_len_is}
pub use Rattle.std.proofs.lemmas.Map.Keys.{IsDistinct-from_apart}
pub use Rattle.std.proofs.lemmas.Map.Made.{keys_of-zip}
pub use Rattle.std.proofs.lemmas.Option.{get_or_from_slice_get, slice_get-get_or, slice_get_within}
pub use Rattle.std.specs.Borrow.{Bor}
pub use Rattle.std.specs.List.{IsDistinct, flat_map, position_or_len, range_with_len, zip}
pub use Rattle.std.specs.Option.{option_copied, option_to_list}
pub use Rattle.std.specs.Ordering.{eq_by_cmp}
pub use Rattle.std.specs.Prelude.{AllPairs, Contains, find, option_and_then, position}
pub use Rattle.cluster.specs.Keys.{key_of, key_order}
pub use Rattle.cluster.specs.declared.block.Block.{Block}
pub use Rattle.cluster.specs.declared.block.Block.TheVariants.{Cluster}
pub use Rattle.grid.specs.Places.{column_of, place_at}
unfoldable pub use Rattle.grid.specs.Places.{places_of}
pub use Rattle.grid.specs.declared.place.Kind.{Kind}
pub use Rattle.grid.specs.declared.place.Kind.TheVariants.{Logic}
pub use Rattle.kept_places.proofs.Entries.{find-in_order, tied}
pub use Rattle.kept_places.proofs.Orders.{key_total}
pub use Rattle.kept_places.specs.Kept.{KeptPlaces, kept_place}
pub use Rattle.kept_places.specs.Table.{entries_of}
pub use Rattle.kept_places.specs.declared.table.KeptPlace.{KeptPlace}
pub use Rattle.pinned_places.specs.Exchanges.{with_pad}
unfoldable pub use Rattle.pinned_places.specs.Exchanges.{with_pads}
pub use Rattle.pinned_places.specs.Pads.{is_named_by, is_pad_named, is_pad_place, pad_by, pad_number, pad_of, pads_of, then_pads}
unfoldable pub use Rattle.pinned_places.specs.Pads.{pads_after}
pub use Rattle.pinned_places.specs.Prelude.{ArePlaced, BlockKey, InputPad, IsStripSize, OutputPad, PackedCircuit, Pad, Pin, Place, PlacingUnderWay, Strip, block_at, blocks_of, in_order, is_same_place, keys_of, kind_of, pin_read, pins_read, place_after, place_of, places_by_block}
pub use Rattle.pinned_places.specs.Results.{ArePads, HasPin, IsPinned}
pub use Rattle.pinned_places.specs.declared.fault.PinFault.{PinFault}
pub use Rattle.pinned_places.specs.declared.fault.PinFaultKind.TheVariants.{NamedBefore, NoPad, NoPlace, TakenBefore}
pub use Rattle.pinned_places.specs.declared.pads.FixedPad.{FixedPad}
pub use Rattle.strip_place.proofs.Keeping.{gathered, gathered_all, kept_exact, placed_kept}
pub use Rattle.strip_place.proofs.KeptSites.{is_itself, same_parts, told_apart}
unfoldable pub use Rattle.strip_place.specs.Anneal.{placed_after}
pub use Rattle.strip_place.specs.Keeping.{AreKeptOn, kind_for}
pub use Rattle.strip_place.specs.Start.{kept_by_block, place_for, placed_behind, places_at_start}
unfoldable pub use Rattle.strip_place.specs.Start.{placed_first}
unfoldable pub use Rattle.strip_place.specs.Task.{task_of}
