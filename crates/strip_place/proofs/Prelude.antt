-- The names that this crate's proofs use, but for its own lemmas.
pub use Rattle.std.proofs.Common.{All, Bool, Err, IfOk, List, None, Ok, Option, Result, Some, [], add-one, ap, arith, cond, drop, eq-eqb, eqb, false, filter, find, get_or, get_or-set_other, get_or-set_same, inl, inr, length, length-append, length-set, map, nat_eq, not, refl, rules, set, slice_get, subst, suc, sym, take, true, vec_len, zero, ℕ, ◌%◌, ◌&&◌, ◌*◌, ◌++◌, ◌+◌, ◌-◌, ◌/◌, ◌<◌, ◌^◌, ◌||◌, ◌∙◌, ◌∷◌, ◌≡◌, ◌≢◌, ◌≤◌, ◌⊎◌}
pub use Rattle.std.proofs.Math.Nat.{div-mul-le_self, le_of_mul-le-mul_right, lt-div-mul-add, lt_of_mul-lt-mul_right, mul-le-mul_right}
pub use Rattle.std.proofs.Math.Pow.{pow_mono}
pub use Rattle.std.proofs.lemmas.Bool.{cases_eq, cases_lt, cases_order, eqb-true, ne_eqb}
pub use Rattle.std.proofs.lemmas.Bool.Decides.{nat_tests}
pub use Rattle.std.proofs.lemmas.List.{append-nil, append_assoc, drop-append-le, drop_all, drop_at, drop_more, ext_get_or, get_or-append_right, get_or-map, get_or_append_left, get_or_default, get_or_push, get_or_read, length-drop, length-map, length_push, map-append, map_more, map_push, take-append-le, take_all, take_more}
pub use Rattle.std.proofs.lemmas.List.Elements.{All-append, All-cons, All-filter, All-head, All-map, All-nil, All-tail, Contains-get_or, filter-append, filter_more}
pub use Rattle.std.proofs.lemmas.List.Folds.{list_any-append}
pub use Rattle.std.proofs.lemmas.List.FromFn.{get_or-map-range_with_len, length-map-range_with_len}
pub use Rattle.std.proofs.lemmas.List.Sums.{count_by-le-length, length-filter, prefix_len-drop_all, prefix_len-drop_no, prefix_len-drop_yes, sum_by-cons, sum_by-set, sum_by_more}
pub use Rattle.std.proofs.lemmas.Map.Keys.{IsDistinct-from_apart}
pub use Rattle.std.proofs.lemmas.Nat.{leading_length}
pub use Rattle.std.proofs.lemmas.Option.{get_or_from_slice_get, slice_get-get_or, slice_get-map, slice_get_within}
pub use Rattle.std.proofs.lemmas.Slice.Zip.{get_or-zip}
pub use Rattle.std.specs.Int.{div_ceil}
pub use Rattle.std.specs.Int.Count.{count_leading_zeros}
pub use Rattle.std.specs.List.{IsDistinct, flat_map, position_or_len, range_with_len, zip}
pub use Rattle.std.specs.Option.{is_none, option_to_list}
pub use Rattle.std.specs.Ordering.{eq_by_cmp}
pub use Rattle.std.specs.Prelude.{AllPairs, Contains, count_by, max, min, nat_le, option_and_then, option_map, sum_by, unwrap_or}
pub use Rattle.block_places.specs.Fits.{is_for, is_same_kind}
unfoldable pub use Rattle.block_places.specs.Fits.{fit_of}
pub use Rattle.block_places.specs.Placed.{block_at}
pub use Rattle.cluster.specs.Keys.{key_of, key_order}
pub use Rattle.cluster.specs.PackingLaws.{IsBlockNet, IsLawfulPacking}
pub use Rattle.cluster.specs.declared.block.Block.{Block}
pub use Rattle.cluster.specs.declared.block.Block.TheVariants.{Cluster, InputPad, OutputPad}
pub use Rattle.grid.proofs.Columns.{length-places_of}
pub use Rattle.grid.specs.PlaceLaws.{IsInRow, IsPlaceIn}
unfoldable pub use Rattle.grid.specs.Places.{places_of}
pub use Rattle.kept_places.proofs.Entries.{find-in_order, tied}
pub use Rattle.kept_places.specs.Table.{entries_of, entry_of}
pub use Rattle.kept_places.specs.declared.table.KeptPlace.{KeptPlace}
pub use Rattle.rows.specs.ByKey.{items_with}
pub use Rattle.strip_place.specs.Anneal.{PlacingUnderWay, draw_of, is_past_last, one_more, places_by_block}
unfoldable pub use Rattle.strip_place.specs.Anneal.{after_words, placed_after, temperature_at}
pub use Rattle.strip_place.specs.Boards.{Board, IsBoard, IsLawfulBoard, allowance, drawn_block, has_place, places_on, spot_of, spots_of}
pub use Rattle.strip_place.specs.Boxes.{AreBothRenewed, AreBoxes, AreFewOf, AreRenewed, AreTouchedBy, CanRenew, IsAmong, IsBox, IsBoxBy, IsDeep, IsFollowed, IsRenewed, at_column, at_row, box_at, boxed_length, columns_at, half_after, half_of, length_after, near_of, no_box, reach_of, reached_length, rest, rows_at, with_block}
pub use Rattle.strip_place.specs.Extents.{HasCome, HasMoved, IsNear, IsReach, count_at, mirrored_counts}
pub use Rattle.strip_place.specs.Keeping.{AreKeptOn, kind_for}
pub use Rattle.strip_place.specs.KeptSites.{kept_sites_of, site_of}
pub use Rattle.strip_place.specs.Lists.{AreCopied, AreSmall, row_at, rows_of}
pub use Rattle.strip_place.specs.Nets.{AreNets, AreTouched, blocks_on, net_at, pairs_from, placed_nets, times_on}
unfoldable pub use Rattle.strip_place.specs.Nets.{touching_of}
pub use Rattle.strip_place.specs.Pass.{Draw, after_move, drawn_place, greatest_of, half_perimeter, is_kept, place_after, spread}
unfoldable pub use Rattle.strip_place.specs.Pass.{after_draw, cost_of, pass_of}
pub use Rattle.strip_place.specs.Points.{Point}
pub use Rattle.strip_place.specs.Prelude.{ArePlaced, BlockKey, BlockKind, BlockNet, Fits, IsStripSize, KeptPlaces, Keyed, Kind, Lcg, Logic, PackedCircuit, Pad, Place, Strip, block_nets, blocks_of, in_order, is_same_place, kept_place, keys_of, kind_of, pairs_with, pcg32, place_at, place_of, places_in_order}
pub use Rattle.strip_place.specs.Seating.{AreApart, AreOccupants, Seating, exchanged_site}
pub use Rattle.strip_place.specs.Sides.{sides_of, sum_of}
pub use Rattle.strip_place.specs.Sites.{AreDistinct, AreOneToOne, IsSiteFor, drawn_for, first_site, is_among, kept_sites, least_free, seated_behind, site_count, site_for, site_place}
unfoldable pub use Rattle.strip_place.specs.Sites.{sites_of, start_of}
pub use Rattle.strip_place.specs.Start.{kept_by_block, placed_behind, places_at_start}
unfoldable pub use Rattle.strip_place.specs.Start.{placed_first}
pub use Rattle.strip_place.specs.Starting.{AreKeptSites, HaveRoom, logic_in, pads_in}
pub use Rattle.strip_place.specs.Task.{Task}
unfoldable pub use Rattle.strip_place.specs.Task.{task_of}
pub use Rattle.strip_place.specs.UnderWay.{IsUnderWay, draws_of, generator_of}
pub use Rattle.strip_place.specs.Vacancies.{Vacancies, all_free, first_from, lowest_vacant, mark_at, marks_with, without_lowest}
pub use Rattle.strip_place.specs.Wiring.{IsOnNone, IsWired, Wiring, length_of, no_point, point_at, points_after, wiring_after}
pub use Rattle.strip_place.specs.declared.net_box.NetBox.{NetBox}
pub use Rattle.strip_place.specs.declared.sides.Sides.{Sides}
