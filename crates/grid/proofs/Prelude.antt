-- The names that this crate's proofs use, but for its own lemmas.
pub use Rattle.std.proofs.Common.{All, List, Some, [], ap, arith, get_or, length, length-append, length-take-le, refl, slice_get, sym, take, ℕ, ◌%◌, ◌*◌, ◌+◌, ◌-◌, ◌/◌, ◌<◌, ◌∙◌, ◌∷◌, ◌≡◌, ◌≢◌, ◌≤◌}
pub use Rattle.std.proofs.Math.Nat.{mod-lt}
pub use Rattle.std.proofs.lemmas.List.{get_or-append_right, get_or_append_left}
pub use Rattle.std.proofs.lemmas.List.Concat.{get_or-flat_map}
pub use Rattle.std.proofs.lemmas.List.FromFn.{get_or-map-range_with_len, get_or-range_with_len, length-map-range_with_len, length-range_with_len}
pub use Rattle.std.proofs.lemmas.Nat.{div-add-mod', div_below, mul-le}
pub use Rattle.std.proofs.lemmas.Option.{get_or_from_slice_get, slice_get-get_or}
pub use Rattle.std.specs.List.{flat_map, range_with_len}
pub use Rattle.std.specs.Prelude.{AllPairs, Contains}
pub use Rattle.grid.specs.Numbers.{number_in_column, number_of}
pub use Rattle.grid.specs.PlaceLaws.{IsInRow, IsPlaceIn}
pub use Rattle.grid.specs.Places.{column_len, column_of, place_at, place_in}
unfoldable pub use Rattle.grid.specs.Places.{places_of}
pub use Rattle.grid.specs.Sizes.{IsStripSize}
pub use Rattle.grid.specs.declared.Strip.{Strip}
pub use Rattle.grid.specs.declared.place.Kind.{Kind}
pub use Rattle.grid.specs.declared.place.Kind.TheVariants.{Logic, Pad}
pub use Rattle.grid.specs.declared.place.Place.{Place}
