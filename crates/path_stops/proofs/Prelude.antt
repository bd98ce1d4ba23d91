-- The names that this crate's proofs use, but for its own lemmas.
pub use Rattle.std.proofs.Common.{List, None, Some, [], ap, eqb, filter, length, map, option_map, rules, subst, sym, take, tests, zero-add, ℕ, ◌++◌, ◌+◌, ◌==◌, ◌∙◌, ◌∷◌, ◌≡◌}
pub use Rattle.std.proofs.lemmas.Iterator.{YieldsList-from_slice}
pub use Rattle.std.proofs.lemmas.Iterator.Search.{find_from_yields_List}
pub use Rattle.std.proofs.lemmas.List.{take_more}
pub use Rattle.std.proofs.lemmas.List.FromFn.{map-range_with_len_more}
pub use Rattle.std.proofs.lemmas.Option.{slice_get-get_or}
pub use Rattle.std.specs.List.{AllZip, flat_map, range_with_len}
pub use Rattle.std.specs.Prelude.{find}
pub use Rattle.line_text.proofs.WritingLemmas.{part_first, part_loop, part_then, writes_part, writes_then}
pub use Rattle.line_text.specs.Writing.{TakesAll}
pub use Rattle.path_stops.specs.Measured.{IsMeasured}
pub use Rattle.path_stops.specs.Prelude.{Latch, Writes}
pub use Rattle.path_stops.specs.Stops.{latch_stop, stop_at}
pub use Rattle.path_stops.specs.Text.{stop_text, text_by, way_line}
pub use Rattle.path_stops.specs.declared.measured.MeasuredStop.{MeasuredStop}
pub use Rattle.path_stops.specs.declared.stops.PathStop.{PathStop}
