-- The names that this crate's proofs use, but for its own lemmas.
pub use Rattle.std.proofs.Common.{Bool, List, Some, [], ap, arith, count_by, false, subst, sym, take, true, ℕ, ◌+◌, ◌<◌, ◌∙◌, ◌∷◌, ◌≡◌, ◌≤◌}
pub use Rattle.std.proofs.lemmas.List.Sums.{count_by_more_no, count_by_more_yes}
pub use Rattle.std.proofs.lemmas.Option.{get_or_from_slice_get, slice_get_within}
pub use Rattle.std.specs.List.{concat, flat_map, range_with_len, slice_get}
pub use Rattle.std.specs.Prelude.{codes, decimal}
pub use Rattle.blif.specs.LookupTables.{LookupTable}
pub use Rattle.circuit_use.specs.Counts.{has_inputs}
pub use Rattle.circuit_use.specs.Lacking.{lacking_line}
pub use Rattle.circuit_use.specs.Text.{inputs_word}
pub use Rattle.line_text.proofs.WritingLemmas.{all_loop, all_range_end, part_first, part_loop, part_then, place_at, writes_part, writes_then}
pub use Rattle.line_text.specs.Writing.{TakesAll, Writes}
