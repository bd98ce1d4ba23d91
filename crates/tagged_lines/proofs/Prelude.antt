-- The names that this crate's proofs use, but for its own lemmas.
pub use Rattle.std.proofs.Common.{Bool, List, None, Option, Some, [], ap, append-nil, append_assoc, arith, codes, cond, drop, eqb, false, get_or, length, map, nat_le, nat_lt, not, refl, rules, suc, sym, take, true, ℕ, ◌&&◌, ◌++◌, ◌+◌, ◌<◌, ◌||◌, ◌∙◌, ◌∷◌, ◌≡◌, ◌≤◌}
pub use Rattle.std.proofs.Math.Seq.{take-append_seam}
pub use Rattle.std.proofs.lemmas.Bool.{eqb-true}
pub use Rattle.std.proofs.lemmas.Bool.Decides.{nat_tests}
pub use Rattle.std.proofs.lemmas.Grind.{flat_map-append}
pub use Rattle.std.proofs.lemmas.List.{take_all}
pub use Rattle.std.proofs.lemmas.List.Folds.{list_all-append}
pub use Rattle.std.proofs.lemmas.List.Quantifiers.{position-Some}
pub use Rattle.std.proofs.lemmas.List.Sums.{split_at_first}
pub use Rattle.std.proofs.lemmas.Slice.Eq.{bytes_eq-Decides}
pub use Rattle.std.specs.List.{after_first, before_first, flat_map, list_all, list_any, onto_first, position_or_len}
pub use Rattle.std.specs.Prelude.{option_map, position}
pub use Rattle.std.specs.Str.{bytes_eq}
pub use Rattle.line_text.proofs.WritingLemmas.{all_none, all_same, all_then, part_first, part_then, writes_part, writes_then}
pub use Rattle.line_text.specs.Lines.{physical_lines}
pub use Rattle.line_text.specs.Writing.{TakesAll, TakesPart}
pub use Rattle.tagged_lines.specs.Tags.{Tagged, answer_told, are_of, have_tags, id_of, is_good_id, is_id_byte, is_of, is_tag, is_whole, output_of, owner_of, rest_of, tag_of, tagged_text, told_in, told_to, with_feed, with_last_feed}
