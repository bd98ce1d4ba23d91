-- The names that this crate's proofs use, but for its own lemmas.
pub use Rattle.std.proofs.Common.{Bool, List, None, Option, Some, [], ap, append-nil, append_assoc, arith, codes, drop, fold, inl, inr, length, map, max, min, option_map, refl, rules, subst, sym, take, tests, ℕ, ◌++◌, ◌+◌, ◌-◌, ◌<◌, ◌==◌, ◌^◌, ◌∙◌, ◌∷◌, ◌≡◌, ◌≤◌}
pub use Rattle.std.proofs.lemmas.Iterator.{YieldsList-from_slice}
pub use Rattle.std.proofs.lemmas.Iterator.Search.{find_from_yields_List}
pub use Rattle.std.proofs.lemmas.List.{drop_more, map_more, take-append-drop, take_all, take_more}
pub use Rattle.std.proofs.lemmas.Option.{get_or_from_slice_get, slice_get-get_or, slice_get_within}
pub use Rattle.std.specs.List.{AllZip, flat_map, range_with_len, slice_get, sum_by}
pub use Rattle.std.specs.Prelude.{find}
pub use Rattle.desk_circuits.specs.EachText.{IsEmptyOr, ShowsEach}
pub use Rattle.desk_circuits.specs.Fields.{doubled_quote, known_field, number_field}
pub use Rattle.desk_circuits.specs.Json.{circuit_members, count_members, line_members, longest_json, loop_json, name_json, table_json, usage_members}
pub use Rattle.desk_circuits.specs.Measured.{ShowsLongest}
pub use Rattle.desk_circuits.specs.PathLines.{counted_tables, known_loop, longest_line, longest_text, loop_table, loop_text, path_in, table_text, wires_part}
pub use Rattle.desk_circuits.specs.PathWires.{AreStops, ShowsStops, ShowsStopsOn, wires_to_end, wires_to_table}
pub use Rattle.desk_circuits.specs.Prelude.{Circuit, Json, Latch, Longest, LongestPath, Loop, NameAccount, NoPath, Path, Writes, account_now, json_tokens, list_of, stop_text}
pub use Rattle.desk_circuits.specs.Strips.{StripFiles, files_of_texts}
pub use Rattle.desk_circuits.specs.Usages.{AreFactsOf, IsFactsOf, ShowsUsage, usage_headings, usage_text}
pub use Rattle.desk_circuits.specs.declared.loop_line.TheConstants.{MAX_SHOWN}
pub use Rattle.desk_circuits.specs.declared.usages.NameFacts.{NameFacts}
pub use Rattle.json_text.proofs.Tokens.{list_written, members_more, object_written, ok_then, one_member, one_more}
pub use Rattle.line_text.proofs.WritingLemmas.{all_loop, all_range_end, all_then, part_first, part_loop, part_then, place_at, writes_part, writes_then}
pub use Rattle.line_text.specs.Writing.{TakesAll, TakesPart}
pub use Rattle.script_replies.specs.declared.accounts.Account.{Account}
