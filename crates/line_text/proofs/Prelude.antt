-- The names that this crate's proofs use, but for its own lemmas.
pub use Rattle.std.proofs.Common.{Bool, Bor, Err, IfErr, IfOk, IsErrAnd, List, None, Ok, OnOk, Option, Result, Some, [], ap, append_assoc, arith, codes, cond, drop, eqb, false, filter, fold, get_or, if◌then◌else◌, length, length-append, length-drop, length-take, map, nat_le, nat_lt, not, option_map, position, refl, rules, slice_get, slice_index, subst, suc, sym, take, true, unwrap_or, zero, ℕ, ◌&&◌, ◌*◌, ◌++◌, ◌+◌, ◌-◌, ◌<◌, ◌^◌, ◌||◌, ◌∙◌, ◌∷◌, ◌≡◌, ◌≤◌}
pub use Rattle.std.proofs.KnownBytes.{Appends-nil, Appends-trans}
pub use Rattle.std.proofs.Math.Nat.{mul-le-mul_right, mul_assoc, mul_comm, pow-le-pow_right, pow-suc}
pub use Rattle.std.proofs.Math.Seq.{take-add, take-append-add}
pub use Rattle.std.proofs.lemmas.Bool.Decides.{nat_tests}
pub use Rattle.std.proofs.lemmas.Grind.{common_steps, flat_map-append}
pub use Rattle.std.proofs.lemmas.List.{append-nil, drop-append-le, drop-drop, drop_all, drop_more, length-map, map-append, map_push, take-append-drop, take-append-le, take_all, take_more, take_rest}
pub use Rattle.std.proofs.lemmas.List.FromFn.{get_or-range_with_len, length-range_with_len}
pub use Rattle.std.proofs.lemmas.List.Sums.{prefix_len-le-length}
pub use Rattle.std.proofs.lemmas.Option.{get_or_from_slice_get, slice_get-get_or, slice_get_within}
pub use Rattle.std.specs.Io.KnownBytes.{Appends, Consumes, Keeps}
pub use Rattle.std.specs.List.{after_first, before_first, cons_option, drop-map, enumerate_from, filter_map, find, flat_map, list_all, list_any, onto_first, position_or_len, range_with_len, slice_split, suffix_len, take-map}
pub use Rattle.std.specs.Option.{option_map_or, option_or}
pub use Rattle.std.specs.Result.{IsErr}
pub use Rattle.std.specs.Str.{bytes_eq}
pub use Rattle.line_text.specs.Decimal.{decimal_of, is_digit, millionths_of, value_of, whole_of, with_digit}
pub use Rattle.line_text.specs.LeastFault.{Found, by_number, least_by, least_fault, precedes}
pub use Rattle.line_text.specs.LineOrder.{RisesFrom}
pub use Rattle.line_text.specs.Lines.{JoinedLine, ends_in_backslash, fault_of, is_continued, is_lawful, is_not_ascii, is_too_long, joined_bytes, joined_line, joined_part, lines_of_runs, physical_lines, runs, trim_end, without_comment, without_last}
unfoldable pub use Rattle.line_text.specs.Lines.{lines_of}
pub use Rattle.line_text.specs.Names.{has_name, number_of, with_name, with_names}
pub use Rattle.line_text.specs.Physical.{IsContent, first_line, is_plain, later_lines}
pub use Rattle.line_text.specs.Reader.{IsReadOn, line_if, open_line, reading_of}
pub use Rattle.line_text.specs.Reading.{OpenLine, Reading, closed_reading, continued_or_ended, line_to_extend, lines_at_end, lines_with, longer_line, reading_after}
pub use Rattle.line_text.specs.Spans.{AreWithin, seen_line, seen_lines}
pub use Rattle.line_text.specs.TextErrors.{Gives}
pub use Rattle.line_text.specs.Words.{is_blank, is_filled, texts, words_of}
pub use Rattle.line_text.specs.Writing.{TakesAll, TakesPart, Writes}
pub use Rattle.line_text.specs.declared.fault.LineFault.{LineFault}
pub use Rattle.line_text.specs.declared.fault.LineFault.TheVariants.{LineTooLong, NotAscii}
pub use Rattle.line_text.specs.declared.lines.Span.{Span}
pub use Rattle.line_text.specs.declared.lines.TheConstants.{MAX_LINE}
pub use Rattle.line_text.specs.declared.source.Failed.{Failed}
pub use Rattle.line_text.specs.declared.text_error.TextError.{TextError}
pub use Rattle.line_text.specs.declared.text_error.TextError.TheVariants.{NoMemory}
pub use Rattle.memchr.specs.Find.{IsFirstByte}
