-- The names that this crate's proofs use, but for its own lemmas.
pub use Rattle.std.proofs.Common.{All, AllPairs, Bool, Err, IfOk, List, MatchResult, None, Ok, Option, Result, Some, [], ap, append_assoc, arith, codes, cond, drop, eq-eqb, false, filter, get_or, if◌then◌else◌, length, length-append, length-drop, map, nat_eq, nat_le, nat_lt, not, refl, rules, slice_get, subst, suc, sym, take, true, zero, ℕ, ◌&&◌, ◌++◌, ◌+◌, ◌-◌, ◌<◌, ◌||◌, ◌∙◌, ◌∷◌, ◌≡◌, ◌≢◌, ◌≤◌}
pub use Rattle.std.proofs.Math.Numerals.{one-add}
unfoldable pub use Rattle.std.proofs.Math.Utf8.{encode}
pub use Rattle.std.proofs.lemmas.Bool.{ltb-false}
pub use Rattle.std.proofs.lemmas.Bool.Decides.{Decides-eqb, nat_tests}
pub use Rattle.std.proofs.lemmas.Grind.{common_steps, flat_map-append, put_two}
pub use Rattle.std.proofs.lemmas.List.{append-nil, drop-append-le, drop_all, drop_at, drop_more, get_or-map, length-map, length-take-le, map-append, map_push, nil_from_length, take-append-drop, take-append-le, take-map, take_all, take_at, take_more}
pub use Rattle.std.proofs.lemmas.List.Elements.{All-append, All-cons, All-filter, All-map, All-nil, All-tail, filter-append}
pub use Rattle.std.proofs.lemmas.List.Folds.{list_all-append, list_any-append, position_or_len_push}
pub use Rattle.std.proofs.lemmas.List.Kept.{AllPairs-cons}
pub use Rattle.std.proofs.lemmas.List.Quantifiers.{all_pairs_push}
pub use Rattle.std.proofs.lemmas.List.Recursion.{and_at}
pub use Rattle.std.proofs.lemmas.List.Sums.{AllPass-from_list_all, fold-append, list_all-from_AllPass, sum_by-append}
pub use Rattle.std.proofs.lemmas.Option.{get_or_from_slice_get}
pub use Rattle.std.proofs.lemmas.Result.{err_from_is_err_and}
pub use Rattle.std.proofs.lemmas.Slice.Eq.{bytes_eq-Decides}
pub use Rattle.std.proofs.lemmas.Str.{encodes-append}
pub use Rattle.std.specs.Borrow.{Bor}
pub use Rattle.std.specs.Fmt.{HasWritten, IsPlainFormatter}
unfoldable pub use Rattle.std.specs.Fmt.{digits}
pub use Rattle.std.specs.List.{AllPass, count_by, enumerate_from, flat_map, list_all, list_any, position_or_len}
pub use Rattle.std.specs.Option.{ForSome, option_map, option_map_or, option_to_list}
pub use Rattle.std.specs.Prelude.{encode_utf8, encode_utf8_all}
pub use Rattle.std.specs.Result.{result_flatten, result_map_both}
pub use Rattle.std.specs.Str.{bytes_eq}
pub use Rattle.blif.specs.BlifFaults.{WordFault, at_words, driven_nets, driver_faults, fault_where, faults_in, is_model, kind_faults, of_line, row_faults, table_faults}
pub use Rattle.blif.specs.CircuitOf.{IsLawfulFor, all_faults, at_line}
unfoldable pub use Rattle.blif.specs.CircuitOf.{circuit_of, circuit_of_lines, declared_in, final_faults, line_faults, undriven_faults}
pub use Rattle.blif.specs.Circuits.{latch_with, latches_in, table_with, tables_in}
unfoldable pub use Rattle.blif.specs.Circuits.{circuit_from}
pub use Rattle.blif.specs.Covers.{is_mixed, is_row}
pub use Rattle.blif.specs.DrivenNets.{DrivenNets}
pub use Rattle.blif.specs.Faults.{fault_of_lines, printed_fault}
pub use Rattle.blif.specs.FirstFaults.{first_fault, first_kind}
pub use Rattle.blif.specs.Keywords.{args_of, last_of}
pub use Rattle.blif.specs.LatchLines.{control_of, is_latch}
pub use Rattle.blif.specs.LawfulCircuits.{IsCircuit, IsLatchDriven, IsLatchWithin, IsNarrow, IsTableWithin, drivers_of, has_net}
pub use Rattle.blif.specs.LineByLine.{Parts, circuit_with, clocks_of, drives_of, lines_to_end, parts_after, sights_after, undeclared_names}
unfoldable pub use Rattle.blif.specs.LineByLine.{parts_of}
pub use Rattle.blif.specs.LineNets.{clocks_in, drives_in, front_of, inputs_in, latch_nets, latch_output, names_in, output_of, outputs_in, reads_in}
pub use Rattle.blif.specs.LookupTables.{AreTablesWithin, LookupTable, table_at}
pub use Rattle.blif.specs.Names.{first_of, has_name, names_with_index, number_of, repeats_from, texts, with_name, with_names}
pub use Rattle.blif.specs.Numbering.{numbers_of}
pub use Rattle.blif.specs.Repeats.{repeats, undriven_names}
pub use Rattle.blif.specs.Sights.{Sights, inputs_of, is_end, kind_of, names_of, outputs_of}
unfoldable pub use Rattle.blif.specs.Sights.{sights_of}
pub use Rattle.blif.specs.Spans.{AreWithin, part_of}
pub use Rattle.blif.specs.declared.circuit.Circuit.{Circuit}
pub use Rattle.blif.specs.declared.circuit.TheConstants.{MAX_NETS}
pub use Rattle.blif.specs.declared.cover.Cover.{Cover}
pub use Rattle.blif.specs.declared.fault.BlifFault.{BlifFault}
pub use Rattle.blif.specs.declared.fault.BlifFaultKind.{BlifFaultKind}
pub use Rattle.blif.specs.declared.fault.BlifFaultKind.TheVariants.{BadCover, BadLatch, MixedCover, NoModel, OverLimit, RepeatedOutput, TooWide, TwoDrivers, Undriven, Unknown}
pub use Rattle.blif.specs.declared.keyword.Keyword.{Keyword}
pub use Rattle.blif.specs.declared.keyword.Keyword.TheVariants.{Clock, Inputs, Latch, Model, Names, Other, Outputs, Row}
pub use Rattle.blif.specs.declared.span.IndexSpan.{IndexSpan}
pub use Rattle.blif.specs.declared.tables.TableSpan.{TableSpan}
pub use Rattle.line_text.proofs.InOrder.{Each, Each-append, Each-weaker, InOrder, InOrder-append, InOrder-map, Precedes, by_number-less, by_number-same, least_in_order, precedes-end, precedes-line, turn_of}
pub use Rattle.line_text.proofs.NameLemmas.{has_name-rest, number_of-first, number_of-later, number_of-within}
pub use Rattle.line_text.proofs.RisingLines.{rises_given}
pub use Rattle.line_text.specs.LeastFault.{Found, by_number, least_fault}
pub use Rattle.line_text.specs.LineOrder.{RisesFrom}
pub use Rattle.line_text.specs.Lines.{JoinedLine, lines_of}
pub use Rattle.line_text.specs.TextErrors.{Fails, Gives, IsToldAs}
pub use Rattle.line_text.specs.Words.{is_filled}
pub use Rattle.line_text.specs.declared.fault.LineFault.{LineFault}
pub use Rattle.line_text.specs.declared.lines.TheConstants.{MAX_TEXT}
pub use Rattle.line_text.specs.declared.text_error.TextError.{TextError}
