-- The names that this crate's proofs use, but for its own lemmas.
pub use Rattle.std.proofs.Common.{Bool, Err, List, None, Ok, Option, Result, Some, [], add-one, ap, arith, codes, cond, count_by, drop, eq-eqb, eqb, false, filter, get_or, is_some, length, lit<, map, nat_le, nat_lt, not, option_map, refl, set, slice_get, slice_index_or, subst, suc, sym, take, true, zero, ℕ, ◌%◌, ◌&&◌, ◌*◌, ◌++◌, ◌+◌, ◌<◌, ◌==◌, ◌||◌, ◌∙◌, ◌∷◌, ◌≡◌, ◌≤◌}
pub use Rattle.std.proofs.Math.Bool.{or-false}
pub use Rattle.std.proofs.Math.Seq.{drop-cons}
pub use Rattle.std.proofs.lemmas.Bool.{and_parts, eqb-true, ltb-true}
pub use Rattle.std.proofs.lemmas.Bool.Decides.{nat_tests, same_from_decides}
pub use Rattle.std.proofs.lemmas.Fmt.{decimal_digit}
pub use Rattle.std.proofs.lemmas.List.{append-nil, drop-map, get_or-set_other, get_or-set_same, length-drop, length-map, length-set, take_more}
pub use Rattle.std.proofs.lemmas.List.Elements.{All-push, filter_map-append}
pub use Rattle.std.proofs.lemmas.List.Recursion.{and_push, or_push}
pub use Rattle.std.proofs.lemmas.List.Sums.{sum_by-cons, sum_by_push}
pub use Rattle.std.proofs.lemmas.Option.{get_or_from_slice_get, slice_get_within}
pub use Rattle.std.proofs.lemmas.Slice.Eq.{bytes_eq-Decides, slice_eq-Decides}
pub use Rattle.std.specs.Bool.{Decides}
pub use Rattle.std.specs.Borrow.{Bor}
pub use Rattle.std.specs.Cmp.{booleans_Decides}
pub use Rattle.std.specs.List.{cons_option, find, list_all}
pub use Rattle.std.specs.Option.{option_eq, option_map_or, option_or, option_to_list}
pub use Rattle.std.specs.Prelude.{nat_eq}
pub use Rattle.std.specs.Str.{bytes_eq}
pub use Rattle.arch_file.specs.Arch.{IsArch, IsWithin, arch_from, arch_of_lines, input_count, is_output_class, output_count}
unfoldable pub use Rattle.arch_file.specs.Arch.{arch_of}
pub use Rattle.arch_file.specs.ArchFaults.{begins_with, decimal_at, end_faults, faults_after, faults_of, first_word_faults, found_at, has_its_pins, is_fractional, keyword_faults, pin_after, pin_of_words, pins_of, stands, words_at}
pub use Rattle.arch_file.specs.Draft.{AddsPin, Ends, Follows, FollowsLines, IsLimited, Reads, ReadsAll, ReadsKeyword, Sets, error_at, found_with}
pub use Rattle.arch_file.specs.FaultLists.{comes_before, only_if, word_of}
pub use Rattle.arch_file.specs.Faults.{number_of, printed_fault}
pub use Rattle.arch_file.specs.FcTypes.{is_fractional_type}
pub use Rattle.arch_file.specs.PinLine.{are_distinct, has, is_side_word}
unfoldable pub use Rattle.arch_file.specs.PinLine.{pin_in, pin_line_faults}
pub use Rattle.arch_file.specs.Pins.{clock_count, has_side, is_clock_class, is_input_class}
pub use Rattle.arch_file.specs.Ranks.{rank_of}
pub use Rattle.arch_file.specs.Readings.{least_kind}
pub use Rattle.arch_file.specs.Segment.{are_ones, is_one, values_under}
unfoldable pub use Rattle.arch_file.specs.Segment.{segment_faults}
pub use Rattle.arch_file.specs.SideWords.{Shows}
pub use Rattle.arch_file.specs.Values.{decimal_faults, decimal_from, decimal_in, is_fc_type, is_fractional_from, is_subset, one, one_faults, reach, whole_faults, whole_from, whole_in, width_faults, word_faults}
unfoldable pub use Rattle.arch_file.specs.Values.{value_faults}
pub use Rattle.arch_file.specs.Words.{is_pin_keyword, only_word, required_keywords, same_keyword, text_of, texts}
unfoldable pub use Rattle.arch_file.specs.Words.{is_unread, keyword_of}
pub use Rattle.arch_file.specs.declared.arch.Arch.{Arch}
pub use Rattle.arch_file.specs.declared.arch.Pin.{Pin}
pub use Rattle.arch_file.specs.declared.arch.PinClass.{PinClass}
pub use Rattle.arch_file.specs.declared.arch.PinClass.TheVariants.{Clock, Input, Output}
pub use Rattle.arch_file.specs.declared.arch.Sides.{Sides}
pub use Rattle.arch_file.specs.declared.draft.Draft.{Draft}
pub use Rattle.arch_file.specs.declared.fault.ArchFault.{ArchFault}
pub use Rattle.arch_file.specs.declared.fault.ArchFaultKind.{ArchFaultKind}
pub use Rattle.arch_file.specs.declared.fault.ArchFaultKind.TheVariants.{BadClass, BadNumber, BadSide, Missing, NotProfile, OverLimit, Repeated, Unknown}
pub use Rattle.arch_file.specs.declared.fault.ArchKeyword.{ArchKeyword}
pub use Rattle.arch_file.specs.declared.fault.ArchKeyword.TheVariants.{ChanWidthIo, ChanWidthX, ChanWidthY, FcInput, FcOutput, FcPad, FcType, Inpin, IoRat, Outpin, Segment, SubblockLutSize, SubblocksPerClb, SwitchBlockType}
pub use Rattle.arch_file.specs.declared.pin_line.SideWords.{SideWords}
pub use Rattle.line_text.proofs.InOrder.{Each, Each-append, Each-weaker, InOrder, InOrder-append, InOrder-filter, InOrder-map, Precedes, by_number-same, first_of, least_before, least_by_in_order, least_map, precedes-end, precedes-line, turn_of}
pub use Rattle.line_text.proofs.RisingLines.{rises_lower}
pub use Rattle.line_text.specs.Decimal.{millionths_of}
pub use Rattle.line_text.specs.LeastFault.{Found, least_by, least_fault, precedes}
pub use Rattle.line_text.specs.LineOrder.{RisesFrom}
pub use Rattle.line_text.specs.Lines.{JoinedLine, lines_of, with_first}
pub use Rattle.line_text.specs.declared.lines.TheConstants.{MAX_TEXT}
pub use Rattle.line_text.specs.declared.text_error.TextError.{TextError}
pub use Rattle.line_text.specs.declared.text_error.TextError.TheVariants.{Fault, NoMemory}
