-- The names that this crate's proofs use, but for its own lemmas.
pub use Rattle.std.proofs.Common.{All, AllPairs, Bool, Bor, Err, IsTrue, List, MatchOption, None, Ok, OnErr, OnOk, Option, Result, Some, [], ap, append-nil, append_assoc, arith, codes, cond, decimal, drop, false, get_or, inl, inr, length, length-append, length-take, map, nat_eq, nat_lt, not, refl, slice_get, subst, suc, sym, take, true, zero, ℕ, ◌++◌, ◌+◌, ◌-◌, ◌<◌, ◌==◌, ◌^◌, ◌||◌, ◌∙◌, ◌∷◌, ◌≡◌, ◌≢◌, ◌≤◌, ◌⊎◌}
pub use Rattle.std.proofs.lemmas.Bool.{and_from, and_parts, eq-eqb, eqb-true, true≢false}
pub use Rattle.std.proofs.lemmas.Bool.Decides.{Decides-eqb, nat_tests}
pub use Rattle.std.proofs.lemmas.Grind.{flat_map-append}
pub use Rattle.std.proofs.lemmas.List.{append_cancel_right, get_or-take, get_or_default, get_or_past, length-map, map-id, take_all, take_more}
pub use Rattle.std.proofs.lemmas.List.Elements.{All-more}
pub use Rattle.std.proofs.lemmas.List.Folds.{flat_map-map, list_all-append, list_any_none}
pub use Rattle.std.proofs.lemmas.List.FromFn.{get_or-enumerate_from, length-enumerate_from, length-range_with_len}
pub use Rattle.std.proofs.lemmas.List.Quantifiers.{position-Some}
pub use Rattle.std.proofs.lemmas.List.Sums.{count_by-le-length, position_or_len_is}
pub use Rattle.std.proofs.lemmas.Option.{get_or_from_slice_get, slice_get-get_or, slice_get_past, slice_get_within}
pub use Rattle.std.proofs.lemmas.Slice.Eq.{bytes_eq-Decides, strip_prefix_is, strip_suffix_is}
pub use Rattle.std.specs.List.{before_first, enumerate_from, flat_map, list_all, position_or_len, range_with_len}
pub use Rattle.std.specs.Option.{ForSome, is_some, option_map, option_map_or, option_to_list}
pub use Rattle.std.specs.Prelude.{count_by, if◌then◌else◌, nat_le}
pub use Rattle.std.specs.Str.{bytes_eq}
pub use Rattle.implements.proofs.Unique.{count-append}
pub use Rattle.layout_files.specs.Cursors.{IsPlain, IsSame, has_line, is_word_end, left_after, size, without_front}
pub use Rattle.layout_files.specs.Fitting.{AreNumbered, FitsBle, FitsBlock, FitsNet, HasFileNames, HasNumber, IsSmallNode, IsSmallPlace, feed_number, is_cluster}
pub use Rattle.layout_files.specs.LayoutFiles.{EndsAtSink, HasWholePaths, IsBare, is_sink_kind}
pub use Rattle.layout_files.specs.Prelude.{Arch, Ble, Block, Circuit, Cluster, Feed, InputPad, LaidBle, LaidBlock, LaidNet, Layout, Node, NodeKind, OutputPad, Pin, Place, Source, Stops, Strip, TextError, between_lines, ble_line, block_of, bytes_of_part, feed_or_open, feed_word, is_no_digit, kind_word, laid_lines, laid_lines_as, laid_name, line_of, listed_line, net_name, number_word, or_open, place_line, text_of, word_after_space}
pub use Rattle.layout_files.specs.Printing.{cluster_lines, connected_text, global_lines, heading_text, node_lines, place_headings, route_headings}
pub use Rattle.layout_files.specs.Reading.{IsNetRead, place_lines, size_text}
pub use Rattle.layout_files.specs.ReadingFiles.{Given}
pub use Rattle.layout_files.specs.ReadingNets.{IsNumberIn, ble_rest, cluster_text, inputs_text}
pub use Rattle.layout_files.specs.ReadingRoutes.{heading_end, is_listed, name_end, net_rest, nets_text}
pub use Rattle.layout_text.specs.LayoutText.{laid_name_as}
unfoldable pub use Rattle.layout_text.specs.LayoutText.{net_text, place_text, route_text}
pub use Rattle.line_text.proofs.WritingLemmas.{place_at}
pub use Rattle.line_text.specs.Decimal.{decimal_of, is_digit}
pub use Rattle.line_text.specs.Names.{number_of, with_name}
pub use Rattle.strip_files.proofs.Fronts.{before, behind, decimal_is, digits_all, digits_told}
pub use Rattle.text_parts.specs.declared.parts.Part.TheVariants.{Text}
pub use Rattle.vpr_files.proofs.FileTexts.{global_heading_text, local_heading_text, node_text, place_headings_text, route_headings_text}
unfoldable pub use Rattle.vpr_files.specs.NodeText.{node_text_of}
