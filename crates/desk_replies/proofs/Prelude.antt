-- The names that this crate's proofs use, but for its own lemmas.
pub use Rattle.std.proofs.Common.{Bool, Err, IfOk, IfSome, List, MatchResult, None, Ok, Option, Result, Some, [], add-one, ap, append-nil, append_assoc, arith, codes, drop, false, get_or, if◌then◌else◌, inl, inr, length, map, min, not, option_map, refl, slice_index_or, subst, sym, take, true, ℕ, ◌++◌, ◌+◌, ◌<◌, ◌==◌, ◌∙◌, ◌∷◌, ◌≡◌, ◌≤◌}
pub use Rattle.std.proofs.Math.Seq.{drop-cons}
pub use Rattle.std.proofs.lemmas.Bool.{cases_lt, false≢true}
pub use Rattle.std.proofs.lemmas.Grind.{flat_map-append}
pub use Rattle.std.proofs.lemmas.List.{at_drop_all, get_or-map, length-map, map-append, take_all, take_more}
pub use Rattle.std.proofs.lemmas.List.Folds.{flat_map-map}
pub use Rattle.std.proofs.lemmas.List.FromFn.{map-range_with_len_more}
pub use Rattle.std.proofs.lemmas.Option.{get_or_from_slice_get, same_Some, slice_get-get_or, slice_get_cases, slice_get_past, slice_get_within}
pub use Rattle.std.proofs.lemmas.Result.{IfOk-weaker, on_ok_weaker}
pub use Rattle.std.proofs.lemmas.Str.{IsUtf8-from_is_utf8, is_utf8-from_IsUtf8}
pub use Rattle.std.specs.Borrow.{Bor}
pub use Rattle.std.specs.Io.KnownBytes.{Appends}
pub use Rattle.std.specs.List.{AllZip, flat_map, range_with_len, slice_get}
pub use Rattle.std.specs.Option.{option_map_or}
pub use Rattle.std.specs.Prelude.{is_some, ◌-◌, ◌^◌}
pub use Rattle.std.specs.Result.{OnOk, is_ok, result_or}
pub use Rattle.std.specs.Str.{IsUtf8, is_utf8}
pub use Rattle.desk_circuits.proofs.Shown.{IsShown, each_of, shown_more, shown_part}
pub use Rattle.desk_circuits.proofs.Zipped.{zip_more}
pub use Rattle.desk_circuits.specs.EachText.{IsEmptyOr}
pub use Rattle.desk_common.proofs.Added.{added_none, added_then}
pub use Rattle.desk_replies.specs.Lines.{AreLines}
pub use Rattle.desk_replies.specs.Moves.{AreJoined, AreJoining, AreMoves, gaps_text, move_line, room_line, strips_of}
pub use Rattle.desk_replies.specs.Overused.{IsCrowded, IsCrowdingFor, IsOveruse, IsOveruseBy, IsOveruseIf, IsOveruseOf, IsOveruseOn, IsPlanOf, changed_text, is_placed}
pub use Rattle.desk_replies.specs.Paged.{AreAround, AreItemsOf, AreLinesOf, AreTexts, IsItem, IsItemIf, IsPage, IsPageShown, device_text, file_item, file_items, line_of, script_items, sink_text, text_items}
pub use Rattle.desk_replies.specs.Paths.{AreFactsOf, IsFactOf, IsOfAccount, ShowsPath, ShowsPaths, account_of, path_headings, path_text, told_accounts}
pub use Rattle.desk_replies.specs.Pictured.{IsTextEnd}
pub use Rattle.desk_replies.specs.Prelude.{Act, Admit, AnsweredLine, AreAdded, CrowdedNode, Crowding, DevicePlan, Evict, IsBeginning, IsCrowdingWith, Json, NameAccount, NamedBytes, Outcome, PlacedStrip, Report, Request, ShowsEach, ShowsPresentStops, TakesAll, TenancyUse, ToldLine, Viewer, Writes, account_now, accounts_of, answered_line, asked_in, channel_json, circuit_members, element_text, gaps_of, json_tokens, list_of, named_act, names_of, number_of, physical_lines, report_text, session_places, states_of, told_text}
pub use Rattle.desk_replies.specs.ReportJson.{device_members, list_members, net_json, node_json, node_members, overuse_json, strip_members, tenancy_json, use_json, use_members, widest_json}
pub use Rattle.desk_replies.specs.Reported.{ArePathsShown}
pub use Rattle.desk_replies.specs.Saved.{files_of_name, if_present, line_at, lines_at, replies_by_number, replies_file}
pub use Rattle.desk_replies.specs.States.{LastStates, StateAfter, is_unrouted, last_states, listed_state, operator_states, session_states, state_after, states_from, states_in}
pub use Rattle.desk_replies.specs.Tables.{row_text}
pub use Rattle.desk_replies.specs.Wishes.{Wish, wish_after, wish_from, wish_now}
pub use Rattle.desk_replies.specs.Written.{AreTextsOf, WritesSome}
pub use Rattle.desk_replies.specs.declared.lines.Lines.{Lines}
pub use Rattle.desk_replies.specs.declared.page_texts.PageTexts.{PageTexts}
pub use Rattle.desk_replies.specs.declared.page_tool.PageWishes.{PageWishes}
pub use Rattle.desk_replies.specs.declared.report_facts.TenancyFacts.{TenancyFacts}
pub use Rattle.desk_replies.specs.declared.shared_device.SharedDevice.{SharedDevice}
pub use Rattle.device_report.specs.declared.channels.ChannelDirection.TheVariants.{Across}
pub use Rattle.device_report.specs.declared.channels.ChannelUse.{ChannelUse}
pub use Rattle.json_text.proofs.Tokens.{list_written, members_more, object_written, ok_then, one_member, one_more}
pub use Rattle.line_text.proofs.WritingLemmas.{all_loop, all_none, all_same, all_then, part_first, part_loop, part_same, part_then, writes_part, writes_same, writes_then}
pub use Rattle.line_text.specs.Writing.{TakesPart}
pub use Rattle.line_text.specs.declared.source.Failed.{Failed}
pub use Rattle.printed_replies.specs.declared.answered.Answered.{Answered}
