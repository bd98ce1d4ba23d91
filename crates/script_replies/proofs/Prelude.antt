-- The names that this crate's proofs use, but for its own lemmas.
pub use Rattle.std.proofs.Common.{Bool, Bor, List, None, Option, Some, [], ap, append_assoc, arith, codes, cond, drop, false, get_or, length, map, min, not, refl, rules, set, slice_get, subst, suc, sym, take, true, zero, ℕ, ◌&&◌, ◌++◌, ◌+◌, ◌-◌, ◌<◌, ◌^◌, ◌∙◌, ◌∷◌, ◌≡◌, ◌≤◌}
pub use Rattle.std.proofs.lemmas.List.{append-nil, drop-drop, get_or-map, length-append, length-map, length-take, map-append, map-set, set-get_or, take_all, take_more}
pub use Rattle.std.proofs.lemmas.List.Elements.{filter-append, filter_map-append}
pub use Rattle.std.proofs.lemmas.List.Sums.{fold_push, sum_by_push}
pub use Rattle.std.proofs.lemmas.Option.{get_or_from_slice_get, slice_get-get_or, slice_get_within}
pub use Rattle.std.proofs.lemmas.Slice.Zip.{get_or-zip, length-zip}
pub use Rattle.std.specs.List.{after_first, cons_option, filter, filter_map, last_or, sum, zip}
pub use Rattle.std.specs.Option.{option_map_or, unwrap_or}
pub use Rattle.std.specs.Prelude.{flat_map, if◌then◌else◌}
pub use Rattle.std.specs.Str.{bytes_eq}
pub use Rattle.line_text.proofs.WritingLemmas.{all_loop, part_first, part_loop, part_then, writes_part, writes_then}
pub use Rattle.line_text.specs.Writing.{TakesAll}
pub use Rattle.printed_replies.proofs.OnePass.{AreOnce, names_once, one_updated}
pub use Rattle.printed_replies.specs.Replies.{with_reply}
pub use Rattle.printed_replies.specs.declared.answered.Answered.{Answered}
pub use Rattle.script_replies.specs.Accounts.{AreAccountsWithin, NameAccount, account_after, account_now, account_of, name_in, no_account, operator_name, update_named, updated}
pub use Rattle.script_replies.specs.Asking.{asked_of}
pub use Rattle.script_replies.specs.LineReplies.{LineReply, line_replies, line_reply, reply_to}
pub use Rattle.script_replies.specs.Prelude.{Act, Admit, AnsweredLine, Command, Evict, Move, Net, Operator, OperatorLine, Owners, Place, PlaceFile, Put, Session, Step, Take, Withdraw, answered_line, asked_in, asked_line, is_blank, named_act, names_of, number_of, physical_lines}
pub use Rattle.script_replies.specs.Present.{FileState, FileStates, after_act, after_operator, files_after, files_in, no_file}
pub use Rattle.script_replies.specs.ScriptLines.{asked_from, begins_text_by, first_word, is_skipped_by, lines_asked, numbered, rest_after}
pub use Rattle.script_replies.specs.Told.{refused_text, told_text}
pub use Rattle.script_replies.specs.Usage.{IsWithin, Told, admitted_columns, begins_job, is_job, is_own, is_refusal, last_of, steps_asked, told_of, usage_in, usage_of, with_act, with_operator}
pub use Rattle.script_replies.specs.declared.accounts.Account.{Account}
pub use Rattle.script_replies.specs.declared.lines.ScriptLine.{ScriptLine}
pub use Rattle.script_replies.specs.declared.listing.ToldLine.{ToldLine}
pub use Rattle.script_replies.specs.declared.usage.Usage.{Usage}
