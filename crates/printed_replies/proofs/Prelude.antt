-- The names that this crate's proofs use, but for its own lemmas.
pub use Rattle.std.proofs.Common.{Bool, Err, List, None, Ok, Option, Some, [], ap, append_assoc, arith, codes, cond, drop, false, fold, get_or, length, map, not, option_map, position, refl, replicate, rules, set, slice_get, slice_index, slice_index_or, subst, suc, sym, take, true, zero, ℕ, ◌++◌, ◌+◌, ◌-◌, ◌<◌, ◌||◌, ◌∙◌, ◌∷◌, ◌≡◌, ◌≢◌, ◌≤◌}
pub use Rattle.std.proofs.Math.Seq.{drop-append_seam, map-set_same, take-append_seam}
pub use Rattle.std.proofs.lemmas.Bool.{eq-eqb, false≢true}
pub use Rattle.std.proofs.lemmas.Bool.Decides.{Decides-eqb}
pub use Rattle.std.proofs.lemmas.List.{append-nil, drop-set-lt, drop_all, drop_more, get_or-map, length-append, length-drop, length-map, length-take, map-append, map-set, replicate_more, take_more, take_more_set}
pub use Rattle.std.proofs.lemmas.List.Folds.{list_any-append}
pub use Rattle.std.proofs.lemmas.Option.{get_or_from_slice_get, same_Some, slice_get-get_or, slice_get_within}
pub use Rattle.std.proofs.lemmas.Slice.Eq.{bytes_eq-Decides, strip_prefix_is}
pub use Rattle.std.specs.Bool.{⊤}
pub use Rattle.std.specs.Borrow.{Bor}
pub use Rattle.std.specs.List.{position_or_len}
pub use Rattle.std.specs.Prelude.{MatchOption, flat_map, option_and_then}
pub use Rattle.std.specs.Str.{bytes_eq}
pub use Rattle.line_text.specs.Names.{has_name, number_of, with_name}
pub use Rattle.memchr.specs.Find.{IsFirstByte}
pub use Rattle.printed_replies.specs.Lengths.{after_prefix, line_length, lines_length, owners_length, session_length}
pub use Rattle.printed_replies.specs.Parts.{answered_lines, rest_at, speaker_of}
pub use Rattle.printed_replies.specs.Printing.{HasReply, HaveReplies, IsReadBack, IsReply, asked_in, printed_for, section_of, told_to}
pub use Rattle.printed_replies.specs.Replies.{AnsweredLine, AskedLine, Reading, Rest, Speaker, and_then, answered_line, asked_line, heading, is_of, line_read, lines_read, live_after, names_of, read_from, reply_read, rest_of, section_read, sections_read, with_line, with_reply, with_speaker, without_reply}
unfoldable pub use Rattle.printed_replies.specs.Replies.{replies_in}
pub use Rattle.printed_replies.specs.Sections.{AreSections, places_from, places_of, session_places}
pub use Rattle.printed_replies.specs.declared.answered.Answered.{Answered}
pub use Rattle.printed_replies.specs.declared.asked.Asked.{Asked}
pub use Rattle.printed_replies.specs.declared.asked.ReplyForm.TheVariants.{Line, Session, Silence}
