-- The names that this crate's proofs use, but for its own lemmas.
pub use Rattle.std.proofs.Common.{Bool, List, None, Ok, Option, Some, [], ap, append-nil, append_assoc, arith, cond, false, inl, inr, length, map, not, refl, rules, subst, suc, sym, take, true, ℕ, ◌&&◌, ◌++◌, ◌+◌, ◌||◌, ◌∙◌, ◌∷◌, ◌≡◌, ◌⊎◌}
pub use Rattle.std.proofs.KnownBytes.{Appends-nil, Appends-trans, Consumes-kept, Consumes-nil, Consumes-trans, Consumes-whole}
pub use Rattle.std.proofs.lemmas.Grind.{flat_map-append}
pub use Rattle.std.proofs.lemmas.List.Sums.{fold-append}
pub use Rattle.std.specs.Io.KnownBytes.{Appends, Consumes, IsAtEnd, Keeps, prepend_known}
pub use Rattle.std.specs.List.{flat_map, list_all, list_any}
pub use Rattle.std.specs.Str.{bytes_eq}
pub use Rattle.front_lines.specs.Commands.{ClientState, Item, handed, handed_for, item_in, item_of, state_after, state_from}
pub use Rattle.front_lines.specs.Commands.Item.{HandOver, Nothing, Refuse}
pub use Rattle.front_lines.specs.Exchanges.{AreTold, Asks, ends_reply, refusal_text, told_for}
pub use Rattle.front_lines.specs.LinesRead.{HasLine, HasPaused, ReadsOn, to_come}
pub use Rattle.front_lines.specs.Prelude.{IsKept, View, ahead_of, ended_lines, is_one_line, is_tag, is_whole, kept_of, line_of, physical_lines, tag_of, with_feed}
pub use Rattle.front_lines.specs.Serving.{Answers, HasReply, HasSeen, HasServed, HasServedAll, TakesTurn, TellsNothing, TellsPart}
pub use Rattle.front_lines.specs.Speakers.{is_last, own_text, tag_in, told_after, with_marks}
pub use Rattle.front_lines.specs.declared.refusal.Refusal.{Refusal}
pub use Rattle.front_lines.specs.declared.speaker.Speaker.{Speaker}
pub use Rattle.line_feed.specs.Feed.{ReadsAhead}
pub use Rattle.line_feed.specs.Pieces.{TakesPiece}
pub use Rattle.line_service.proofs.LineLemmas.{both_lines, ended_then, lines_push, none_ended, not_false}
pub use Rattle.line_service.proofs.TalkLemmas.{whole_lines}
pub use Rattle.tagged_lines.proofs.TagLemmas.{both, lines, whole}
pub use Rattle.tagged_lines.specs.Tags.{Tagged, are_of, have_tags, output_of}
