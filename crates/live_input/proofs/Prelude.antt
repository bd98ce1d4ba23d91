-- The names that this crate's proofs use, but for its own lemmas.
pub use Rattle.std.proofs.Common.{Bool, List, None, Option, Some, [], ap, append-nil, append_assoc, codes, cond, drop, eqb, false, map, not, refl, subst, suc, sym, take, true, zero, ℕ, ◌&&◌, ◌++◌, ◌+◌, ◌∙◌, ◌∷◌, ◌≡◌}
pub use Rattle.std.proofs.lemmas.Grind.{flat_map-append}
pub use Rattle.std.specs.Io.KnownBytes.{Appends}
pub use Rattle.std.specs.List.{flat_map, list_all, onto_first, position_or_len}
pub use Rattle.line_feed.specs.Pieces.{is_one_line}
unfoldable pub use Rattle.line_feed.specs.Pieces.{kept_of}
pub use Rattle.line_service.proofs.AlongLemmas.{conversation_along}
pub use Rattle.line_service.proofs.TalkLemmas.{answered_append}
pub use Rattle.line_service.specs.Conversation.{AreAnswered, ended_lines, onto_line}
pub use Rattle.line_text.specs.Lines.{physical_lines}
pub use Rattle.live_input.specs.Serving.{AnswersLine, AreTaken, kept_input, kept_lines, state_in}
pub use Rattle.live_input.specs.declared.lines.LiveLines.{LiveLines}
pub use Rattle.live_lines.specs.Laws.{said_by}
pub use Rattle.live_lines.specs.Live.{LiveState}
pub use Rattle.sessions.specs.Items.{items_from, items_of}
pub use Rattle.sessions.specs.Reading.{items_to_come}
pub use Rattle.tagged_lines.proofs.TagLemmas.{both, is_line, line_then}
pub use Rattle.tagged_lines.specs.Tags.{Tagged, is_of, output_of, rest_of, tag_of, tagged_text, told_to, with_feed}
