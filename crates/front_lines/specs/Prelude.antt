-- The names of the crates below that this crate's definitions and contracts use.
pub use Rattle.dialogue.specs.History.{View}
pub use Rattle.dialogue.specs.declared.dialogue.FailedDevice.{FailedDevice}
pub use Rattle.line_feed.specs.Feed.{ahead_of, line_of}
pub use Rattle.line_feed.specs.Pieces.{IsKept, is_one_line, kept_of}
pub use Rattle.line_feed.specs.declared.feed.LineFeed.{LineFeed}
pub use Rattle.line_service.specs.Conversation.{ended_lines}
pub use Rattle.line_text.specs.Lines.{physical_lines}
pub use Rattle.line_text.specs.Words.{words_of}
pub use Rattle.line_text.specs.Writing.{Writes}
pub use Rattle.tagged_lines.specs.Tags.{is_tag, is_whole, rest_of, tag_of, tagged_text, with_feed}
