-- The names of the crates below that this crate's definitions and contracts use.
pub use Rattle.line_feed.specs.Pieces.{kept_of}
pub use Rattle.line_service.specs.Conversation.{AreAnswered}
pub use Rattle.line_text.specs.Lines.{physical_lines}
pub use Rattle.line_text.specs.Names.{has_name, with_name}
pub use Rattle.line_text.specs.Words.{is_blank, texts}
pub use Rattle.line_text.specs.Writing.{Writes}
pub use Rattle.tagged_lines.specs.Tags.{has_id, id_of, is_good_id, owner_of, rest_of, tag_of, with_feed}
