-- The names of the crates below that this crate's definitions and contracts use.
pub use Rattle.arch_file.specs.Arch.{IsArch, arch_of}
pub use Rattle.arch_file.specs.declared.arch.Arch.{Arch}
pub use Rattle.arch_file.specs.declared.arch.TheConstants.{MAX_TRACKS}
pub use Rattle.dialogue.specs.History.{Event, Fails, Happens, View, kept_in, told_in}
pub use Rattle.dialogue.specs.History.Event.{Told}
pub use Rattle.dialogue.specs.declared.dialogue.FailedDevice.TheVariants.{Log}
pub use Rattle.grid.specs.declared.TheConstants.{MAX_COLUMNS, MAX_ROWS}
pub use Rattle.line_feed.specs.Feed.{ahead_of, line_of}
pub use Rattle.line_feed.specs.Pieces.{IsKept}
pub use Rattle.line_service.specs.Conversation.{AreAnswered, IsConversation, ended_lines}
pub use Rattle.line_service.specs.declared.conversation.ConversationEnd.{ConversationEnd}
pub use Rattle.line_service.specs.declared.conversation.ConversationEnd.TheVariants.{Done, NoMemory, Stopped, TooManyLines}
pub use Rattle.line_text.specs.Writing.{Writes}
pub use Rattle.line_text.specs.declared.source.ReadError.{ReadError}
pub use Rattle.line_text.specs.declared.source.ReadError.TheVariants.{Failed}
pub use Rattle.live_input.specs.Serving.{AnswersLine, ClosesTexts, begins, is_ready, kept_lines, state_in}
pub use Rattle.live_lines.specs.Live.{LiveState}
pub use Rattle.option_words.specs.Values.{is_given, number_of, text_of}
pub use Rattle.option_words.specs.declared.given.Given.{Given}
pub use Rattle.service_core.specs.Kept.{IsDevice}
pub use Rattle.service_core.specs.declared.device.Device.{Device}
pub use Rattle.tagged_lines.specs.Tags.{rest_of, tag_of, with_feed}
