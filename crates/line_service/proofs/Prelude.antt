-- The names that this crate's proofs use, but for its own lemmas.
pub use Rattle.std.proofs.Common.{Bool, Err, List, Option, Some, [], ap, append-nil, append_assoc, arith, codes, cond, drop, eqb, false, inl, inr, length, length-append, not, refl, rules, subst, suc, sym, take, true, zero, ℕ, ◌&&◌, ◌++◌, ◌+◌, ◌<◌, ◌^◌, ◌∙◌, ◌∷◌, ◌≡◌, ◌⊎◌}
pub use Rattle.std.proofs.KnownBytes.{Appends-nil, Appends-trans, Consumes-kept, Consumes-nil, Consumes-trans}
pub use Rattle.std.proofs.Math.Seq.{take-append_seam, take-nil}
pub use Rattle.std.proofs.lemmas.Grind.{flat_map-append}
pub use Rattle.std.proofs.lemmas.List.{take-append-drop, take-append-le, take_all}
pub use Rattle.std.proofs.lemmas.Option.{slice_get_within}
pub use Rattle.std.specs.Io.KnownBytes.{Consumes, IsAtEnd}
pub use Rattle.std.specs.List.{flat_map, list_all, slice_get}
pub use Rattle.std.specs.Prelude.{IfSome}
pub use Rattle.dialogue.specs.History.{Event, Follows, Happens, View, bytes_kept, bytes_told, kept_in, told_in}
pub use Rattle.dialogue.specs.History.Event.{Kept, Told}
pub use Rattle.dialogue.specs.declared.dialogue.FailedDevice.{FailedDevice}
pub use Rattle.line_feed.specs.Feed.{FailsToRead, ReadsAhead, ahead_of, line_of}
pub use Rattle.line_feed.specs.Pieces.{IsKept, TakesPiece, is_one_line}
unfoldable pub use Rattle.line_feed.specs.Pieces.{kept_of}
pub use Rattle.line_service.specs.Conversation.{AreAnswered, AtEachMoment, AtEachRead, EndsAs, IsBacked, IsCaughtUp, IsConversation, ended_lines, onto_line}
pub use Rattle.line_service.specs.Turn.{Answers, AnswersPart, IsTurn}
pub use Rattle.line_service.specs.declared.conversation.ConversationEnd.{ConversationEnd}
pub use Rattle.line_service.specs.declared.conversation.ConversationEnd.TheVariants.{Done, NoMemory, Stopped, TooManyLines}
pub use Rattle.tagged_lines.proofs.TagLemmas.{both}
pub use Rattle.tagged_lines.specs.Tags.{with_feed}
