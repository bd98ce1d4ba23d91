-- The names that this crate's proofs use, but for its own lemmas.
pub use Rattle.std.proofs.Common.{Bool, Err, List, None, Ok, Option, Some, [], ap, append-nil, append_assoc, arith, cond, false, get_or, if◌then◌else◌, inr, length, length-append, map, refl, rules, subst, suc, sym, take, true, ℕ, ◌++◌, ◌+◌, ◌<◌, ◌∙◌, ◌∷◌, ◌≡◌, ◌≢◌, ◌≤◌}
pub use Rattle.std.proofs.KnownBytes.{Appends-nil, Appends-trans, Consumes-nil, Consumes-trans}
pub use Rattle.std.proofs.Math.Seq.{take-length, take-suc}
pub use Rattle.std.proofs.lemmas.Bool.{ne_eqb}
pub use Rattle.std.proofs.lemmas.Bool.Decides.{nat_tests}
pub use Rattle.std.proofs.lemmas.Grind.{flat_map-append}
pub use Rattle.std.proofs.lemmas.List.{length-take-le, map-append, take-append-drop}
pub use Rattle.std.proofs.lemmas.List.Sums.{fold-append}
pub use Rattle.std.specs.Borrow.{Bor}
pub use Rattle.std.specs.Io.KnownBytes.{Consumes, IsAtEnd, Keeps}
pub use Rattle.std.specs.List.{concat, flat_map, list_all}
pub use Rattle.std.specs.Prelude.{IfSome, Result, codes, decimal, is_err, is_some, ⊤, ◌==◌}
pub use Rattle.dialogue.specs.History.{Follows, Writes, bytes_kept, bytes_told}
pub use Rattle.dialogue.specs.declared.dialogue.FailedDevice.{FailedDevice}
pub use Rattle.line_feed.proofs.CutLemmas.{kept_none}
pub use Rattle.line_feed.specs.Feed.{ReadsAhead, Refills}
pub use Rattle.line_feed.specs.Pieces.{TakesPiece, is_one_line, kept_of}
pub use Rattle.line_service.proofs.AlongLemmas.{conversation_along}
pub use Rattle.line_service.proofs.LineLemmas.{both_lines, ended_then, lines_push, none_ended}
pub use Rattle.line_service.proofs.TalkLemmas.{answered_push, progress_none, split_line}
pub use Rattle.line_text.proofs.WritingLemmas.{part_first, part_then, writes_part, writes_then}
pub use Rattle.live_run.specs.Commands.{RunsLine}
pub use Rattle.live_run.specs.Headings.{memory_words}
pub use Rattle.live_run.specs.Outcomes.{outcome_of}
pub use Rattle.live_run.specs.Prelude.{AnswersLine, AreAnswered, ConversationEnd, Event, Fails, Happens, IsConversation, IsKept, LiveState, Told, View, ahead_of, ended_lines, is_ready, line_of, state_in, with_feed}
pub use Rattle.live_run.specs.Retelling.{EndsRetelling, IsResumed, IsRetold, Retells, RetellsLine, StopsRetelling, TellsPart, TellsReply, is_told, text_told}
pub use Rattle.live_run.specs.Runs.{ClosesAs, Runs, RunsFrom, Talks, past_of}
pub use Rattle.live_run.specs.Sums.{ChecksLines, ChecksLog, TakesNext, differs, first_differing, lines_sum, no_lines, sum_after, with_line}
pub use Rattle.live_run.specs.WholePart.{whole_bytes}
pub use Rattle.live_run.specs.declared.differing.LogDifference.TheVariants.{Changed, NoLog, Others}
pub use Rattle.live_run.specs.declared.options.CommandLine.{CommandLine}
pub use Rattle.live_run.specs.declared.outcome.Outcome.{Outcome}
pub use Rattle.live_run.specs.declared.outcome.Outcome.TheVariants.{ArchRefused, ArchUnreadable, Done, LogDiffers, LogInUse, LogIsStream, LogUnreadable, NoMemory, Stopped, TooManyLines}
pub use Rattle.live_run.specs.declared.sums.LogSum.{LogSum}
