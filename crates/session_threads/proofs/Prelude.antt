-- The names that this crate's proofs use, but for its own lemmas.
pub use Rattle.std.proofs.Common.{Bool, Err, List, None, Ok, Option, Some, [], ap, append-nil, append_assoc, arith, cond, false, get_or, length, length-append, length-take, not, refl, rules, set, slice_index_or, subst, sym, take, true, ℕ, ◌&&◌, ◌++◌, ◌+◌, ◌-◌, ◌<◌, ◌==◌, ◌||◌, ◌∙◌, ◌∷◌, ◌≡◌, ◌≢◌, ◌≤◌}
pub use Rattle.std.proofs.lemmas.Bool.{lt-ltb}
pub use Rattle.std.proofs.lemmas.Bool.Decides.{nat_tests}
pub use Rattle.std.proofs.lemmas.Grind.{flat_map-append}
pub use Rattle.std.proofs.lemmas.List.{set-get_or, set-set, take_all, take_more}
pub use Rattle.std.proofs.lemmas.List.Folds.{list_any-append}
pub use Rattle.std.specs.Io.KnownBytes.{Consumes, IsAtEnd, Keeps, prepend_known}
pub use Rattle.std.specs.List.{onto_first}
pub use Rattle.std.specs.Prelude.{IfSome, if◌then◌else◌, option_copied, option_map, slice_get}
pub use Rattle.line_text.proofs.WritingLemmas.{all_none, all_then, part_then}
pub use Rattle.line_text.specs.Words.{is_filled, words_of}
pub use Rattle.service_core.specs.History.{History}
pub use Rattle.service_core.specs.Receipt.{Receipted}
pub use Rattle.service_core.specs.Run.{IsReceipt}
pub use Rattle.session_threads.specs.Inputs.{GivesByte, ReadsLine, is_one_line}
pub use Rattle.session_threads.specs.Lines.{IsHead, IsLine, LineSoFar, has_word}
pub use Rattle.session_threads.specs.Outcomes.{ComesTo, EndsItems, IsOutcome, IsWithin, LineComesTo, LineIsTold, TellsOutcome, is_item}
pub use Rattle.session_threads.specs.Prelude.{AreAlone, Blank, CoreState, Ended, Enters, Failed, GivesItem, ItemAnswer, Note, ReaderFailed, Receipt, Refused, SessionEnd, SessionLine, Status, TakesAll, TextSoFar, TranscriptState, WriterFailed, Writes, ends_text, is_idle_in, item_and, items_of, items_to_come, line_form, live_of, physical_lines, ready_number, transcript_with, with_no_memory, without_cr}
pub use Rattle.session_threads.specs.Told.{AnswersCommand, AnswersItem, AnswersWait, AreTold, IsAtRest, NotesBy, last_place, noted_all, told_text, told_texts}
pub use Rattle.session_threads.specs.Waiting.{found_in}
pub use Rattle.session_threads.specs.WholeSession.{EndsInput, EndsReading, Finishes, FirstAreTold, GoesOn, HaveEnded, KeepsNoneAhead, LastToldOf, Serves, ServesLine, Stops, TellsItem, ToldAtEnd, ToldOf, WholeSession, Wrote}
pub use Rattle.session_threads.specs.declared.items.LineOutcome.{LineOutcome}
pub use Rattle.session_threads.specs.declared.items.LineOutcome.TheVariants.{Item, NoMemory, Nothing}
pub use Rattle.session_threads.specs.declared.items.Within.{Within}
pub use Rattle.session_threads.specs.declared.items.Within.TheVariants.{LostText, Session, Text}
pub use Rattle.session_threads.specs.declared.lines.LineEnd.{LineEnd}
pub use Rattle.session_threads.specs.declared.lines.LineEnd.TheVariants.{Input, LineFeed}
pub use Rattle.session_threads.specs.declared.waiting.Found.{Found}
pub use Rattle.sessions.proofs.ReadingLemmas.{continued}
pub use Rattle.sessions.specs.Items.{begins_text, items_from, kept_part, text_ahead, text_item, with_form, with_item}
pub use Rattle.sessions.specs.SessionLines.{words_form}
pub use Rattle.sessions.specs.declared.line.LineForm.{LineForm}
pub use Rattle.sessions.specs.declared.line.LineForm.TheVariants.{Asks}
pub use Rattle.sessions.specs.declared.refusal.SessionRefusal.TheVariants.{UnknownCommand}
pub use Rattle.shared_core.proofs.Kept.{served_room}
pub use Rattle.shared_core.specs.CoreState.{has_room_in, with_mark}
pub use Rattle.tenant_slot.specs.declared.command.Command.{Command}
pub use Rattle.transcripts.specs.Transcripts.{IsPlaceOf}
