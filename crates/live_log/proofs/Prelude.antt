-- The names that this crate's proofs use, but for its own lemmas.
pub use Rattle.std.proofs.Common.{Bool, Bor, Err, Global, IfOk, List, None, Ok, OnOk, Option, Result, Some, Vec, [], ap, append-nil, append_assoc, arith, codes, drop, drop_of_length-le, false, get_or, length, map, refl, replicate, reverse, rules, slice_get, subst, suc, sym, take, true, ℕ, ◌++◌, ◌+◌, ◌<◌, ◌∙◌, ◌∷◌, ◌≡◌, ◌≤◌}
pub use Rattle.std.proofs.lemmas.Grind.{common_steps, flat_map-append}
pub use Rattle.std.proofs.lemmas.List.{drop_more, map-append, reverse-append, take_all, take_more}
pub use Rattle.std.proofs.lemmas.List.Elements.{filter_map-append}
pub use Rattle.std.proofs.lemmas.Option.{get_or_from_slice_get, slice_get-get_or, slice_get_within}
pub use Rattle.std.specs.List.{filter_map, flat_map}
pub use Rattle.std.specs.Prelude.{if◌then◌else◌, ◌==◌}
pub use Rattle.line_service.proofs.TalkLemmas.{answered_append}
pub use Rattle.line_text.proofs.WritingLemmas.{all_loop_end, all_none, all_same, all_then, part_first, part_loop, part_same, part_then, writes_part, writes_same, writes_then}
pub use Rattle.line_text.specs.Writing.{TakesAll, TakesPart}
pub use Rattle.live_log.specs.Alike.{AnswerAlike, ServesIf}
pub use Rattle.live_log.specs.Choice.{AreChosen, FitFlags, FitsFlag, FitsMark, IsDecided, NotesLine, decided}
pub use Rattle.live_log.specs.Kept.{kept_lines, last_line, line_if, lines_kept}
pub use Rattle.live_log.specs.LastTags.{last_tags, named_tag, newest, with_tag}
pub use Rattle.live_log.specs.Prelude.{AreAnswered, has_name, kept_of, owner_of, physical_lines, texts, with_feed, with_name}
pub use Rattle.live_log.specs.Questions.{line_of, questions_to, with_speakers, words_asked}
pub use Rattle.live_log.specs.declared.marks.Mark.{Mark}
pub use Rattle.live_log.specs.declared.marks.Mark.TheVariants.{Kept}
