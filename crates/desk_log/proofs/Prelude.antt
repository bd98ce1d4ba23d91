-- The names that this crate's proofs use, but for its own lemmas.
pub use Rattle.std.proofs.Common.{Err, IfOk, List, MatchOption, None, Ok, Option, Result, Some, [], ap, inl, inr, subst, ℕ, ◌∙◌, ◌∷◌, ◌≡◌}
pub use Rattle.desk_log.specs.Prelude.{AnswersLine, CheckedLog, IsSafe, LiveState, begins, device_of, lines_in, state_in}
pub use Rattle.desk_log.specs.Printed.{IsSafeLog}
pub use Rattle.line_service.proofs.AlongLemmas.{answered_along}
pub use Rattle.line_text.specs.Lines.{physical_lines}
pub use Rattle.live_input.specs.declared.lines.LiveLines.{LiveLines}
pub use Rattle.live_log.specs.Alike.{AnswerAlike, ServesAlike}
pub use Rattle.live_log.specs.Questions.{questions_after}
