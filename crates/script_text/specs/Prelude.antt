-- The names of the crates below that this crate's definitions and contracts use.
pub use Rattle.line_text.specs.Decimal.{decimal_of}
pub use Rattle.line_text.specs.Lines.{physical_lines}
pub use Rattle.line_text.specs.TextErrors.{Gives}
pub use Rattle.line_text.specs.Words.{is_blank, words_of}
pub use Rattle.line_text.specs.Writing.{Writes}
pub use Rattle.line_text.specs.declared.text_error.TextError.{TextError}
pub use Rattle.line_text.specs.declared.text_error.TextError.TheVariants.{Fault, NoMemory}
pub use Rattle.sessions.specs.Items.{ends_text, kept_part, text_ahead, text_item, without_cr}
pub use Rattle.sessions.specs.SessionLines.{line_form}
pub use Rattle.sessions.specs.declared.line.LineForm.{LineForm}
pub use Rattle.sessions.specs.declared.line.LineForm.TheVariants.{Asks, Begins}
pub use Rattle.sessions.specs.declared.line.SessionLine.{SessionLine}
pub use Rattle.sessions.specs.declared.line.TextKind.{TextKind}
