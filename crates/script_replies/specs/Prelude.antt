-- The names of the crates below that this crate's definitions and contracts use.
pub use Rattle.line_text.specs.Lines.{physical_lines}
pub use Rattle.line_text.specs.Names.{number_of}
pub use Rattle.line_text.specs.Physical.{first_line}
pub use Rattle.line_text.specs.Words.{is_blank}
pub use Rattle.line_text.specs.Writing.{Writes}
pub use Rattle.printed_replies.specs.Files.{file_in}
pub use Rattle.printed_replies.specs.Printing.{asked_in}
pub use Rattle.printed_replies.specs.Replies.{AnsweredLine, AskedLine, Gives, Reading, answered_line, asked_line, names_of, replies_in}
pub use Rattle.printed_replies.specs.declared.asked.ReplyForm.{ReplyForm}
pub use Rattle.printed_replies.specs.declared.asked.ReplyForm.TheVariants.{Admission, Eviction, Line, Lines, Silence, Tenancies}
pub use Rattle.script_text.specs.Script.{is_name, named_act, named_operator, without_blanks}
pub use Rattle.script_text.specs.declared.act.Act.{Act}
pub use Rattle.script_text.specs.declared.act.Act.TheVariants.{Operator, Session}
pub use Rattle.script_text.specs.declared.operator_line.OperatorLine.{OperatorLine}
pub use Rattle.script_text.specs.declared.operator_line.OperatorLine.TheVariants.{Admit, Evict, List, Move, Owners, Put, Step, Take}
pub use Rattle.sessions.specs.Items.{begins_text, ends_text, without_cr}
pub use Rattle.sessions.specs.SessionLines.{line_form}
pub use Rattle.sessions.specs.declared.line.SessionLine.{SessionLine}
pub use Rattle.sessions.specs.declared.line.SessionLine.TheVariants.{Blank, Command, Refused, Wait}
pub use Rattle.tenant_slot.specs.declared.command.Command.TheVariants.{Cancel, Change, Net, Pack, Place, PlaceFile, Route, RouteFile, Status, Upload, Withdraw}
pub use Rattle.text_parts.specs.Parts.{bytes_of_part}
