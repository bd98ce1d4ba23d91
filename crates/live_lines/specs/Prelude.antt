-- The names of the crates below that this crate's definitions and contracts use.
pub use Rattle.line_text.specs.Lines.{physical_lines}
pub use Rattle.line_text.specs.Names.{number_of}
pub use Rattle.line_text.specs.Words.{is_blank}
pub use Rattle.operator.specs.Held.{sink_text}
pub use Rattle.operator.specs.HeldJobs.{give_backs}
pub use Rattle.operator.specs.OperatorText.{last_id}
pub use Rattle.operator.specs.Serving.{HasOwnGraph, IsServed, Stage}
pub use Rattle.script_text.specs.Script.{Acts, is_name, named_act, named_operator, script_of}
pub use Rattle.script_text.specs.declared.act.Act.{Act}
pub use Rattle.script_text.specs.declared.act.Act.TheVariants.{Operator, Session}
pub use Rattle.script_text.specs.declared.operator_line.OperatorLine.{OperatorLine}
pub use Rattle.script_text.specs.declared.operator_line.OperatorLine.TheVariants.{List, Step}
pub use Rattle.service_core.specs.Calls.{IsGivenBack, IsTaken}
pub use Rattle.service_core.specs.History.{History}
pub use Rattle.service_core.specs.Run.{Call, Run}
pub use Rattle.service_core.specs.Service.{ServiceState, live_of}
pub use Rattle.service_core.specs.Texts.{CountAs}
pub use Rattle.service_core.specs.declared.service.TheConstants.{MAX_ADMISSIONS}
pub use Rattle.sessions.specs.Reading.{GivesItem, TextSoFar, items_to_come}
pub use Rattle.sessions.specs.SessionAnswer.{Asks, LeavesNone}
pub use Rattle.sessions.specs.SessionText.{answer_text, blank_word, session_refusal_text}
pub use Rattle.sessions.specs.declared.line.SessionLine.{SessionLine}
pub use Rattle.sessions.specs.declared.line.SessionLine.TheVariants.{Refused}
pub use Rattle.sessions.specs.declared.refusal.SessionRefusal.TheVariants.{UnfinishedUpload}
pub use Rattle.sessions.specs.declared.told.Answer.{Answer}
pub use Rattle.tagged_lines.specs.Tags.{Tagged, answer_told, have_tags, id_of, is_good_id, is_of, output_of, owner_of, rest_of, tag_of, tagged_text, told_in, told_to, with_feed, with_last_feed}
