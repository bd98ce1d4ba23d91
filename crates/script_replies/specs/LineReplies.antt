-- A script's lines, each with the first line of its reply.
use Rattle.std.specs.Prelude.{ℕ, List, [], ◌∷◌, map, Option, Some, None, option_map}
use Rattle.std.specs.List.{zip}
use Rattle.script_replies.specs.Prelude.{first_line, AnsweredLine}
use Rattle.script_replies.specs.declared.lines.ScriptLine.{ScriptLine}
use Rattle.script_replies.specs.declared.listing.ToldLine.{ToldLine}

-- a line's number, its text, and the first line of its reply, if there is a reply
pub record LineReply : Type 0 where
  pub number : ℕ
  pub line : List ℕ
  pub reply : Option (List ℕ)

abbrev pub first_of : List ℕ → Option (List ℕ)
first_of [] = None
first_of (byte ∷ rest) = Some (first_line (byte ∷ rest))

-- these of a line that is told
abbrev pub line_reply : ToldLine → LineReply
line_reply told = record { number = told.number; line = told.line.now; reply = option_map (λ reply. reply.now) told.reply }

-- those of a script's line and its reply
abbrev pub reply_to : ScriptLine → AnsweredLine → LineReply
reply_to line answered = record { number = line.number; line = line.text.now; reply = first_of answered.reply }

-- each of the script's lines with its reply, in order, as far as there are replies
abbrev pub line_replies : List ScriptLine → List AnsweredLine → List LineReply
line_replies lines replies = map (λ (pair : ScriptLine × AnsweredLine). reply_to pair.0 pair.1) (zip lines replies)
