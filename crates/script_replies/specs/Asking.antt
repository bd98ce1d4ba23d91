-- The replies to the acts of a script, from the printed text.
use Rattle.std.specs.Prelude.{ℕ, List, map, Some, None}
use Rattle.script_replies.specs.Prelude.{Act, Operator, Session, OperatorLine, Admit, Evict, Move, List as ListAll, Owners as OwnersLine, Step, Take, Put, SessionLine, Blank, ReplyForm, Silence, Line, Admission, Eviction, Lines, Tenancies, AnsweredLine, AskedLine, Reading, replies_in as printed_replies_in}
use Rattle.printed_replies.specs.declared.asked.ReplyForm.TheVariants.{Session as SessionReply, Owners}

-- the form of the reply to a line of the operator
abbrev pub operator_form : OperatorLine (List ℕ) → ReplyForm
operator_form (Admit name width) = Admission
operator_form (Evict name) = Eviction
operator_form (Move name offset) = Line
operator_form ListAll = Tenancies
operator_form OwnersLine = Owners
operator_form (Step name count) = Lines count
operator_form (Take name) = Line
operator_form (Put number) = Line

-- and to a session's line
abbrev pub session_form : SessionLine → ReplyForm
session_form Blank = Silence
session_form line = SessionReply

abbrev pub asked_of : Act (List ℕ) → AskedLine
asked_of (Operator line) = record { speaker = None; form = operator_form line }
asked_of (Session name line) = record { speaker = Some name; form = session_form line }

-- each act with its reply, from what was printed for the acts; or the number of bytes that remained
-- when they didn't fit
abbrev pub replies_in : List (Act (List ℕ)) → List ℕ → Reading (List AnsweredLine)
replies_in acts printed = printed_replies_in (map asked_of acts) printed
