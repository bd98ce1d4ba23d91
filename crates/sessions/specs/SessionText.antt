-- The texts of a session's answers.
use Rattle.std.specs.Prelude.{ℕ, List, [], ◌∷◌, ◌++◌, length, codes, decimal, Option, Some, None, Ok, Err}
use Rattle.std.specs.Option.{option_map_or}
use Rattle.sessions.specs.Prelude.{net_of, number_of, Reply, Accepted, File, Refused, Step, Refusal, WrongState, BadBlif, CannotPack, DoesNotFit, BadEffort, Blocks, Pads, Ending, GaveUp, NoPath, file_text, state_text, refusal_number, refusal_text, StepReply, Advanced, Finished, Stale, NotServed, NoMemory, JournalFull, NoSuchTenancy, NoteCause}
use Rattle.tenant_slot.specs.declared.reply.Reply.TheVariants.{Status as InState}
use Rattle.service_core.specs.declared.not_served.NoteCause.TheVariants.{JournalFull as FullJournal, NoSuchTenancy as NotLive}
use Rattle.sessions.specs.declared.told.Answer.{Answer}
use Rattle.sessions.specs.declared.told.Answer.TheVariants.{Nothing, Served, Refused as RefusedAnswer}
use Rattle.sessions.specs.declared.refusal.SessionRefusal.{SessionRefusal}
use Rattle.sessions.specs.declared.refusal.SessionRefusal.TheVariants.{UnknownCommand, BadNumber, UnfinishedUpload, Evicted}

-- a blank and a word
abbrev pub blank_word : List ℕ → List ℕ
blank_word word = 32 ∷ word

-- what follows a refusal's name. For a netlist's fault: its number, its line, and the net that it
-- names. If a strip has too little of something: how much of it there is, and how much is needed
abbrev pub cause_text : Refusal → List ℕ
cause_text (WrongState state) = blank_word (state_text state)
cause_text (BadBlif fault) = blank_word (decimal (number_of fault.kind)) ++ blank_word (decimal fault.line) ++ option_map_or blank_word (net_of fault.kind) []
cause_text (CannotPack ble) = blank_word (decimal ble)
cause_text (DoesNotFit (Blocks have need)) = blank_word (codes "blocks") ++ blank_word (decimal have) ++ blank_word (decimal need)
cause_text (DoesNotFit (Pads have need)) = blank_word (codes "pads") ++ blank_word (decimal have) ++ blank_word (decimal need)
cause_text BadEffort = []

-- `WORD NUMBER NAME` and what follows, as a line
abbrev pub numbered_line : List ℕ → ℕ → List ℕ → List ℕ → List ℕ
numbered_line word number name more = word ++ blank_word (decimal number) ++ blank_word name ++ more ++ 10 ∷ []

-- the word for a step that was made
abbrev pub step_text : StepReply → List ℕ
step_text Advanced = codes "advanced"
step_text Finished = codes "finished"
step_text Stale = codes "stale"

-- how a routing ended, for a status
abbrev pub ending_text : Option Ending → List ℕ
ending_text None = []
ending_text (Some GaveUp) = blank_word (codes "gaveup")
ending_text (Some (NoPath net)) = blank_word (codes "nopath") ++ blank_word net

-- a reply as a line; a refusal's line ends with its cause, and a file follows its line unchanged
abbrev pub reply_text : Reply → List ℕ
reply_text (Accepted state) = codes "ok" ++ blank_word (state_text state) ++ 10 ∷ []
reply_text (InState status) = codes "status" ++ blank_word (state_text status.state) ++ blank_word (decimal status.steps) ++ ending_text status.ending ++ 10 ∷ []
reply_text (File kind text) = codes "text" ++ blank_word (file_text kind) ++ blank_word (decimal (length text)) ++ 10 ∷ text
reply_text (Step reply) = step_text reply ++ 10 ∷ []
reply_text (Refused refusal) = numbered_line (codes "refused") (refusal_number refusal) (refusal_text refusal) (cause_text refusal)

-- a session's refusal as a line
abbrev pub session_refusal_text : SessionRefusal → List ℕ
session_refusal_text UnknownCommand = numbered_line (codes "line") 1 (codes "UnknownCommand") []
session_refusal_text BadNumber = numbered_line (codes "line") 2 (codes "BadNumber") []
session_refusal_text UnfinishedUpload = numbered_line (codes "line") 3 (codes "UnfinishedUpload") []
session_refusal_text Evicted = numbered_line (codes "line") 4 (codes "Evicted") []

-- the lines for a command that ran out of memory, and for a full journal
abbrev pub no_memory_text : List ℕ
no_memory_text = numbered_line (codes "refused") 1 (codes "NoMemory") []

abbrev pub journal_full_text : List ℕ
journal_full_text = numbered_line (codes "refused") 2 (codes "JournalFull") []

-- why the core has no reply now and later, as a line
abbrev pub note_text : NoteCause → List ℕ
note_text FullJournal = journal_full_text
note_text NotLive = session_refusal_text Evicted

-- why the core had no reply, as a line
abbrev pub unserved_text : NotServed → List ℕ
unserved_text NoMemory = no_memory_text
unserved_text (JournalFull note) = journal_full_text
unserved_text (NoSuchTenancy note) = session_refusal_text Evicted

-- the text of an answer, which is empty if the line asks nothing
abbrev pub answer_text : Answer → List ℕ
answer_text Nothing = []
answer_text (Served (Ok receipt)) = reply_text receipt.reply
answer_text (Served (Err refusal)) = unserved_text refusal
answer_text (RefusedAnswer refusal) = session_refusal_text refusal

-- a session's refusal's number and name in its line
abbrev pub session_refusal_number : SessionRefusal → ℕ
session_refusal_number UnknownCommand = 1
session_refusal_number BadNumber = 2
session_refusal_number UnfinishedUpload = 3
session_refusal_number Evicted = 4

abbrev pub session_refusal_name : SessionRefusal → List ℕ
session_refusal_name UnknownCommand = codes "UnknownCommand"
session_refusal_name BadNumber = codes "BadNumber"
session_refusal_name UnfinishedUpload = codes "UnfinishedUpload"
session_refusal_name Evicted = codes "Evicted"
