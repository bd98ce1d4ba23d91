-- A whole session, by the service for a single user.
use Rattle.std.specs.Prelude.{ℕ, ◌≡◌, ◌≢◌, ⊤, List, [], ◌∷◌, ◌++◌, map, Option, Err}
use Rattle.std.specs.List.{flat_map}
use Rattle.sessions.specs.Prelude.{Event, Advance as Stepped, Reply, NoMemory as NotServedNoMemory, own_events, Call, Happens, Run, Tenant, Evict, ServiceState}
use Rattle.tenant_slot.specs.declared.event.Event.TheVariants.{Command as Asked}
use Rattle.sessions.specs.declared.line.SessionLine.{SessionLine}
use Rattle.sessions.specs.declared.refusal.SessionRefusal.{SessionRefusal}
use Rattle.sessions.specs.declared.told.Answer.{Answer}
use Rattle.sessions.specs.declared.told.Answer.TheVariants.{Served, Refused as RefusedAnswer}
use Rattle.sessions.specs.EndToEnd.{told_text}
use Rattle.sessions.specs.SessionAnswer.{Asks}
use Rattle.sessions.specs.SessionText.{answer_text, no_memory_text, session_refusal_text}

-- what happens during a session: an item of it, with the calls of the core that it makes and its
-- answer; or a call that others make
pub data Turn : Type 0 where
  Item : SessionLine → List Call → Answer → Turn
  Meanwhile : Call → Turn

-- others may make any call except a command of this tenancy and its eviction
abbrev pub IsOthers : ℕ → Call → Type 0
IsOthers id (Tenant t command served) = t ≢ id
IsOthers id (Evict t answer) = t ≢ id
IsOthers id call = ⊤

-- the turns of the session of the tenancy of that id lead from one state of the core to the other
abbrev pub Turns : ℕ → ServiceState → List Turn → ServiceState → Type 0
Turns id old [] new = new ≡ old
Turns id old (Item line calls answer ∷ turns) new = (mid : ServiceState) × Asks id line calls answer × Run old calls mid × Turns id mid turns new
Turns id old (Meanwhile call ∷ turns) new = (mid : ServiceState) × IsOthers id call × Happens old call mid × Turns id mid turns new

-- the bytes that are written
abbrev pub turn_text : Turn → List ℕ
turn_text (Item line calls answer) = answer_text answer
turn_text (Meanwhile call) = []

abbrev pub text_of_turns : List Turn → List ℕ
text_of_turns turns = flat_map turn_text turns

-- what the service for a single user hears of a session: an event; or nothing, since an item was
-- refused by itself or ran out of memory
pub data Heard : Type 0 where
  Happened : Event → Heard
  Refused : SessionRefusal → Heard
  NoMemory : Heard

-- an answer that isn't the tenancy's
abbrev pub answer_aside : Answer → List Heard
answer_aside (RefusedAnswer refusal) = Refused refusal ∷ []
answer_aside (Served (Err NotServedNoMemory)) = NoMemory ∷ []
answer_aside answer = []

abbrev pub turn_heard : ℕ → Turn → List Heard
turn_heard id (Item line calls answer) = map Happened (own_events id calls) ++ answer_aside answer
turn_heard id (Meanwhile call) = map Happened (own_events id (call ∷ []))

abbrev pub heard_by : ℕ → List Turn → List Heard
heard_by id turns = flat_map (turn_heard id) turns

-- the events among them
abbrev pub events_in : List Heard → List Event
events_in [] = []
events_in (Happened event ∷ more) = event ∷ events_in more
events_in (Refused refusal ∷ more) = events_in more
events_in (NoMemory ∷ more) = events_in more

-- the text of a session whose events get those replies: the reply to a command is written, the
-- reply to a step isn't
abbrev pub session_text : List Heard → List (Option Reply) → List ℕ
session_text [] replies = []
session_text (Refused refusal ∷ more) replies = session_refusal_text refusal ++ session_text more replies
session_text (NoMemory ∷ more) replies = no_memory_text ++ session_text more replies
session_text (Happened event ∷ more) [] = []
session_text (Happened (Asked command) ∷ more) (reply ∷ replies) = told_text reply ++ session_text more replies
session_text (Happened (Stepped made) ∷ more) (reply ∷ replies) = session_text more replies
