-- What a session is answered doesn't depend on the number of workers.
use Rattle.std.specs.Prelude.{ℕ, ◌≡◌, ◌≢◌, ⊤, List, [], ◌∷◌, All, IfSome, Some, false, true}
use Rattle.tenant_slot.specs.SingleUser.{start}
use Rattle.service_core.specs.declared.device.Device.{Device}
use Rattle.service_core.specs.OwnEvents.{own_events}
use Rattle.service_core.specs.Run.{Call, Happens, Run}
use Rattle.service_core.specs.Run.Call.{Take}
use Rattle.service_core.specs.Service.{ServiceState, empty_service, live_width, strip_on}
use Rattle.sessions.specs.declared.line.SessionLine.{SessionLine}
use Rattle.sessions.specs.Items.{items_of}
use Rattle.sessions.specs.SessionAnswer.{Asks, LeavesNone}
use Rattle.sessions.specs.SessionText.{answer_text}
use Rattle.sessions.specs.WholeSession.{Turn, IsOthers, Item, Meanwhile, text_of_turns}
use Rattle.session_threads.specs.Told.{told_text}
use Rattle.script_text.specs.Threaded.{Parts as Script}
use Rattle.script_text.specs.declared.replies.RunReplies.{RunReplies}
use Rattle.script_threads.specs.Served.{Conversation, IsServedOnThreads, told_in}
use Rattle.workers_law.specs.Waited.{IsReply, waits_for_each, waited_text}

-- the session waits for each of its jobs, and no answer to it says that memory ran out or that the
-- journal is full
pub record Waits (c : Conversation) : Type 0 where
  pub for_each : waits_for_each false (items_of c.said.input) ≡ true
  pub replies : IfSome c.told (All (λ t. IsReply (told_text t)))

-- With any number of workers, the text of such a session is one function of its input, on a device
-- of the size of its strip.
abbrev pub HasWaitedText : Type 0
HasWaitedText = (device : Device) (script : Script) (answered : RunReplies) (is : IsServedOnThreads device script answered) →
    All (λ c. (width : ℕ) → live_width is.service.histories c.id ≡ Some width → Waits c → (told_in c).text ≡ waited_text (start device.arch (strip_on device width)) (items_of c.said.input)) is.ran.conversations

-- the items of a session without workers
abbrev pub items_in : List Turn → List SessionLine
items_in [] = []
items_in (Item line calls answer ∷ turns) = line ∷ items_in turns
items_in (Meanwhile call ∷ turns) = items_in turns

-- the turns of a session, of which each wait leaves no step undone, unless memory ran out for it,
-- as each wait on the device's own graph does
abbrev pub OwnTurns : ℕ → ServiceState → List Turn → ServiceState → Type 0
OwnTurns id old [] new = new ≡ old
OwnTurns id old (Item line calls answer ∷ turns) new = (mid : ServiceState) × Asks id line calls answer × Run old calls mid × LeavesNone id line calls answer mid × OwnTurns id mid turns new
OwnTurns id old (Meanwhile call ∷ turns) new = (mid : ServiceState) × IsOthers id call × Happens old call mid × OwnTurns id mid turns new

-- a call takes no job of that tenancy
abbrev pub TakesNone : ℕ → Call → Type 0
TakesNone id (Take t job) = t ≢ id
TakesNone id call = ⊤

-- no answer says that memory ran out or that the journal is full, and nobody else takes a job of
-- the tenancy
abbrev pub AreReplied : ℕ → List Turn → Type 0
AreReplied id [] = ⊤
AreReplied id (Item line calls answer ∷ turns) = IsReply (answer_text answer) × AreReplied id turns
AreReplied id (Meanwhile call ∷ turns) = TakesNone id call × AreReplied id turns

-- Without workers it is the same function: whatever others do meanwhile, if they don't ask in the
-- tenancy's name, evict it or take its jobs, and if nothing happened to the tenancy before its
-- session.
abbrev pub HasSameText : Type 0
HasSameText = (device : Device) (before : List Call) (old new : ServiceState) (id width : ℕ) (turns : List Turn) →
    Run (empty_service device) before old → own_events id before ≡ [] → live_width old.histories id ≡ Some width → OwnTurns id old turns new → waits_for_each false (items_in turns) ≡ true → AreReplied id turns →
    text_of_turns turns ≡ waited_text (start device.arch (strip_on device width)) (items_in turns)
