-- The answers to a session, by the service for a single user.
use Rattle.std.specs.Prelude.{ℕ, ◌≡◌, ◌-◌, ◌⊎◌, List, [], ◌++◌, length, take, Option, Some, None, Err}
use Rattle.std.specs.Option.{option_map_or}
use Rattle.sessions.specs.Prelude.{Command as TenantCommand, Status, Reply, State, start, state_after, step, Device, NoMemory, own_events, Call, ServiceState, live_width, strip_on}
use Rattle.tenant_slot.specs.declared.event.Event.TheVariants.{Command as Asked}
use Rattle.sessions.specs.declared.line.SessionLine.{SessionLine}
use Rattle.sessions.specs.declared.line.SessionLine.TheVariants.{Blank, Command, Wait, Refused}
use Rattle.sessions.specs.declared.refusal.SessionRefusal.TheVariants.{Evicted}
use Rattle.sessions.specs.declared.told.Answer.{Answer}
use Rattle.sessions.specs.declared.told.Answer.TheVariants.{Served}
use Rattle.sessions.specs.SessionText.{answer_text, journal_full_text, reply_text, session_refusal_text}

-- that service's reply as the session's text; it has no reply if the journal is full
abbrev pub told_text : Option Reply → List ℕ
told_text reply = option_map_or reply_text reply journal_full_text

-- its text for a command in the state to which a tenancy's own events of those calls lead alone, on
-- a device of its strip's size; without a width the tenancy isn't live
abbrev pub alone_text : Device → Option ℕ → ℕ → List Call → TenantCommand → List ℕ
alone_text device (Some width) id calls command = told_text (step (state_after (start device.arch (strip_on device width)) (own_events id calls)) (Asked command)).1
alone_text device None id calls command = session_refusal_text Evicted

-- unless memory ran out, that is the answer to the command in that state of the core
abbrev pub IsToldAlone : Device → ServiceState → ℕ → List Call → TenantCommand → Answer → Type 0
IsToldAlone device state id calls command answer = (answer ≡ Served (Err NoMemory)) ⊎ (answer_text answer ≡ alone_text device (live_width state.histories id) id calls command)

-- and the answer to a line that makes those calls, after the calls before; a wait is answered like
-- a status after its steps, which are all of its calls except the last
abbrev pub LineIsToldAlone : Device → ServiceState → ℕ → List Call → List Call → SessionLine → Answer → Type 0
LineIsToldAlone device state id before calls Blank answer = answer_text answer ≡ []
LineIsToldAlone device state id before calls (Refused refusal) answer = answer_text answer ≡ session_refusal_text refusal
LineIsToldAlone device state id before calls (Command command) answer = IsToldAlone device state id before command answer
LineIsToldAlone device state id before calls Wait answer = IsToldAlone device state id (before ++ take (length calls - 1) calls) Status answer

-- private: that state
abbrev pub alone_after : Device → ℕ → ℕ → List Call → State
alone_after device width id calls = state_after (start device.arch (strip_on device width)) (own_events id calls)
