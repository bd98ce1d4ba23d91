-- A session that waits for each of its jobs, and its text.
use Rattle.std.specs.Prelude.{ℕ, ◌≢◌, List, [], ◌∷◌, ◌++◌, Bool, true, false, not, ◌&&◌, unwrap_or}
use Rattle.std.specs.Option.{option_map_or}
use Rattle.tenant_slot.specs.declared.command.Command.{Command as TenantCommand}
use Rattle.tenant_slot.specs.declared.command.Command.TheVariants.{Pack, Place, Route, Status}
use Rattle.tenant_slot.specs.declared.event.Event.TheVariants.{Command as Asked}
use Rattle.tenant_slot.specs.SingleUser.{State, answer_to, state_at_end, kind_that_runs}
use Rattle.sessions.specs.declared.line.SessionLine.{SessionLine}
use Rattle.sessions.specs.declared.line.SessionLine.TheVariants.{Blank, Command, Wait, Refused}
use Rattle.sessions.specs.SessionText.{journal_full_text, no_memory_text, reply_text, session_refusal_text}

-- a command that begins a job, if it is accepted
abbrev pub begins_job : TenantCommand → Bool
begins_job Pack = true
begins_job (Place seed effort) = true
begins_job Route = true
begins_job command = false

-- each such command is followed by a `wait` before the next command; `begun` says whether one came
-- before these items, and no `wait` since
abbrev pub waits_for_each : Bool → List SessionLine → Bool
waits_for_each begun [] = true
waits_for_each begun (Command command ∷ items) = not begun && waits_for_each (begins_job command) items
waits_for_each begun (Wait ∷ items) = waits_for_each false items
waits_for_each begun (item ∷ items) = waits_for_each begun items

-- the state after the last step of the job that runs, if one runs
abbrev pub after_last_step : State → State
after_last_step state = option_map_or (state_at_end state) (kind_that_runs state.name) state

-- the state after a command, in a journal that isn't full
abbrev pub after_command : State → TenantCommand → State
after_command state command = unwrap_or (answer_to state (Asked command)).0 state

-- the text of such a session, by the service for a single user: a `wait` is answered as a `status`
-- after the last step of the job
abbrev pub waited_text : State → List SessionLine → List ℕ
waited_text state [] = []
waited_text state (Blank ∷ items) = waited_text state items
waited_text state (Refused refusal ∷ items) = session_refusal_text refusal ++ waited_text state items
waited_text state (Command command ∷ items) = reply_text (answer_to state (Asked command)).1 ++ waited_text (after_command state command) items
waited_text state (Wait ∷ items) = reply_text (answer_to (after_last_step state) (Asked Status)).1 ++ waited_text (after_command (after_last_step state) Status) items

-- an answer says neither that memory ran out nor that the journal is full
abbrev pub IsReply : List ℕ → Type 0
IsReply text = (text ≢ no_memory_text) × (text ≢ journal_full_text)
