-- A reply before it is given.
use Rattle.std.specs.Prelude.{ℕ, ◌≡◌, ◌<◌, [], Result, Ok, Err, Option, Some, None, true, false, option_map, ⊤}
use Rattle.std.specs.Option.{option_map_or}
use Rattle.tenant_slot.specs.declared.slot.TheConstants.{MAX_ENTRIES}
use Rattle.tenant_slot.specs.Prelude.{first_step, Placing as PlacingJob, AreKeptOn}
use Rattle.tenant_slot.specs.declared.standing.Change.{Change}
use Rattle.tenant_slot.specs.declared.standing.Change.TheVariants.{Load, Replace, Begin, Place, Stop, Empty}
use Rattle.tenant_slot.specs.declared.standing.Running.{Running}
use Rattle.tenant_slot.specs.declared.command.Command.{Command}
use Rattle.tenant_slot.specs.declared.command.Command.TheVariants.{Place as Asks}
use Rattle.tenant_slot.specs.declared.event.Event.TheVariants.{Command as Asked}
use Rattle.tenant_slot.specs.declared.reply.Reply.{Reply}
use Rattle.tenant_slot.specs.declared.reply.StateName.TheVariants.{Empty as EmptyName, Placing}
use Rattle.tenant_slot.specs.declared.not_served.NotAnswered.{NotAnswered}
use Rattle.tenant_slot.specs.declared.not_served.NotAnswered.TheVariants.{NoMemory, JournalFull}
use Rattle.tenant_slot.specs.SingleUser.{State, after_reply, answer_to, at_rest, is_lawful, with_kept_places, with_netlist, next_generation, sources_of}
use Rattle.tenant_slot.specs.Slot.{SlotState}
use Rattle.tenant_slot.specs.JobNames.{state_before, state_during}

-- an answer that isn't given yet: the number of inputs of the tables for which it was computed,
-- what it changes, and the reply
pub record Outcome : Type 0 where
  pub lut_size : ℕ
  pub change : Option Change
  pub reply : Reply

-- the state after a change
abbrev pub state_with : State → Change → State
state_with state (Load netlist) = with_netlist state netlist.text
state_with state (Replace netlist kept) = with_netlist (record (next_generation state) { kept = kept }) netlist.text
state_with state (Begin job) = record (next_generation state) { name = state_during job.sources.kind }
state_with state (Place job) = record (next_generation state) { name = Placing; seed = job.sources.seed; effort = job.sources.effort; ending = None }
state_with state Stop = record (next_generation state) { name = at_rest state.name }
state_with state Empty = record (next_generation state) { name = EmptyName; text = []; kept = []; ending = None }

-- the job starts in that state: its sources are the state's, and it is before its first step
pub record IsBegun (id : ℕ) (state : State) (job : Running) : Type 0 where
  pub sources : job.sources ≡ sources_of state job.sources.kind
  pub ready : job.ready ≡ Some (first_step id state.generation job.sources)

-- a job starts only from a content that it can start from, and a change keeps the right places
abbrev pub Begins : SlotState → Option Change → Type 0
Begins slot (Some (Begin job)) = (slot.state.name ≡ state_before job.sources.kind) × IsBegun slot.id (state_with slot.state (Begin job)) job
Begins slot (Some (Place job)) =
    (is_lawful slot.state.name (Asks job.sources.seed job.sources.effort) ≡ true) × (job.sources.kind ≡ PlacingJob) × IsBegun slot.id (state_with slot.state (Place job)) job
Begins slot (Some (Replace netlist kept)) = (kept ≡ (with_kept_places slot.state).kept) × AreKeptOn slot.state.strip kept
Begins slot change = ⊤

-- the answer may be accepted in that state
pub record IsAnswerTo (slot : SlotState) (answer : Outcome) : Type 0 where
  pub lut_size : answer.lut_size ≡ slot.state.arch.lut_size
  pub room : slot.state.entries < MAX_ENTRIES
  pub begins : Begins slot answer.change

-- a lawful command, with space for its entry in the journal
pub record IsAsked (slot : SlotState) (command : Command) : Type 0 where
  pub lawful : is_lawful slot.state.name command ≡ true
  pub room : slot.state.entries < MAX_ENTRIES

-- the possible answers of a command, before anything changes
abbrev pub Answers : SlotState → Command → Result Outcome NotAnswered → Type 0
Answers slot command (Ok answer) = IsAnswerTo slot answer × (answer_to slot.state (Asked command) ≡ (option_map (state_with slot.state) answer.change, answer.reply))
Answers slot command (Err JournalFull) = slot.state.entries ≡ MAX_ENTRIES
Answers slot command (Err NoMemory) = slot.state.entries < MAX_ENTRIES

-- the slot after the answer is accepted
abbrev pub slot_after : SlotState → Outcome → SlotState
slot_after slot answer = record slot { state = after_reply slot.state (option_map (state_with slot.state) answer.change); here = option_map_or (λ new. Some false) (option_map (state_with slot.state) answer.change) slot.here }
