-- Private: the states between the stages of a run, and the results of a job's steps.
use Rattle.std.specs.Prelude.{ℕ, ◌≡◌, ◌+◌, ◌<◌, ◌≤◌, List, [], true, false, Option, Some, None, IsSome, Ok, length}
use Rattle.one_user.specs.Prelude.{MAX_ENTRIES, MAX_EFFORT, MAX_NETS, circuit_of, Circuit, block_nets, packed_of, unfit_of, fit_of, end_value, is_last, job_value, step_count, IsProgress, Progress, JobKind, Sources, Work, Basis, State, answer_to, state_at_end, misfit_of, kind_that_runs, sources_of, start, SlotState, PlaceFile, Status as StatusAsked, Command as Asked, Ending, Refusal, Reply, Accepted, File, Refused, Step, StateName, Loaded, Placed, StepReply, Advanced, Finished, Stale}
use Rattle.tenant_slot.specs.declared.command.Command.TheVariants.{Net}
use Rattle.tenant_slot.specs.declared.reply.Reply.TheVariants.{Status}
use Rattle.tenant_slot.specs.declared.reply.StateName.TheVariants.{Packed, Routed}
use Rattle.one_user.specs.Counting.{AreCounts}
use Rattle.one_user.specs.Outcomes.{Task}
use Rattle.one_user.specs.declared.figures.PackedCounts.{PackedCounts}
use Rattle.one_user.specs.declared.outcome.Unrouted.{Unrouted}
use Rattle.one_user.specs.declared.steps.StepMade.{StepMade}

-- the refusal in a reply, if there is one
abbrev pub refusal_in : Reply → Option Refusal
refusal_in (Refused refusal) = Some refusal
refusal_in (Accepted name) = None
refusal_in (Status status) = None
refusal_in (File kind text) = None
refusal_in (Step reply) = None

-- the text of a file, and how a routing ended, if the reply has it
abbrev pub text_in : Reply → Option (List ℕ)
text_in (File kind text) = Some text
text_in (Refused refusal) = None
text_in (Accepted name) = None
text_in (Status status) = None
text_in (Step reply) = None

abbrev pub ending_in : Reply → Option Ending
ending_in (Status status) = status.ending
ending_in (Refused refusal) = None
ending_in (Accepted name) = None
ending_in (File kind text) = None
ending_in (Step reply) = None

-- the device of a state
abbrev pub device_of : State → Basis
device_of state = record { arch = state.arch; strip = state.strip }

-- the task of a state's netlist with that seed and effort
abbrev pub task_in : State → ℕ → ℕ → Task
task_in state seed effort = record { arch = state.arch; strip = state.strip; text = state.text; seed = seed; effort = effort }

-- a slot in a state
abbrev pub slot_in : ℕ → State → SlotState
slot_in id state = record { id = id; state = state; here = Some false }

-- a state of that name, in which no job has made a step and no place is kept
abbrev pub state_at : Task → StateName → ℕ → ℕ → ℕ → ℕ → State
state_at task name seed effort generation entries = record {
  arch = task.arch;
  strip = task.strip;
  name = name;
  text = task.text;
  kept = [];
  seed = seed;
  effort = effort;
  ending = None;
  generation = generation;
  steps = 0;
  entries = entries;
}

-- the slot is in such a state, with at most that number of entries
pub record IsAt (task : Task) (name : StateName) (seed effort most : ℕ) (slot : SlotState) : Type 0 where
  pub is : slot ≡ slot_in slot.id (state_at task name seed effort slot.state.generation slot.state.entries)
  pub few : slot.state.entries ≤ most

-- the circuit of the netlist; each BLE fits into a cluster alone; the device has enough places
pub record IsLoaded (task : Task) : Type 0 where
  pub circuit : Circuit
  pub said : circuit_of task.text task.arch.lut_size ≡ Ok circuit

pub record IsPacked (task : Task) : Type 0 where
  pub circuit : Circuit
  pub said : circuit_of task.text task.arch.lut_size ≡ Ok circuit
  pub fits : unfit_of circuit task.arch ≡ None

pub record IsPlaced (task : Task) : Type 0 where
  pub circuit : Circuit
  pub said : circuit_of task.text task.arch.lut_size ≡ Ok circuit
  pub fits : unfit_of circuit task.arch ≡ None
  pub enough : misfit_of (fit_of task.strip (packed_of circuit task.arch)) ≡ None

-- the possible results of a step: the job advances, or is over after its last step
abbrev pub Goes : JobKind → SlotState → StepReply → SlotState → Type 0
Goes kind old Advanced new =
    (is_last (sources_of old.state kind) (old.state.steps + 1) ≡ false) × (new ≡ slot_in old.id (record old.state { steps = old.state.steps + 1; entries = old.state.entries + 1 }))
Goes kind old Finished new =
    (is_last (sources_of old.state kind) (old.state.steps + 1) ≡ true) × (new ≡ slot_in old.id (record (state_at_end old.state kind) { entries = old.state.entries + 1 }))
Goes kind old Stale new = ⊥

-- the progress is that of the job after `steps` steps
abbrev pub IsTold : Sources → ℕ → Progress → Type 0
IsTold sources steps progress = (work : Work) × (job_value sources steps ≡ Ok work) × IsProgress work progress

-- the running job's next step is made
pub record MakesStep (kind : JobKind) (old : SlotState) (made : StepMade) (new : SlotState) : Type 0 where
  pub number : made.number ≡ old.state.steps + 1
  pub few : made.number ≤ MAX_NETS
  pub told : IsTold (sources_of old.state kind) made.number made.progress
  pub count : is_last (sources_of old.state kind) made.number ≡ true → made.number ≡ step_count (sources_of old.state kind)
  pub goes : Goes kind old made.reply new

-- all its steps are made, and this was the last
pub record Finishes (kind : JobKind) (old : SlotState) (made : StepMade) (new : SlotState) : Type 0 where
  pub few : made.number ≤ MAX_NETS
  pub told : IsTold (sources_of old.state kind) made.number made.progress
  pub last : is_last (sources_of old.state kind) made.number ≡ true
  pub count : made.number ≡ step_count (sources_of old.state kind)
  pub after : new ≡ slot_in old.id (record (state_at_end old.state kind) { entries = old.state.entries + made.number })

-- a running job's next step can be made, over the slot's own device
pub record CanStep (slot : SlotState) (device : Basis) : Type 0 where
  pub runs : IsSome (kind_that_runs slot.state.name)
  pub here : slot.here ≡ Some false
  pub room : slot.state.entries < MAX_ENTRIES
  pub window : device ≡ device_of slot.state

-- all its steps can be made; none was made yet
pub record CanFinish (slot : SlotState) (device : Basis) : Type 0 where
  pub runs : IsSome (kind_that_runs slot.state.name)
  pub first : slot.state.steps ≡ 0
  pub here : slot.here ≡ Some false
  pub room : slot.state.entries + MAX_NETS < MAX_ENTRIES
  pub window : device ≡ device_of slot.state

-- a fresh slot is ready for a netlist, on its own device, and the effort is lawful
pub record IsReadyToUpload (now : SlotState) (device : Basis) (tries : ℕ) : Type 0 where
  pub slot : now ≡ slot_in now.id (start now.state.arch now.state.strip)
  pub window : device ≡ device_of now.state
  pub effort : tries ≤ MAX_EFFORT

-- it has loaded the netlist of the task
pub record IsReadyToPack (task : Task) (now : SlotState) (device : Basis) : Type 0 where
  pub slot : IsAt task Loaded 0 0 1 now
  pub window : device ≡ device_of now.state
  pub effort : task.effort ≤ MAX_EFFORT
  pub loaded : IsLoaded task

-- it has packed it, and these are the counts
pub record IsReadyToPlace (task : Task) (now : SlotState) (device : Basis) (told : PackedCounts) : Type 0 where
  pub slot : IsAt task Packed 0 0 8194 now
  pub window : device ≡ device_of now.state
  pub effort : task.effort ≤ MAX_EFFORT
  pub packed : IsPacked task
  pub counts : AreCounts task told

-- it has placed it
pub record IsReadyToRoute (task : Task) (now : SlotState) (device : Basis) (told : PackedCounts) : Type 0 where
  pub slot : IsAt task Placed task.seed task.effort 16387 now
  pub window : device ≡ device_of now.state
  pub placed : IsPlaced task
  pub counts : AreCounts task told

-- it has routed it, and the journal has space for the commands that ask for the files
pub record HasFiles (state : State) : Type 0 where
  pub room : state.entries < MAX_ENTRIES
  pub routed : state.name ≡ Routed
  pub loaded : IsLoaded (task_in state state.seed state.effort)
  pub kept : state.kept ≡ []

-- this is what a state without routes is answered
pub record IsLeft (state : State) (left : Unrouted) : Type 0 where
  pub ending : ending_in (answer_to state (Asked StatusAsked)).1 ≡ Some left.ending
  pub net : text_in (answer_to state (Asked Net)).1 ≡ Some left.net
  pub places : text_in (answer_to state (Asked PlaceFile)).1 ≡ Some left.places
