-- Private: what a slot keeps between commands, its value, and the invariant between the two.
use Rattle.tenant_slot.specs.declared.slot.TheConstants.{MAX_ENTRIES}
use Rattle.tenant_slot.specs.Prelude.{AreKeptOn, Arch, Strip, IsStripSize, JobState, Sources, is_last}
use Rattle.std.specs.Prelude.{ℕ, ◌≡◌, ◌+◌, ◌≤◌, [], ⊤, Bool, true, false, is_some, Option, Some, None, option_map, IfSome}
use Rattle.tenant_slot.specs.declared.reply.StateName.{StateName}
use Rattle.tenant_slot.specs.declared.reply.StepReply.{StepReply}
use Rattle.tenant_slot.specs.declared.reply.StepReply.TheVariants.{Advanced, Finished, Stale}
use Rattle.tenant_slot.specs.declared.content.Content.{Content}
use Rattle.tenant_slot.specs.declared.content.Content.TheVariants.{Empty, Loaded}
use Rattle.tenant_slot.specs.declared.standing.Running.{Running}
use Rattle.tenant_slot.specs.declared.standing.Standing.{Standing}
use Rattle.tenant_slot.specs.declared.standing.Change.{Change}
use Rattle.tenant_slot.specs.declared.standing.Change.TheVariants.{Load, Replace, Begin, Place, Stop, Empty as EmptyAll}
use Rattle.tenant_slot.specs.Content.{HasContent, IsNetlist, cut_back, failure_in, finished_with, name_at_rest, text_of}
use Rattle.tenant_slot.specs.SingleUser.{State, sources_from}
use Rattle.tenant_slot.specs.Slot.{SlotState}
use Rattle.tenant_slot.specs.JobNames.{state_before, state_during}

abbrev pub name_of : Content → Option Running → StateName
name_of content None = name_at_rest content
name_of content (Some job) = state_during job.sources.kind

-- what is here of the running job's next step: `None` if it is out, otherwise whether it was made
-- already
abbrev pub here_of : Option Running → Option Bool
here_of None = Some false
here_of (Some job) = option_map (λ ready. ready.made) job.ready

-- the value of a slot with these parts
abbrev pub seen_state : Arch → Strip → Standing → ℕ → State
seen_state arch strip standing entries = record {
  arch = arch;
  strip = strip;
  name = name_of standing.content standing.running;
  text = text_of standing.content;
  kept = standing.kept;
  seed = standing.seed;
  effort = standing.effort;
  ending = failure_in standing.content;
  generation = standing.generation;
  steps = standing.steps;
  entries = entries;
}

abbrev pub slot_state : ℕ → Arch → Strip → Standing → ℕ → SlotState
slot_state id arch strip standing entries = record { id = id; state = seen_state arch strip standing entries; here = here_of standing.running }

-- the running job is computed from what the slot keeps; if its next step is here, it is the right
-- one
pub record IsRunning (id : ℕ) (arch : Arch) (strip : Strip) (standing : Standing) (job : Running) : Type 0 where
  pub name : name_at_rest standing.content ≡ state_before job.sources.kind
  pub sources : job.sources ≡ sources_from arch strip (text_of standing.content) standing.kept standing.seed standing.effort job.sources.kind
  pub going : is_last job.sources standing.steps ≡ false
  pub ready : IfSome job.ready (λ ready. ready.step ≡ record { id = id; generation = standing.generation; number = standing.steps + 1; sources = job.sources })

pub record IsSlot (id : ℕ) (arch : Arch) (strip : Strip) (standing : Standing) (entries : ℕ) : Type 0 where
  pub size : IsStripSize strip
  pub content : HasContent arch strip standing.kept standing.seed standing.effort standing.content
  pub kept : AreKeptOn strip standing.kept
  pub job : IfSome standing.running (IsRunning id arch strip standing)
  pub generation_small : standing.generation ≤ entries
  pub steps_small : standing.steps ≤ entries
  pub entries_small : entries ≤ MAX_ENTRIES

-- what is kept after an accepted command
abbrev pub accepted_in : Standing → Option Change → Standing
accepted_in standing None = standing
accepted_in standing (Some (Load netlist)) = record standing { content = Loaded netlist; running = None }
accepted_in standing (Some (Replace netlist kept)) = record standing { content = Loaded netlist; kept = kept; running = None; generation = standing.generation + 1; steps = 0 }
accepted_in standing (Some (Begin job)) = record standing { running = Some job; generation = standing.generation + 1; steps = 0 }
accepted_in standing (Some (Place job)) =
    record standing { content = cut_back standing.content; running = Some job; seed = job.sources.seed; effort = job.sources.effort; generation = standing.generation + 1; steps = 0 }
accepted_in standing (Some Stop) = record standing { running = None; generation = standing.generation + 1; steps = 0 }
accepted_in standing (Some EmptyAll) = record standing { content = Empty; kept = []; running = None; generation = standing.generation + 1; steps = 0 }

-- a change carries the right circuit, and a job that begins has a step to make
abbrev pub IsChange : ℕ → Option Change → Type 0
IsChange lut_size (Some (Load netlist)) = IsNetlist lut_size netlist
IsChange lut_size (Some (Replace netlist kept)) = IsNetlist lut_size netlist
IsChange lut_size (Some (Begin job)) = is_last job.sources 0 ≡ false
IsChange lut_size (Some (Place job)) = is_last job.sources 0 ≡ false
IsChange lut_size change = ⊤

-- the running job is computed from these sources
abbrev pub RunsOn : Option Running → Sources → Type 0
RunsOn None sources = ⊥
RunsOn (Some job) sources = job.sources ≡ sources

-- the running job's next step; the job with it, and without it
abbrev pub ready_of : Option Running → Option JobState
ready_of None = None
ready_of (Some job) = job.ready

abbrev pub is_ready : Option Running → Bool
is_ready None = false
is_ready (Some job) = is_some job.ready

abbrev pub ready_with : JobState → Running → Running
ready_with ready job = record job { ready = Some ready }

abbrev pub without_ready : Running → Running
without_ready job = record job { ready = None }

-- what is kept after a put, if the step counts or not, and is the last or not
abbrev pub put_in : Standing → JobState → Bool → Bool → Standing
put_in standing job false last = standing
put_in standing job true false = record standing { running = option_map (ready_with job) standing.running; steps = standing.steps + 1 }
put_in standing job true true = record standing { content = finished_with standing.content job; running = None; steps = 0 }

abbrev pub put_reply : Bool → Bool → StepReply
put_reply false last = Stale
put_reply true false = Advanced
put_reply true true = Finished
