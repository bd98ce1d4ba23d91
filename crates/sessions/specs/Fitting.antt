-- The device's own graph, and the window on it for a job.
use Rattle.std.specs.Prelude.{ℕ, ◌≡◌, List, Some, true}
use Rattle.sessions.specs.Prelude.{JobStep, JobState, Basis, offset_of, device_strip, is_on_device, Device, IsTaken, Call, Run, ServiceState, empty_service}

-- what a device's own graph is of: its architecture, and a strip of all its columns
abbrev pub own_graph : Device → Basis
own_graph device = record { arch = device.arch; strip = device_strip device.arch device.columns device.rows }

-- the graph has a window for the step, at the offset that the strip of its tenancy has now
abbrev pub HasWindow : Basis → ServiceState → JobStep → Type 0
HasWindow graph state step = (offset : ℕ)
    × (offset_of state.plan.strips step.id ≡ Some offset) × (graph.arch ≡ step.sources.arch) × (is_on_device graph.strip step.sources.strip offset ≡ true)

-- the device's own graph has a window for each job that the core gives out, whatever calls were
-- made before
abbrev pub FitsOwnDevice : Type 0
FitsOwnDevice = (device : Device) (before : List Call) (old new : ServiceState) (id : ℕ) (job : JobState) →
    Run (empty_service device) before old → IsTaken old id (Some job) new → HasWindow (own_graph device) new job.step
