-- How far a job is, by what it has made.
use Rattle.std.specs.Prelude.{◌≡◌, ◌+◌, ⊤, length}
use Rattle.job_state.specs.Prelude.{block_nets, IsOveruse, places_by_block, cost_of, task_of}
use Rattle.job_state.specs.declared.progress.Progress.{Progress}
use Rattle.job_state.specs.declared.progress.Progress.TheVariants as told
use Rattle.job_state.specs.declared.work.Work.{Work}
use Rattle.job_state.specs.declared.work.Work.TheVariants.{Packing, Packed, Placing, Placed, Routing, Unlisted, Routed, GaveUp, NoPath}

-- the progress of that work
abbrev pub IsProgress : Work → Progress → Type 0
IsProgress (Packing packing) (told.Packing tables latches) = (tables ≡ length packing.circuit.tables) × (latches ≡ length packing.circuit.latches)
IsProgress (Packed packed) (told.Packed clusters pads nets) =
    (clusters ≡ length packed.clusters) × (pads ≡ length packed.circuit.inputs + length packed.circuit.outputs) × (nets ≡ length (block_nets packed))
IsProgress (Placing placing) (told.Placing cost) = cost ≡ cost_of (task_of placing.packed).nets (places_by_block placing)
IsProgress (Placed placing) (told.Placing cost) = cost ≡ cost_of (task_of placing.packed).nets (places_by_block placing)
IsProgress (Routing routing) (told.Routing overuse) = IsOveruse routing.basis routing.state.trees overuse
IsProgress (Unlisted routed) told.Routed = ⊤
IsProgress (Routed routed) told.Routed = ⊤
IsProgress GaveUp told.GaveUp = ⊤
IsProgress (NoPath net) told.NoPath = ⊤
IsProgress work progress = ⊥
