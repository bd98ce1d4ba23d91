-- The results of commands and steps, in parts for use in lemmas.
use Rattle.tenant_slot.proofs.Prelude.{Circuit, BlifFault, packed_of, unfit_of, Reply, Accepted, File, StateName, State, at_rest, with_netlist, pack_unless, place, next_generation, with_circuit, net_text_of, Loaded}
use Rattle.std.specs.Prelude.{ℕ, ◌+◌, List, Result, Option, Some, None}
use Rattle.tenant_slot.specs.declared.reply.FileKind.TheVariants.{Net as NetFile}

-- a job begins, a placing with its seed and its effort
abbrev pub begun : State → StateName → State
begun state name = record (next_generation state) { name = name }

-- the running job is given up, and everything is withdrawn
abbrev pub stopped : State → State
stopped state = record (next_generation state) { name = at_rest state.name }

-- the running job advances by one step
abbrev pub advanced : State → State
advanced state = record state { steps = state.steps + 1 }

-- an upload or a change
abbrev pub load : State → List ℕ → Result Circuit BlifFault → Option State × Reply
load state text said = with_circuit said (λ circuit. (Some (with_netlist state text), Accepted Loaded))

-- a packing
abbrev pub pack : State → Result Circuit BlifFault → Option State × Reply
pack state said = with_circuit said (λ circuit. pack_unless state (unfit_of circuit state.arch))

-- a placing
abbrev pub placing : State → ℕ → ℕ → Result Circuit BlifFault → Option State × Reply
placing state seed effort said = with_circuit said (place state seed effort)

-- the `.net` file
abbrev pub net : State → Result Circuit BlifFault → Option State × Reply
net state said = with_circuit said (λ circuit. (None, File NetFile (net_text_of (packed_of circuit state.arch))))
