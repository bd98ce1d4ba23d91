-- Private: a work after one more step, and the kind of job that it belongs to.
use Rattle.std.specs.Prelude.{ℕ, ◌≡◌, ◌+◌, nat_lt, if◌then◌else◌}
use Rattle.job_state.specs.Prelude.{Arch, Circuit, packed_of, packing_steps, Basis, PlacingUnderWay, is_past_last, one_more}
use Rattle.job_state.specs.declared.sources.JobKind.{JobKind}
use Rattle.job_state.specs.declared.sources.JobKind.TheVariants.{Packing as PackingJob, Placing as PlacingJob, Routing as RoutingJob}
use Rattle.job_state.specs.declared.work.Work.{Work}
use Rattle.job_state.specs.declared.work.Work.TheVariants.{Packing, Packed, Placing, Placed, Routing, Unlisted, Routed, GaveUp, NoPath}
use Rattle.job_state.specs.JobValue.{routing_after}

-- a packing after that number of steps
abbrev pub packing_after : Circuit → Arch → ℕ → Work
packing_after circuit arch steps =
    if nat_lt steps (packing_steps circuit arch) then Packing (record { circuit = circuit; arch = arch; made = steps }) else Packed (packed_of circuit arch)

-- the work of a placing in that state
abbrev pub placing_stands : PlacingUnderWay → Work
placing_stands placing = if is_past_last placing.strip placing.passes then Placed placing else Placing placing

-- whole work has no step left
abbrev pub next_work : Work → Work
next_work (Packing packing) = packing_after packing.circuit packing.arch (packing.made + 1)
next_work (Packed packed) = Packed packed
next_work (Placing placing) = placing_stands (one_more placing)
next_work (Placed placing) = Placed placing
next_work (Routing routing) = routing_after routing.basis routing.pads routing.state.nets (routing.state.iterations + 1)
next_work (Unlisted routed) = Routed routed
next_work (Routed routes) = Routed routes
next_work GaveUp = GaveUp
next_work (NoPath net) = NoPath net

-- the kind of job that makes such work
abbrev pub kind_of : Work → JobKind
kind_of (Packing packing) = PackingJob
kind_of (Packed packed) = PackingJob
kind_of (Placing placing) = PlacingJob
kind_of (Placed placing) = PlacingJob
kind_of (Routing routing) = RoutingJob
kind_of (Unlisted routed) = RoutingJob
kind_of (Routed routes) = RoutingJob
kind_of GaveUp = RoutingJob
kind_of (NoPath net) = RoutingJob

-- the basis of the graph for its step, if it needs one
abbrev pub graph_for : Basis → Work → Basis
graph_for other (Routing routing) = routing.basis
graph_for other work = other

-- the work that a step leaves if memory runs out: as it was, or with what its next step has found,
-- which isn't listed yet
abbrev pub IsLeft : Work → Work → Type 0
IsLeft old (Unlisted routed) = next_work old ≡ Routed routed
IsLeft old new = new ≡ old
