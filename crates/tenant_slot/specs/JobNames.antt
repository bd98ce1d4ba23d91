-- Private: the states that a job of each kind starts from and runs in.
use Rattle.tenant_slot.specs.Prelude.{JobKind, Packing as PackingJob, Placing as PlacingJob, Routing as RoutingJob}
use Rattle.tenant_slot.specs.declared.reply.StateName.{StateName}
use Rattle.tenant_slot.specs.declared.reply.StateName.TheVariants.{Loaded, Packing, Packed, Placing, Placed, Routing}

-- the state that a job of that kind starts from
abbrev pub state_before : JobKind → StateName
state_before PackingJob = Loaded
state_before PlacingJob = Packed
state_before RoutingJob = Placed

-- the state that it runs in
abbrev pub state_during : JobKind → StateName
state_during PackingJob = Packing
state_during PlacingJob = Placing
state_during RoutingJob = Routing
