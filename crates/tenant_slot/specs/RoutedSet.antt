-- What a tenancy's circuit occupies of its strip.
use Rattle.std.specs.Prelude.{List, []}
use Rattle.tenant_slot.specs.Prelude.{resources_of, Routing as RoutingJob, Resource}
use Rattle.tenant_slot.specs.declared.reply.StateName.{StateName}
use Rattle.tenant_slot.specs.declared.reply.StateName.TheVariants.{Routed}
use Rattle.tenant_slot.specs.SingleUser.{State, sources_of}

abbrev pub held_in : StateName → State → List Resource
held_in Routed state = resources_of (sources_of state RoutingJob)
held_in name state = []

-- in the state Routed: the pins and wires of its routes and the pads of its blocks; nothing in the
-- other states. They are in no particular order, and some occur more than once
unfoldable pub routed_set : State → List Resource
routed_set state = held_in state.name state
