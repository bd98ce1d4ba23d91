-- A tenancy's view of a list of calls.
use Rattle.std.specs.Prelude.{ℕ, List, [], ◌∷◌, map, Ok, Err, Option, Some, None, ◌==◌, if◌then◌else◌}
use Rattle.std.specs.List.{flat_map}
use Rattle.service_core.specs.Prelude.{Event, Reply, Step}
use Rattle.tenant_slot.specs.declared.event.Event.TheVariants.{Command as Asked}
use Rattle.service_core.specs.declared.not_served.NotServed.TheVariants.{JournalFull}
use Rattle.service_core.specs.declared.put_reply.PutReply.TheVariants.{Recorded, Full}
use Rattle.service_core.specs.Run.{Call, step_event}
use Rattle.service_core.specs.Run.Call.{Tenant, Put}

-- an event of the tenancy `t` with its reply, if `t` is `id`
abbrev pub if_own : ℕ → ℕ → Event → Option Reply → List (Event × Option Reply)
if_own id t event reply = if t == id then (event, reply) ∷ [] else []

-- a call as an event of that tenancy, with its reply; the reply is `None` if the journal was full.
-- A call that ran out of memory or found no live tenancy, and every other call, is no event of it
abbrev pub own_exchange : ℕ → Call → List (Event × Option Reply)
own_exchange id (Tenant t command (Ok receipt)) = if_own id t (Asked command) (Some receipt.reply)
own_exchange id (Tenant t command (Err (JournalFull note))) = if_own id t (Asked command) None
own_exchange id (Put done foreign (Ok (Recorded reply))) = if_own id done.id (step_event done foreign) (Some (Step reply))
own_exchange id (Put done foreign (Ok Full)) = if_own id done.id (step_event done foreign) None
own_exchange id call = []

abbrev pub own_exchanges : ℕ → List Call → List (Event × Option Reply)
own_exchanges id calls = flat_map (own_exchange id) calls

-- a tenancy's own events, in order
abbrev pub own_events : ℕ → List Call → List Event
own_events id calls = map (λ exchange. exchange.0) (own_exchanges id calls)

-- and their replies
abbrev pub own_replies : ℕ → List Call → List (Option Reply)
own_replies id calls = map (λ exchange. exchange.1) (own_exchanges id calls)
