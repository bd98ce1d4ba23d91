-- The definitions on small cases, computed by the checker.
use Rattle.service_core.proofs.Prelude.{◌≡◌, List, [], ◌∷◌, true, false, Ok, Err, Some, None, refl, Empty, Status, Withdraw, Command as Asked, JobStep, JobState, Refused, Step, Advanced, Stale, WrongState, Device, NoMemory, JournalFull, NoSuchTenancy, Recorded, Full, Gone, History, closed_history, admitted_history, empty_service, history_of, live_of, with_changed, strip_on, with_tenancy, without_tenancy, Call, Admit, Evict, GiveBack, Put, Take, Tenant, step_event, own_events, own_replies}
use Rattle.service_core.specs.declared.not_served.NoteCause.TheVariants as cause
use Rattle.service_core.specs.Run.{Owners}

-- the strip of a tenancy has its own width, and the device's rows and pads
strip_of_two_columns : (device : Device) → strip_on device 2 ≡ record { width = 2; rows = device.rows; io_rat = device.arch.io_rat }
strip_of_two_columns device = refl

-- ids count from 1, and a closed tenancy keeps its history, but is not live
second_history : (first second : History) → history_of (first ∷ second ∷ []) 2 ≡ Some second
second_history first second = refl

no_history_at_zero : (first second : History) → history_of (first ∷ second ∷ []) 0 ≡ None
no_history_at_zero first second = refl

one_closed : (device : Device) → live_of (with_changed (admitted_history device 1 4 ∷ admitted_history device 2 3 ∷ []) 2 closed_history) 2 ≡ None
one_closed device = refl

other_live : (device : Device) → live_of (with_changed (admitted_history device 1 4 ∷ admitted_history device 2 3 ∷ []) 2 closed_history) 1 ≡ Some (admitted_history device 1 4)
other_live device = refl

-- two tenancies are admitted, and the first is evicted: its id is not given again
admitted_and_evicted : (device : Device) →
    (without_tenancy (with_tenancy (with_tenancy (empty_service device) 4 0) 4 5) 1)
    ≡ record {
      device = device;
      plan = record { columns = device.columns; strips = record { id = 2; offset = 5; width = 4 } ∷ [] };
      histories = closed_history (admitted_history device 1 4) ∷ admitted_history device 2 4 ∷ [];
    }
admitted_and_evicted device = refl

-- a tenancy's own events are its served commands, and those that found its journal full; not the
-- commands of others, those that ran out of memory or found no tenancy, nor a look at the book
abbrev calls : List Call
calls =
    Admit 1 (Ok (1, 0))
    ∷ Tenant 1 Withdraw (Ok (record { id = 1; place = 0; command = Withdraw; reply = Refused (WrongState Empty) }))
    ∷ Tenant 2 Status (Err (NoSuchTenancy (record { id = 2; cause = cause.NoSuchTenancy })))
    ∷ Tenant 1 Status (Err NoMemory)
    ∷ Tenant 1 Status (Err (JournalFull (record { id = 1; cause = cause.JournalFull })))
    ∷ Owners []
    ∷ Evict 1 (Ok tt)
    ∷ []

own_events_of_one : own_events 1 calls ≡ Asked Withdraw ∷ Asked Status ∷ []
own_events_of_one = refl

own_replies_of_one : own_replies 1 calls ≡ Some (Refused (WrongState Empty)) ∷ None ∷ []
own_replies_of_one = refl

own_events_of_another : own_events 2 calls ≡ []
own_events_of_another = refl

-- they also include the steps of its jobs that were put and recorded, or found its journal full;
-- not takes, not jobs given back, nor steps of others' jobs
abbrev steps : JobState → JobStep → JobStep → List Call
steps job own other =
    Take own.id (Some job)
    ∷ GiveBack job
    ∷ Put own false (Ok (Recorded Advanced))
    ∷ Put other false (Ok (Recorded Advanced))
    ∷ Put own true (Ok (Recorded Stale))
    ∷ Put own false (Ok Full)
    ∷ Evict own.id (Ok tt)
    ∷ Put own false (Ok Gone)
    ∷ []

own_steps : (job : JobState) (own other : JobStep) → own_events 1 (steps job (record own { id = 1 }) (record other { id = 2 })) ≡ step_event own false ∷ step_event own true ∷ step_event own false ∷ []
own_steps job own other = refl

own_step_replies : (job : JobState) (own other : JobStep) → own_replies 1 (steps job (record own { id = 1 }) (record other { id = 2 })) ≡ Some (Step Advanced) ∷ Some (Step Stale) ∷ None ∷ []
own_step_replies job own other = refl
