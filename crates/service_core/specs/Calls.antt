-- The possible results of each function of the core, with the states before and after it, as calls.
use Rattle.std.specs.Prelude.{ℕ, ◌≡◌, Bool, false, Option, Some, IsSomeAnd, Result, ⊤}
use Rattle.std.specs.Option.{option_map_or}
use Rattle.std.specs.declared.alloc.AllocError.{AllocError}
use Rattle.service_core.specs.Prelude.{JobStep, JobState, Command, Origin, Running, Unknown, is_takeable, next_job}
use Rattle.service_core.specs.declared.op_refusal.OpRefusal.{OpRefusal}
use Rattle.service_core.specs.declared.not_served.NotServed.{NotServed}
use Rattle.service_core.specs.declared.put_reply.PutReply.{PutReply}
use Rattle.service_core.specs.History.{History, slot_of}
use Rattle.service_core.specs.Receipt.{Receipted}
use Rattle.service_core.specs.Run.{Happens}
use Rattle.service_core.specs.Run.Call.{Admit, Evict, Move, Tenant, Take, Put, GiveBack}
use Rattle.service_core.specs.Service.{ServiceState, live_of}

abbrev pub IsAdmitted : ServiceState → ℕ → Result (ℕ × ℕ) OpRefusal → ServiceState → Type 0
IsAdmitted old width answer new = Happens old (Admit width answer) new

abbrev pub IsEvicted : ServiceState → ℕ → Result (Unit {0}) OpRefusal → ServiceState → Type 0
IsEvicted old id answer new = Happens old (Evict id answer) new

abbrev pub IsMoved : ServiceState → ℕ → ℕ → Result (Unit {0}) OpRefusal → ServiceState → Type 0
IsMoved old id offset answer new = Happens old (Move id offset answer) new

abbrev pub IsServed : ServiceState → ℕ → Command → Result Receipted NotServed → ServiceState → Type 0
IsServed old id command answer new = Happens old (Tenant id command answer) new

abbrev pub IsTaken : ServiceState → ℕ → Option JobState → ServiceState → Type 0
IsTaken old id answer new = Happens old (Take id answer) new

abbrev pub IsPut : ServiceState → JobStep → Bool → Result PutReply (JobStep × AllocError) → ServiceState → Type 0
IsPut old done foreign answer new = Happens old (Put done foreign answer) new

-- a put; the flag of its event isn't part of the reply
abbrev pub Puts : ServiceState → JobStep → Result PutReply (JobStep × AllocError) → ServiceState → Type 0
Puts old done answer new = (foreign : Bool) × IsPut old done foreign answer new

abbrev pub IsGivenBack : ServiceState → JobState → ServiceState → Type 0
IsGivenBack old job new = Happens old (GiveBack job) new

-- a live tenancy's job runs, its next step is here, and its journal has space for an entry
abbrev pub takeable_in : Option History → Bool
takeable_in live = option_map_or (λ h. is_takeable (slot_of h)) live false

-- the step is the next one of a live tenancy's running job: the tenancy, the generation, the number
-- and all sources are its own
abbrev pub IsNextStep : ServiceState → JobStep → Type 0
IsNextStep state done = IsSomeAnd (live_of state.histories done.id) (λ h. next_job (slot_of h) ≡ Some done)

-- what the caller knows of a step that it puts is true
abbrev pub IsOriginIn : ServiceState → JobStep → Origin → Type 0
IsOriginIn state done Running = IsNextStep state done
IsOriginIn state done Unknown = ⊤
