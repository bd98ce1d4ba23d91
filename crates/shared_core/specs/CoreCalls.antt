-- How each call changes the core's account. How it changes the service is said of the service
-- inside.
use Rattle.std.specs.Prelude.{ℕ, ◌≡◌, ◌+◌, ◌<◌, [], ◌∷◌, ◌++◌, true, false, Option, Some, None, Result, Ok, Err, length, replicate}
use Rattle.std.specs.declared.alloc.AllocError.{AllocError}
use Rattle.shared_core.specs.declared.shared.TheConstants.{MAX_WORKERS}
use Rattle.shared_core.specs.Prelude.{MAX_STRIPS, JobStep, OpRefusal, NotServed, PutReply, Recorded, Full, Gone, Receipted, ServiceState}
use Rattle.shared_core.specs.CoreState.{AreSlotted, CoreState, LeaseState, Marked, ShareState, can_lease, with_lease, is_live, puts_in, with_changed_marks, no_marks, with_holder, with_place}

-- only the service changes
abbrev pub ChangesService : CoreState → CoreState → Type 0
ChangesService old new = new ≡ record old { service = new.service }

-- a core that is made with a service: nothing is marked, and the put entries that there are belong
-- to no share
pub record IsWrapped (service : ServiceState) (core : CoreState) : Type 0 where
  pub same : core.service ≡ service
  pub marks : core.marks ≡ replicate (length service.histories) no_marks
  pub slotted : AreSlotted (is_live service.histories) core.slots.holders
  pub none_queued : core.slots.queued ≡ replicate MAX_STRIPS false
  pub shares : core.shares ≡ 0
  pub own_puts : core.own_puts ≡ puts_in service.histories

-- an admission gives the id the first slot number that is nobody's
abbrev pub Admits : CoreState → Result (ℕ × ℕ) OpRefusal → CoreState → Type 0
Admits old (Ok told) new = new ≡ record old { service = new.service; marks = old.marks ++ no_marks ∷ []; slots = with_holder old.slots 0 told.0 }
Admits old (Err refusal) new = new ≡ old

-- an eviction frees it
abbrev pub Evicts : CoreState → ℕ → Result (Unit {0}) OpRefusal → CoreState → Type 0
Evicts old id (Ok nothing) new = new ≡ record old { service = new.service; slots = with_holder old.slots id 0 }
Evicts old id (Err refusal) new = new ≡ old

-- a receipt's place is one more mark
abbrev pub MarksPlace : Marked → Result Receipted NotServed → Marked → Type 0
MarksPlace old (Ok receipt) new = new ≡ with_place receipt.place old
MarksPlace old (Err refusal) new = new ≡ old

-- the entry of a command that is served is marked
abbrev pub MarksEntry : CoreState → ℕ → Result Receipted NotServed → CoreState → Type 0
MarksEntry old id (Ok receipt) new = new ≡ record old { service = new.service; marks = with_changed_marks old.marks id (with_place receipt.place) }
MarksEntry old id (Err refusal) new = new ≡ old

-- the lease counts the entry
abbrev pub CountsCommand : LeaseState → Result Receipted NotServed → LeaseState → Type 0
CountsCommand old (Ok receipt) new = new ≡ record old { made = old.made + 1 }
CountsCommand old (Err refusal) new = new ≡ old

-- the number of entries of a put
abbrev pub puts_of : Result PutReply (JobStep × AllocError) → ℕ
puts_of (Ok (Recorded reply)) = 1
puts_of (Ok Full) = 0
puts_of (Ok Gone) = 0
puts_of (Err back) = 0

-- a put that is recorded is counted by the share
abbrev pub CountsPut : ShareState → Result PutReply (JobStep × AllocError) → ShareState → Type 0
CountsPut old answer new = new ≡ record old { puts = old.puts + puts_of answer }

-- or the core counts it
abbrev pub CountsOwnPut : CoreState → Result PutReply (JobStep × AllocError) → CoreState → Type 0
CountsOwnPut old answer new = new ≡ record old { service = new.service; own_puts = old.own_puts + puts_of answer }

-- a lease is given exactly if the tenancy is live and its lease wasn't given; it has made no entry
abbrev pub GivesLease : CoreState → ℕ → Option LeaseState → CoreState → Type 0
GivesLease old id None new = (can_lease old id ≡ false) × (new ≡ old)
GivesLease old id (Some lease) new = (can_lease old id ≡ true) × (lease ≡ record { id = id; made = 0 }) × (new ≡ record old { marks = with_changed_marks old.marks id with_lease })

-- a share is given exactly if fewer than 16 were; it has counted no put
abbrev pub GivesShare : CoreState → Option ShareState → CoreState → Type 0
GivesShare old None new = (old.shares ≡ MAX_WORKERS) × (new ≡ old)
GivesShare old (Some share) new = (old.shares < MAX_WORKERS) × (share ≡ record { puts = 0 }) × (new ≡ record old { shares = old.shares + 1 })
