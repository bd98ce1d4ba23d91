-- How a call of a live tenancy changes the core.
use Rattle.service_core.proofs.Prelude.{◌≡◌, ℕ, ◌-◌, ◌<◌, List, length, get_or, Result, Ok, Err, Option, Some, None, refl, ap, arith, AllocError, set, PlacedStrip, JobStep, JobState, Command as Asked, Origin, Reply, StepReply, NotAnswered, IsOrigin, Device, Entry, NoMemory as NoMemoryToServe, JournalFull as JournalFullNote, Recorded, History, slot_of, with_entry, with_here, ServiceState, with_changed, IsGivenBack, IsOriginIn, IsServed, IsTaken, Puts, step_entry, GivesHistoryBack, PutsHistory, ServesHistory, TakesHistory, IsLiveIn, IsService}
use Rattle.tenant_slot.specs.declared.command.Command.{Command}
use Rattle.tenant_slot.specs.declared.not_served.NotAnswered.TheVariants.{NoMemory, JournalFull}
use Rattle.service_core.specs.declared.not_served.NoteCause.TheVariants.{JournalFull as CauseJournalFull}
use Rattle.service_core.proofs.Keeps.{IsService-entry, IsService-here, history-live, live_is, set-kept, set-live}

-- the core with that tenancy written back
abbrev pub written : ServiceState → ℕ → History → ServiceState
written old id new = record old { histories = set old.histories (id - 1) new }

kept_as_it_was : (old : ServiceState) (id : ℕ) (here new : History) → here ≡ get_or old.histories (id - 1) here → new ≡ here → written old id new ≡ old
kept_as_it_was old id here new is same = ap (λ hs. record old { histories = hs }) (set-kept old.histories id here new is same)

changed_to : (old : ServiceState) (id : ℕ) (here : History) (change : History → History) (new : History) → IsLiveIn old.histories id → here ≡ get_or old.histories (id - 1) here → new ≡ change here → written old id new ≡ record old { histories = with_changed old.histories id change }
changed_to old id here change new live is changes = ap (λ hs. record old { histories = hs }) (set-live old.histories id here change new live is changes)

-- a command
pub IsService-served : (device : Device) (strips : List PlacedStrip) (hs : List History) (id : ℕ) (old : History) (command : Command) (answer : Result (Command × Reply) NotAnswered) (new : History) → IsService device strips hs → IsLiveIn hs id → old ≡ get_or hs (id - 1) old → ServesHistory old command answer new → IsService device strips (set hs (id - 1) new)
IsService-served device strips hs id old command (Ok told) new was live is served =
    let e : Entry = record { event = Asked command; reply = told.1 } in
    rw (set-live hs id old (with_entry e) new live is served.2) (IsService-entry device strips hs id old e was (history-live hs id old live is) served.1)
IsService-served device strips hs id old command (Err JournalFull) new was live is served = rw (set-kept hs id old new is served.1) was
IsService-served device strips hs id old command (Err NoMemory) new was live is served = rw (set-kept hs id old new is served.1) was

pub IsServed-ok : (old : ServiceState) (id : ℕ) (here : History) (command : Command) (told : Command × Reply) (new : History) → IsLiveIn old.histories id → here ≡ get_or old.histories (id - 1) here → ServesHistory here command (Ok told) new → IsServed old id command (Ok (record { id = id; place = length here.entries; command = told.0; reply = told.1 })) (written old id new)
IsServed-ok old id here command told new live is served = grind (arith, changed_to)

pub IsServed-full : (old : ServiceState) (id : ℕ) (here : History) (command : Command) (new : History) → IsLiveIn old.histories id → here ≡ get_or old.histories (id - 1) here → ServesHistory here command (Err JournalFull) new → IsServed old id command (Err (JournalFullNote (record { id = id; cause = CauseJournalFull }))) (written old id new)
IsServed-full old id here command new live is served = (refl, rw (live_is old.histories id here live is) served.0, kept_as_it_was old id here new is served.1)

pub IsServed-no_memory : (old : ServiceState) (id : ℕ) (here : History) (command : Command) (new : History) → IsLiveIn old.histories id → here ≡ get_or old.histories (id - 1) here → ServesHistory here command (Err NoMemory) new → IsServed old id command (Err NoMemoryToServe) (written old id new)
IsServed-no_memory old id here command new live is served = (rw (live_is old.histories id here live is) served.0, kept_as_it_was old id here new is served.1)

-- a take
pub IsService-taken : (device : Device) (strips : List PlacedStrip) (hs : List History) (id : ℕ) (old : History) (answer : Option JobState) (new : History) → IsService device strips hs → IsLiveIn hs id → old ≡ get_or hs (id - 1) old → TakesHistory old answer new → IsService device strips (set hs (id - 1) new)
IsService-taken device strips hs id old (Some job) new was live is taken = rw (set-live hs id old (with_here None) new live is taken.3) (IsService-here device strips hs id None was)
IsService-taken device strips hs id old None new was live is taken = rw (set-kept hs id old new is taken.1) was

pub IsTaken-live : (old : ServiceState) (id : ℕ) (here : History) (answer : Option JobState) (new : History) → IsLiveIn old.histories id → here ≡ get_or old.histories (id - 1) here → here.id ≡ id → TakesHistory here answer new → IsTaken old id answer (written old id new)
IsTaken-live old id here answer new live is its taken = grind (arith, changed_to, kept_as_it_was)

-- what is known of a step is known of it in its tenancy's slot
pub origin_at : (state : ServiceState) (here : History) (done : JobStep) (origin : Origin) → IsLiveIn state.histories done.id → here ≡ get_or state.histories (done.id - 1) here → IsOriginIn state done origin → IsOrigin (slot_of here) done origin
origin_at state here done origin live is next = grind arith

-- a put
pub IsService-put : (device : Device) (strips : List PlacedStrip) (hs : List History) (id : ℕ) (old : History) (done : JobStep) (answer : Result StepReply (JobStep × AllocError)) (new : History) → IsService device strips hs → IsLiveIn hs id → old ≡ get_or hs (id - 1) old → PutsHistory old done answer new → IsService device strips (set hs (id - 1) new)
IsService-put device strips hs id old done (Ok reply) new was live is put =
    let e : Entry = step_entry done put.0 reply in
    rw (set-live hs id old (with_entry e) new live is put.2) (IsService-entry device strips hs id old e was (history-live hs id old live is) put.1.told)
IsService-put device strips hs id old done (Err back) new was live is put = rw (set-kept hs id old new is put.1) was

pub Puts-recorded : (old : ServiceState) (here : History) (done : JobStep) (reply : StepReply) (new : History) → IsLiveIn old.histories done.id → here ≡ get_or old.histories (done.id - 1) here → PutsHistory here done (Ok reply) new → Puts old done (Ok (Recorded reply)) (written old done.id new)
Puts-recorded old here done reply new live is put = grind (arith, changed_to)

pub Puts-no_memory : (old : ServiceState) (here : History) (done : JobStep) (back : JobStep × AllocError) (new : History) → IsLiveIn old.histories done.id → here ≡ get_or old.histories (done.id - 1) here → length here.entries < 65536 → PutsHistory here done (Err back) new → Puts old done (Err back) (written old done.id new)
Puts-no_memory old here done back new live is room put = grind (arith, kept_as_it_was)

-- a job that is given back
pub IsService-given : (device : Device) (strips : List PlacedStrip) (hs : List History) (id : ℕ) (old : History) (job : JobState) (new : History) → IsService device strips hs → IsLiveIn hs id → old ≡ get_or hs (id - 1) old → GivesHistoryBack old job new → IsService device strips (set hs (id - 1) new)
IsService-given device strips hs id old job new was live is given = rw (set-live hs id old (with_here given.0) new live is given.2) (IsService-here device strips hs id given.0 was)

pub IsGivenBack-live : (old : ServiceState) (here : History) (job : JobState) (new : History) → IsLiveIn old.histories job.step.id → here ≡ get_or old.histories (job.step.id - 1) here → GivesHistoryBack here job new → IsGivenBack old job (written old job.step.id new)
IsGivenBack-live old here job new live is given = grind (arith, changed_to)
