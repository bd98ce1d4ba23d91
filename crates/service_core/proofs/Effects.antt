-- How a call changes the state: in one of six ways, whichever call it is.
use Rattle.service_core.proofs.Prelude.{◌≡◌, ℕ, List, [], ◌∷◌, Bool, Option, Some, None, Ok, Err, refl, ◌∙◌, arith, IsSomeAnd, IsFirstFit, IsParted, with_moved, Command as Asked, step, JobState, Entry, NoRoom, TooManyStrips, BadWidth, IdsSpent, NoMemory, JournalFull, NoSuchTenancy, Recorded, Full, Gone, History, state_of, Receipted, ServiceState, history_of, live_of, with_tenancy, without_tenancy, Call, Admit, Evict, GiveBack, Happens, Move, Put, Run, Take, Tenant, CanAdmit, IsGivenBackTo, IsReceipt, IsStepOf, step_entry, IsService, with_entry_of, with_here_of}
use Rattle.tenant_slot.specs.declared.command.Command.{Command}
use Rattle.service_core.specs.declared.op_refusal.OpRefusal.TheVariants.{NoMemory as OpNoMemory, NoSuchTenancy as OpNoSuchTenancy}
use Rattle.service_core.specs.Run.{Owners}
use Rattle.service_core.proofs.Keeps.{IsService-admitted, IsService-entry, IsService-evicted, IsService-here}
use Rattle.service_core.proofs.MovedStrips.{IsService-moved}

-- an entry is the next one of a tenancy's journal
pub record IsNext (old : ServiceState) (id : ℕ) (e : Entry) (h : History) : Type 0 where
  pub here : history_of old.histories id ≡ Some h
  pub told : (step (state_of h) e.event).1 ≡ Some e.reply

-- that tenancy's strip at that offset
abbrev pub with_offset_of : ServiceState → ℕ → ℕ → ServiceState
with_offset_of state id offset = record state { plan = with_moved state.plan id offset }

pub data Effect (old new : ServiceState) : Type 0 where
  Nothing : new ≡ old → Effect old new
  Admitted : (width offset : ℕ) → CanAdmit old width → IsFirstFit old.plan width (Some offset) → new ≡ with_tenancy old width offset → Effect old new
  Evicted : (id : ℕ) → new ≡ without_tenancy old id → Effect old new
  Moved : (id offset : ℕ) → IsParted (with_moved old.plan id offset) → new ≡ with_offset_of old id offset → Effect old new
  Entered : (id : ℕ) (e : Entry) (h : History) → IsNext old id e h → new ≡ with_entry_of old id e → Effect old new
  Turned : (id : ℕ) (here : Option Bool) → new ≡ with_here_of old id here → Effect old new

-- what holds of the live tenancy
pub of_live : (P : History → Type 0) (old : ServiceState) (id : ℕ) → IsSomeAnd (live_of old.histories id) P → (h : History) × (history_of old.histories id ≡ Some h) × P h
of_live P old id is = grind arith

-- a command that is served is the next entry
abbrev pub served_entry : Command → Receipted → Entry
served_entry command r = record { event = Asked command; reply = r.reply }

pub served_next : (old : ServiceState) (id : ℕ) (command : Command) (r : Receipted) → IsReceipt (live_of old.histories id) id command r → (h : History) × IsNext old id (served_entry command r) h
served_next old id command r is = grind arith

given_effect : (o : Option History) (old : ServiceState) (job : JobState) (new : ServiceState) → IsGivenBackTo o old job new → Effect old new
given_effect None old job new given = Nothing given
given_effect (Some h) old job new given = Turned job.step.id given.0 given.2

pub effect : (old : ServiceState) (call : Call) (new : ServiceState) → Happens old call new → Effect old new
effect old (Admit width (Ok given)) new happens = Admitted width given.1 happens.0 happens.2 happens.3
effect old (Admit width (Err refusal)) new happens = Nothing happens.1
effect old (Evict id (Ok nothing)) new happens = Evicted id happens.1
effect old (Evict id (Err refusal)) new happens = Nothing happens.2
effect old (Move id offset (Ok nothing)) new happens = Moved id offset happens.1 happens.2
effect old (Move id offset (Err OpNoSuchTenancy)) new happens = Nothing happens.1
effect old (Move id offset (Err NoRoom)) new happens = Nothing happens.2
effect old (Move id offset (Err OpNoMemory)) new never = absurd never
effect old (Move id offset (Err TooManyStrips)) new never = absurd never
effect old (Move id offset (Err BadWidth)) new never = absurd never
effect old (Move id offset (Err IdsSpent)) new never = absurd never
effect old (Tenant id command (Ok r)) new happens = let next : (h : History) × IsNext old id (served_entry command r) h = served_next old id command r happens.0 in Entered id (served_entry command r) next.0 next.1 happens.1
effect old (Tenant id command (Err NoMemory)) new happens = Nothing happens.1
effect old (Tenant id command (Err (JournalFull note))) new happens = Nothing happens.2
effect old (Tenant id command (Err (NoSuchTenancy note))) new happens = Nothing happens.2
effect old (Take id (Some job)) new happens = Turned id None happens.1
effect old (Take id None) new happens = Nothing happens.1
effect old (Put done foreign (Ok (Recorded reply))) new happens =
    let got : (h : History) × (history_of old.histories done.id ≡ Some h) × IsStepOf h done foreign reply = of_live (λ h. IsStepOf h done foreign reply) old done.id happens.0 in
    Entered done.id (step_entry done foreign reply) got.0 (record { here = got.1; told = got.2.told }) happens.1
effect old (Put done foreign (Ok Full)) new happens = Nothing happens.1
effect old (Put done foreign (Ok Gone)) new happens = Nothing happens.1
effect old (Put done foreign (Err back)) new happens = Nothing happens.2
effect old (GiveBack job) new happens = given_effect (live_of old.histories job.step.id) old job new happens
effect old (Owners list) new happens = Nothing happens.1

-- the device stays
effect_device : (old new : ServiceState) → Effect old new → new.device ≡ old.device
effect_device old new h1 = grind arith

-- each call keeps the core's invariant
abbrev pub Kept : ServiceState → Type 0
Kept s = IsService s.device s.plan.strips s.histories

effect_keeps : (old new : ServiceState) → Effect old new → Kept old → Kept new
effect_keeps old new (Nothing same) was = rw same was
effect_keeps old new (Admitted width offset can fits is) was = rw is (IsService-admitted old.device old.plan.strips old.histories width offset was can.ids_left)
effect_keeps old new (Evicted id is) was = rw is (IsService-evicted old.device old.plan.strips old.histories id was)
effect_keeps old new (Moved id offset parted is) was = rw is (IsService-moved old.device old.plan.strips old.histories id offset was)
effect_keeps old new (Entered id e h next is) was = rw is (IsService-entry old.device old.plan.strips old.histories id h e was next.here next.told)
effect_keeps old new (Turned id here is) was = rw is (IsService-here old.device old.plan.strips old.histories id here was)

pub kept_after : (old : ServiceState) (call : Call) (new : ServiceState) → Happens old call new → Kept old → Kept new
kept_after old call new happens was = effect_keeps old new (effect old call new happens) was

-- over a run
pub run_device : (old : ServiceState) (calls : List Call) (new : ServiceState) → Run old calls new → new.device ≡ old.device
run_device old [] new run = rw run refl
run_device old (call ∷ calls) new run = run_device run.0 calls new run.2 ∙ effect_device old run.0 (effect old call run.0 run.1)

pub run_keeps : (old : ServiceState) (calls : List Call) (new : ServiceState) → Run old calls new → Kept old → Kept new
run_keeps old [] new run was = rw run was
run_keeps old (call ∷ calls) new run was = run_keeps run.0 calls new run.2 (kept_after old call run.0 run.1 was)
