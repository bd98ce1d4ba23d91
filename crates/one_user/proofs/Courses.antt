-- The state in which each stage of a run hands on to the next.
use Rattle.one_user.proofs.Prelude.{ℕ, ◌≡◌, ◌+◌, ◌<◌, ◌≤◌, Bool, true, false, List, [], Ok, Option, Some, None, refl, ap, subst, ◌∙◌, arith, is_some, option_map, ◌&&◌, end_value, is_last, packing_sources, step_count, Progress, JobKind, failure_of, answer_to, state_at_end, routed_unless, kind_that_runs, start, SlotState, after_event, is_takeable, Upload, Pack, Route, Command as Asked, RoutingFailure, Refusal, StateName, Loaded, Packing, Packed, Placed, Routing, HasCounts, IsWhole, Task, routing_of, AreCounts, Finishes, IsAt, IsLoaded, IsPacked, IsPlaced, refusal_in, slot_in, state_at, task_in, PackedCounts, StepMade, Placing}
use Rattle.job_state.specs.declared.sources.JobKind.TheVariants.{Placing as PlacingJob}
use Rattle.job_state.specs.declared.sources.JobKind.TheVariants.{Packing as PackingJob, Routing as RoutingJob}
use Rattle.tenant_slot.specs.declared.command.Command.TheVariants.{Place}
use Rattle.one_user.proofs.Asking.{Leads}
use Rattle.one_user.proofs.Routings.{after_end}
use Rattle.one_user.proofs.Packings.{packing_told}

-- there is a step to take
pub takeable : (slot : SlotState) (kind : JobKind) → kind_that_runs slot.state.name ≡ Some kind → slot.here ≡ Some false → slot.state.entries < 65536 → is_takeable slot ≡ true
takeable slot kind runs here room = grind arith

-- the upload
pub upload_leads : (old : SlotState) (text : List ℕ) (seed effort : ℕ) → old ≡ slot_in old.id (start old.state.arch old.state.strip) → (new : SlotState) (refusal : Option Refusal) →
    refusal ≡ refusal_in (answer_to old.state (Asked (Upload text))).1 → new ≡ after_event old (Asked (Upload text)) →
    let task : Task = record { arch = old.state.arch; strip = old.state.strip; text = text; seed = seed; effort = effort } in
    Leads task IsLoaded (state_at task Loaded 0 0 0 1) new refusal
upload_leads old text seed effort at new refusal is after_it = grind arith

-- the packing
pub pack_leads : (task : Task) (old : SlotState) → IsAt task Loaded 0 0 1 old → IsLoaded task → (new : SlotState) (refusal : Option Refusal) →
    refusal ≡ refusal_in (answer_to old.state (Asked Pack)).1 → new ≡ after_event old (Asked Pack) →
    Leads task IsPacked (state_at task Packing 0 0 (old.state.generation + 1) (old.state.entries + 1)) new refusal
pack_leads task old at loaded new refusal is after_it = grind arith

-- the placing
pub place_leads : (task : Task) (old : SlotState) → IsAt task Packed 0 0 8194 old → IsPacked task → task.effort ≤ 100 → (new : SlotState) (refusal : Option Refusal) →
    refusal ≡ refusal_in (answer_to old.state (Asked (Place task.seed task.effort))).1 → new ≡ after_event old (Asked (Place task.seed task.effort)) →
    Leads task IsPlaced (state_at task Placing task.seed task.effort (old.state.generation + 1) (old.state.entries + 1)) new refusal
place_leads task old at packed low new refusal is after_it = grind arith

-- the routing
pub route_leads : (task : Task) (old : SlotState) → IsAt task Placed task.seed task.effort 16387 old → (new : SlotState) (refusal : Option Refusal) →
    refusal ≡ refusal_in (answer_to old.state (Asked Route)).1 → new ≡ after_event old (Asked Route) →
    (refusal ≡ None) × (new ≡ slot_in new.id (state_at task Routing task.seed task.effort (old.state.generation + 1) (old.state.entries + 1)))
route_leads task old at new refusal is after_it = grind arith

-- a slot in a state of that name, in terms of its own parts
pub at_own : (task : Task) (name : StateName) (seed effort generation entries most id : ℕ) (slot : SlotState) → slot ≡ slot_in id (state_at task name seed effort generation entries) → entries ≤ most → IsAt task name seed effort most slot
at_own task name seed effort generation entries most id slot is few = grind arith

-- the task made of these parts is the given one
pub task_own : (task : Task) (name : StateName) (seed effort most : ℕ) (slot : SlotState) → IsAt task name seed effort most slot → task_in slot.state task.seed task.effort ≡ task
task_own task name seed effort most slot at = ap (λ (s : SlotState). task_in s.state task.seed task.effort) at.is

-- the result of the last step of a packing
pub packing_done : (task : Task) (generation entries id : ℕ) (mid new : SlotState) (made : StepMade) → IsPacked task → mid ≡ slot_in id (state_at task Packing 0 0 generation entries) → entries ≤ 2 →
    ((kind : JobKind) → kind_that_runs mid.state.name ≡ Some kind → Finishes kind mid made new) →
    IsAt task Packed 0 0 8194 new × IsWhole made.progress × ((counts : PackedCounts) → HasCounts made.progress counts → AreCounts task counts)
packing_done task generation entries id mid new made packed is few finishes =
    let done = subst (λ (s : SlotState). (kind : JobKind) → kind_that_runs s.state.name ≡ Some kind → Finishes kind s made new) is finishes PackingJob refl in
    let told = packing_told task packed.circuit made.number made.progress packed.said done.last done.told in
    (at_own task Packed 0 0 generation (entries + made.number) 8194 id new done.after (omega (arith, few, done.few)), told.0, told.1)

-- the result of the last step of a placing
pub placing_done : (task : Task) (generation entries id : ℕ) (mid new : SlotState) (made : StepMade) → mid ≡ slot_in id (state_at task Placing task.seed task.effort generation entries) → entries ≤ 8195 →
    ((kind : JobKind) → kind_that_runs mid.state.name ≡ Some kind → Finishes kind mid made new) → IsAt task Placed task.seed task.effort 16387 new
placing_done task generation entries id mid new made is few finishes =
    let done = subst (λ (s : SlotState). (kind : JobKind) → kind_that_runs s.state.name ≡ Some kind → Finishes kind s made new) is finishes PlacingJob refl in
    at_own task Placed task.seed task.effort generation (entries + made.number) 16387 id new done.after (omega (arith, few, done.few))

-- the result of the last step of a routing
pub routing_done : (task : Task) (placed : IsPlaced task) (generation entries id : ℕ) (mid new : SlotState) (made : StepMade) → mid ≡ slot_in id (state_at task Routing task.seed task.effort generation entries) →
    ((kind : JobKind) → kind_that_runs mid.state.name ≡ Some kind → Finishes kind mid made new) →
    (new ≡ slot_in id (after_end task placed generation entries (entries + made.number) (failure_of (end_value (routing_of task))))) × (made.number ≡ step_count (routing_of task)) × (made.number ≤ 8192)
routing_done task placed generation entries id mid new made is finishes =
    let done = subst (λ (s : SlotState). (kind : JobKind) → kind_that_runs s.state.name ≡ Some kind → Finishes kind s made new) is finishes RoutingJob refl in
    (done.after, done.count, done.few)

-- the task made of a loaded slot's parts is the given one
pub loaded_own : (task : Task) (slot : SlotState) → slot ≡ slot_in slot.id (state_at task Loaded 0 0 0 1) → task_in slot.state task.seed task.effort ≡ task
loaded_own task slot is = ap (λ (s : SlotState). task_in s.state task.seed task.effort) is

-- a placed slot has its own seed and effort
pub placed_own : (task : Task) (slot : SlotState) → IsAt task Placed task.seed task.effort 16387 slot → task_in slot.state slot.state.seed slot.state.effort ≡ task
placed_own task slot at = ap (λ (s : SlotState). task_in s.state s.state.seed s.state.effort) at.is

pub at_self : (task : Task) (slot : SlotState) → IsAt task Placed task.seed task.effort 16387 slot → IsAt (task_in slot.state slot.state.seed slot.state.effort) Placed slot.state.seed slot.state.effort 16387 slot
at_self task slot at = grind arith
