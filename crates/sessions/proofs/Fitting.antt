-- A job that the core gave out has a window on the device's own graph.
use Rattle.sessions.proofs.Prelude.{◌≡◌, ◌∙◌, ℕ, ◌+◌, ◌<◌, ◌≤◌, List, [], ◌∷◌, true, false, not, eqb, get_or, Option, Some, None, Result, refl, sym, ap, subst, arith, AllocError, ◌==◌, All, IfOk, IsSome, is_some, option_map, false≢true, Decides-eqb, All-filter, All-head, All-map, All-push, All-tail, none-some, same_Some, Strip, Basis, PlacedStrip, moved_strip, offset_of, strip_of, device_strip, is_on_device, JobKind, JobStep, JobState, State, kind_that_runs, sources_of, start, SlotState, next_job, Device, IsNextStep, IsTaken, AreParted, History, events_of, slot_of, state_of, Call, Run, Take, AreAlone, IsAloneOn, ServiceState, empty_service, history_of, live_of, live_width, placed_width, strip_on, has_offset, placed_strip, Admitted, Effect, Entered, Evicted, Moved, Turned, effect, run_device, run_keeps, IsOnStrip, events_stay, if_live_some, All-history_of, same_width, are_parted, HasWindow, own_graph}
use Rattle.std.proofs.Common.{if◌then◌else◌}
use Rattle.service_core.proofs.Effects.{Nothing}
use Rattle.sessions.proofs.Counted.{some_and, taken_next}
use Rattle.sessions.proofs.StepLemmas.{Run-append}

-- no strip is empty
abbrev pub AreWide : ServiceState → Type 0
AreWide state = All (λ s. 0 < s.width) state.plan.strips

wide_after : (old new : ServiceState) → Effect old new → AreWide old → AreWide new
wide_after old new (Nothing same) was = rw same was
wide_after old new (Admitted width offset can fits is) was = rw is (All-push (λ (s : PlacedStrip). 0 < s.width) old.plan.strips _ was fits.0.wide)
wide_after old new (Evicted id is) was = rw is (All-filter (λ (s : PlacedStrip). not (eqb s.id id)) (λ (s : PlacedStrip). 0 < s.width) old.plan.strips was)
wide_after old new (Moved id offset parted is) was = rw is (All-map (λ (s : PlacedStrip). 0 < s.width) (moved_strip id offset) old.plan.strips (λ k d lt. subst (λ w. 0 < w) (sym (same_width id offset (get_or old.plan.strips k d))) (was k d lt)))
wide_after old new (Entered id e h next is) was = rw is was
wide_after old new (Turned id out is) was = rw is was

run_wide : (old : ServiceState) (calls : List Call) (new : ServiceState) → Run old calls new → AreWide old → AreWide new
run_wide old [] new run was = rw run was
run_wide old (call ∷ calls) new run was = run_wide run.0 calls new run.2 (wide_after old run.0 (effect old call run.0 run.1) was)

strip_all : (P : PlacedStrip → Type 0) (strips : List PlacedStrip) (id : ℕ) (s : PlacedStrip) → strip_of strips id ≡ Some s → All P strips → P s
strip_all P [] id s is all = absurd (none-some s is)
strip_all P (t ∷ strips) id s is all =
    elim (eqb t.id id) as (λ b. (if b then Some t else strip_of strips id) ≡ Some s → P s) [
      | true ↦ λ same. subst P (same_Some _ _ same) (All-head P t strips all)
      | false ↦ λ rest. strip_all P strips id s rest (All-tail P t strips all)
    ] is

-- a strip has its tenancy's width
its_width : (strips : List PlacedStrip) (hs : List History) (id : ℕ) (s : PlacedStrip) (h : History) → ((j : ℕ) → placed_width strips j ≡ live_width hs j) → strip_of strips id ≡ Some s → live_of hs id ≡ Some h → s.width ≡ h.strip.width
its_width strips hs id s h linked found live = grind arith

record IsJobOf (state : State) (step : JobStep) : Type 0 where
  arch : step.sources.arch ≡ state.arch
  strip : step.sources.strip ≡ state.strip

job_of : (slot : SlotState) (kind : Option JobKind) (step : JobStep) →
    option_map (λ sources. record { id = slot.id; generation = slot.state.generation; number = slot.state.steps + 1; sources = sources }) (option_map (sources_of slot.state) kind) ≡ Some step → IsJobOf slot.state step
job_of slot kind step is = grind arith

same_number : (n : ℕ) → (n == n) ≡ true
same_number n = (Decides-eqb n n).1 refl

-- a strip within the columns is on its device
on_device : (device : Device) (width offset : ℕ) → 0 < width → offset + width ≤ device.columns → is_on_device (own_graph device).strip (strip_on device width) offset ≡ true
on_device device width offset wide inside = grind arith

-- a live tenancy's next step has its window at its strip
pub window_there : (state : ServiceState) (step : JobStep) → AreWide state → AreParted state.device state → AreAlone state → IsNextStep state step → HasWindow (own_graph state.device) state step
window_there state step wide parted all next =
    let device : Device = state.device in
    let was = some_and (λ h. next_job (slot_of h) ≡ Some step) (live_of state.histories step.id) next in
    let h : History = was.0 in
    let alone : IsAloneOn device h = All-history_of (IsAloneOn device) state.histories step.id h (if_live_some (history_of state.histories step.id) h was.1) all in
    let on : IsOnStrip h.arch h.strip (state_of h) = events_stay (start h.arch h.strip) (events_of h.entries) in
    let job : IsJobOf (state_of h) step = job_of (slot_of h) (kind_that_runs (state_of h).name) step was.2 in
    let place = has_offset state.plan.strips state.histories step.id h parted.of_live was.1 in
    let placed = placed_strip state.plan.strips step.id place.0 place.1 in
    let width : placed.0.width ≡ h.strip.width = its_width state.plan.strips state.histories step.id placed.0 h parted.of_live placed.1 was.1 in
    let filled : 0 < placed.0.width = strip_all (λ s. 0 < s.width) state.plan.strips step.id placed.0 placed.1 wide in
    let inside : placed.0.offset + placed.0.width ≤ state.plan.columns = strip_all (λ s. s.offset + s.width ≤ state.plan.columns) state.plan.strips step.id placed.0 placed.1 parted.parted.inside in
    let there : placed.0.offset ≡ place.0 = placed.2 in
    let columns : state.plan.columns ≡ device.columns = parted.columns in
    let stands : is_on_device (own_graph device).strip (strip_on device h.strip.width) place.0 ≡ true = on_device device h.strip.width place.0 (omega (arith, filled, width)) (omega (arith, inside, width, there, columns)) in
    let strip : step.sources.strip ≡ strip_on device h.strip.width = job.strip ∙ on.strip_is ∙ alone.strip in
    (place.0, place.1, sym (job.arch ∙ on.arch_is ∙ alone.arch), ap (λ (s : Strip). is_on_device (own_graph device).strip s place.0) strip ∙ stands)

-- so has a step that was just taken
pub taken_has_window : (device : Device) (before : List Call) (old new : ServiceState) (id : ℕ) (job : JobState) → Run (empty_service device) before old → IsTaken old id (Some job) new → HasWindow (own_graph device) new job.step
taken_has_window device before old new id job runs takes = grind (arith, run_device, are_parted, run_keeps, run_wide, window_there, Run-append (empty_service device) before old (Take id (Some job) ∷ []) new runs (new, takes, refl), taken_next old new id job takes)

-- the window that is made at the strip
pub window_made : (state : ServiceState) (step : JobStep) (graph : Basis) (offset : ℕ) → AreWide state → AreParted state.device state → AreAlone state → offset_of state.plan.strips step.id ≡ Some offset →
    graph ≡ own_graph state.device → IsNextStep state step → (graph.arch ≡ step.sources.arch) × (is_on_device graph.strip step.sources.strip offset ≡ true)
window_made state step graph offset wide parted all at own next = grind (arith, window_there)

-- the strip of a running job has an offset
pub stands_somewhere : (state : ServiceState) (step : JobStep) → AreWide state → AreParted state.device state → AreAlone state → offset_of state.plan.strips step.id ≡ None → IsNextStep state step → ⊥
stands_somewhere state step wide parted all none next = grind arith

-- the device's own graph has a window for a job that was just taken
pub taken_fits : {A : Type 0} (old mid : ServiceState) (id : ℕ) (job : JobState) (graph : Basis) (window : Option A) → IsTaken old id (Some job) mid →
    (graph ≡ own_graph mid.device → IsNextStep mid job.step → IsSome window) → graph ≡ own_graph old.device → IsSome window
taken_fits old mid id job graph window takes has own = grind (arith, taken_next)

pub none_never : {A : Type 0} (o : Option A) → o ≡ None → IsSome o → ⊥
none_never o none some = false≢true (sym (ap is_some none) ∙ some)

-- a graph of its architecture and of all its columns is the device's own
pub own_made : (device : Device) (made : Result Basis AllocError) → IfOk made (λ g. g.arch ≡ device.arch) → IfOk made (λ g. g.strip ≡ device_strip device.arch device.columns device.rows) → IfOk made (λ g. g ≡ own_graph device)
own_made device made arch strip = grind arith

-- the device doesn't change
pub own_after : (old : ServiceState) (calls : List Call) (new : ServiceState) (graph : Basis) → Run old calls new → graph ≡ own_graph old.device → graph ≡ own_graph new.device
own_after old calls new graph runs own = own ∙ ap own_graph (sym (run_device old calls new runs))
