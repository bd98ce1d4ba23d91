-- What each state of a tenancy keeps: the places that are kept are the strip's, a text that was
-- packed says a circuit that can be packed, one that was placed fits the strip, and a routing that
-- has ended in the state Routed has not failed.
use Rattle.layout_law.proofs.Prelude.{◌≡◌, ℕ, ◌+◌, Bool, true, false, if◌then◌else◌, List, [], ◌∷◌, Option, Some, None, Result, Ok, sym, ap, refl, subst, arith, ⊤, IsArch, Arch, circuit_of, Circuit, BlifFault, text_lawful, fit_of, ArePlaced, Fits, packed_of, unfit_of, IsPacked, packed_lawful, IsStripSize, Strip, KeptPlaces, PlacingUnderWay, is_past_last, places_by_block, AreKeptOn, placed_kept, none_kept, end_value, is_last, placing_at, placing_sources, step_count, value_of, work_of, JobKind, Packing as PackingJob, Placing as PlacingJob, Routing as RoutingJob, Work, Placed as PlacedWork, Command, Advance, Event, Reply, Accepted, Step, Advanced, Finished, Stale, StateName, Empty, Loaded, Packed, Routed, Unrouted, failure_of, kept_at_end, State, advance, after_reply, answer_to, state_at_end, is_lawful, is_next, with_kept_places, with_netlist, place, next_generation, run, kind_that_runs, serve, sources_of, start, state_after, step, with_circuit}
use Rattle.job_state.specs.declared.work.Work.TheVariants.{Placing as PlacingWork}
use Rattle.tenant_slot.specs.declared.reply.StateName.TheVariants.{Packing, Placing, Placed, Routing}
use Rattle.layout_law.proofs.Laws.{Laws}
use Rattle.layout_law.proofs.Places.{always_placed}

-- the text says a circuit that can be packed
pub record IsPackable (arch : Arch) (text : List ℕ) : Type 0 where
  pub circuit : Circuit
  pub says : circuit_of text arch.lut_size ≡ Ok circuit
  pub fit : unfit_of circuit arch ≡ None

-- and that fits the strip
pub record IsPlaceable (arch : Arch) (strip : Strip) (text : List ℕ) : Type 0 where
  pub circuit : Circuit
  pub says : circuit_of text arch.lut_size ≡ Ok circuit
  pub fit : unfit_of circuit arch ≡ None
  pub fits : fit_of strip (packed_of circuit arch) ≡ Fits

-- the routing of that state has not failed
abbrev pub HasNotFailed : State → Type 0
HasNotFailed state = failure_of (end_value (sources_of state RoutingJob)) ≡ None

-- what the state has, by its name
abbrev pub Has : StateName → State → Type 0
Has Empty state = ⊤
Has Loaded state = ⊤
Has Packing state = IsPackable state.arch state.text
Has Packed state = IsPackable state.arch state.text
Has Placing state = IsPlaceable state.arch state.strip state.text
Has Placed state = IsPlaceable state.arch state.strip state.text
Has Routing state = IsPlaceable state.arch state.strip state.text
Has Routed state = IsPlaceable state.arch state.strip state.text × HasNotFailed state
Has Unrouted state = IsPlaceable state.arch state.strip state.text

pub record IsSound (arch : Arch) (strip : Strip) (state : State) : Type 0 where
  pub arch_is : state.arch ≡ arch
  pub strip_is : state.strip ≡ strip
  pub kept : AreKeptOn strip state.kept
  pub has : Has state.name state

-- ---- places

module _ (laws : Laws) (arch : Arch) (strip : Strip) (known : IsArch arch) (size : IsStripSize strip) where
  pub lawful_packed : (text : List ℕ) (circuit : Circuit) → circuit_of text arch.lut_size ≡ Ok circuit → unfit_of circuit arch ≡ None → IsPacked (packed_of circuit arch)
  lawful_packed text circuit says fit = packed_lawful circuit arch (text_lawful text arch.lut_size circuit says).0 known fit

  pub places_lawful : (text : List ℕ) (is : IsPlaceable arch strip text) (kept : KeptPlaces) (seed effort passes : ℕ) → AreKeptOn strip kept →
      ArePlaced strip (packed_of is.circuit arch) (places_by_block (placing_at (placing_sources arch strip text kept seed effort) is.circuit passes))
  places_lawful text is kept seed effort passes lawful =
      let packed = packed_of is.circuit arch in
      always_placed strip size (λ kind. laws.apart strip kind size) (λ place. laws.kinds_apart strip place size) packed kept seed effort passes (laws.packing packed (lawful_packed text is.circuit is.says is.fit)) is.fits lawful

  -- the places that a change keeps are the strip's
  kept_lawful : (text : List ℕ) (is : IsPlaceable arch strip text) (kept : KeptPlaces) (seed effort : ℕ) → AreKeptOn strip kept → AreKeptOn strip (kept_at_end (end_value (placing_sources arch strip text kept seed effort)))
  kept_lawful text is kept seed effort lawful =
      let sources = placing_sources arch strip text kept seed effort in
      let steps = step_count sources in
      let placing = placing_at sources is.circuit steps in
      let value : end_value sources ≡ Ok (work_of PlacingJob sources is.circuit steps) = ap (λ (r : Result Circuit BlifFault). value_of sources r steps) is.says in
      subst (λ (v : Result Work BlifFault). AreKeptOn strip (kept_at_end v)) (sym value)
      (either (is_past_last strip steps) placing (placed_kept strip (packed_of is.circuit arch) (places_by_block placing) (places_lawful text is kept seed effort steps lawful)))
    where
      either : (b : Bool) (placing : PlacingUnderWay) → AreKeptOn strip (kept_at_end (Ok (PlacedWork placing))) → AreKeptOn strip (kept_at_end (Ok (if b then PlacedWork placing else PlacingWork placing)))
      either true placing kept = kept
      either false placing kept = none_kept strip

  -- ---- one event

  -- what the state has does not depend on the number of its entries or steps
  entered : (name : StateName) (state : State) (entries : ℕ) → Has name state → Has name (record state { entries = entries })
  entered name state entries has = grind arith

  stepped : (name : StateName) (state : State) (steps : ℕ) → Has name state → Has name (record state { steps = steps })
  stepped name state steps has = grind arith

  -- what an answer makes of the state
  abbrev Keeps : Option State → Type 0
  Keeps None = ⊤
  Keeps (Some state) = IsSound arch strip state

  abbrev Answers : Option State × Reply → Type 0
  Answers answer = Keeps answer.0

  abbrev LeadsOn : State × Option Reply → Type 0
  LeadsOn led = IsSound arch strip led.0

  module _ (state : State) (sound : IsSound arch strip state) where
    -- what is kept after a change
    keeps_places : AreKeptOn strip (with_kept_places (next_generation state)).kept
    keeps_places = grind (arith, kept_lawful)

    -- a state stays sound when the entry of its answer is counted
    counted : (o : Option State) → Keeps o → IsSound arch strip (after_reply state o)
    counted o keeps = grind arith

    after_change : (text : List ℕ) (r : Result Circuit BlifFault) → Keeps (with_circuit r (λ circuit. (Some (with_netlist (with_kept_places (next_generation state)) text), Accepted Loaded))).0
    after_change text r = grind (arith, keeps_places)

    -- a lawful command
    after_command : (command : Command) → is_lawful state.name command ≡ true → Keeps (serve state command).0
    after_command command is = grind (arith, after_change)

    -- a job that has made its last step
    after_packing : IsPackable state.arch state.text → IsSound arch strip (state_at_end state PackingJob)
    after_packing has = record { arch_is = sound.arch_is; strip_is = sound.strip_is; kept = sound.kept; has = has }

    after_placing : IsPlaceable state.arch state.strip state.text → IsSound arch strip (state_at_end state PlacingJob)
    after_placing has = record { arch_is = sound.arch_is; strip_is = sound.strip_is; kept = sound.kept; has = has }

    after_routing : IsPlaceable state.arch state.strip state.text → IsSound arch strip (state_at_end state RoutingJob)
    after_routing has = grind arith

    -- a step of a job
    either_step : (kind : JobKind) (next last : Bool) → IsSound arch strip (state_at_end state kind) →
        Answers (if next then (if last then (Some (state_at_end state kind), Step Finished) else (Some (record state { steps = state.steps + 1 }), Step Advanced)) else (None, Step Stale))
    either_step kind next last ended = grind arith

    after_step : (made : Advance) (name : StateName) → Has name state → Keeps (advance state made (kind_that_runs name)).0
    after_step made Empty has = tt
    after_step made Loaded has = tt
    after_step made Packing has = either_step PackingJob (is_next state made) (is_last (sources_of state PackingJob) (state.steps + 1)) (after_packing has)
    after_step made Packed has = tt
    after_step made Placing has = either_step PlacingJob (is_next state made) (is_last (sources_of state PlacingJob) (state.steps + 1)) (after_placing has)
    after_step made Placed has = tt
    after_step made Routing has = either_step RoutingJob (is_next state made) (is_last (sources_of state RoutingJob) (state.steps + 1)) (after_routing has)
    after_step made Routed has = tt
    after_step made Unrouted has = tt

    after_answer : (event : Event) → Keeps (answer_to state event).0
    after_answer event = grind (arith, after_command, after_step)

    after_event : (event : Event) → IsSound arch strip (step state event).0
    after_event event = grind (arith, counted, after_answer)

  after_events : (state : State) (events : List Event) → IsSound arch strip state → IsSound arch strip (state_after state events)
  after_events state [] sound = sound
  after_events state (event ∷ events) sound = after_events (step state event).0 events (after_event state sound event)

  -- and so is the state after any events
  pub always_sound : (events : List Event) → IsSound arch strip (run arch strip events).0
  always_sound events = after_events (start arch strip) events (record { arch_is = refl; strip_is = refl; kept = none_kept strip; has = tt })
