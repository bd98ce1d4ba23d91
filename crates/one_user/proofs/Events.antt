-- How an event changes a slot in a given state.
use Rattle.one_user.proofs.Prelude.{ℕ, ◌≡◌, ◌≢◌, ◌+◌, ◌<◌, Bool, true, not, Option, Some, None, sym, ap, ◌∙◌, arith, ◌&&◌, option_map, JobKind, Sources, JobStep, is_last, State, after_reply, answer_to, go_on, is_next, kind_that_runs, sources_of, step, IsAdvanceOf, SlotState, after_event, next_job, running_sources, Advance, Event, Reply, Step, StepReply, step-room, Goes, slot_in}
use Rattle.tenant_slot.specs.declared.event.Event.TheVariants.{Advance as Stepped}

-- the state and the reply, if the journal isn't full
pub step_is : (state : State) (event : Event) (change : Option State) (reply : Reply) → state.entries < 65536 → answer_to state event ≡ (change, reply) → step state event ≡ (after_reply state change, Some reply)
step_is state event change reply room is = step-room state event (omega arith) ∙ ap (λ (p : Option State × Reply). (after_reply state p.0, Some p.1)) is

-- an event that changes the state
pub changed_by : (slot : SlotState) (event : Event) (new : State) (reply : Reply) → slot.state.entries < 65536 → answer_to slot.state event ≡ (Some new, reply) →
    after_event slot event ≡ slot_in slot.id (record new { entries = slot.state.entries + 1 })
changed_by slot event new reply room is = grind arith

-- the running job's next step is made and put
module _ (old : SlotState) (kind : JobKind) (runs : kind_that_runs old.state.name ≡ Some kind) (room : old.state.entries < 65536) where
  abbrev next : JobStep
  next = record { id = old.id; generation = old.state.generation; number = old.state.steps + 1; sources = sources_of old.state kind }

  own_sources : running_sources old.state ≡ Some (sources_of old.state kind)
  own_sources = ap (option_map (sources_of old.state)) runs

  next_is : next_job old ≡ Some next
  next_is = ap (option_map (λ sources. record { id = old.id; generation = old.state.generation; number = old.state.steps + 1; sources = sources })) own_sources

  pub step_of : (done : JobStep) → next_job old ≡ Some done → done ≡ next
  step_of done is = let same : Some done ≡ Some next = sym is ∙ next_is in cc

  counts : (made : Advance) → IsAdvanceOf old.state next made → is_next old.state made ≡ true
  counts made of = grind arith

  goes_on : (made : Advance) → IsAdvanceOf old.state next made → answer_to old.state (Stepped made) ≡ go_on old.state kind
  goes_on made of = grind arith

  told_step : (last : Bool) → is_last (sources_of old.state kind) (old.state.steps + 1) ≡ last → (made : Advance) (reply : StepReply) (new : SlotState) →
      IsAdvanceOf old.state next made → (step old.state (Stepped made)).1 ≡ Some (Step reply) → new ≡ after_event (record old { here = None }) (Stepped made) → Goes kind old reply new
  told_step last is made reply new of told after_it = grind arith
