-- What a slot keeps is right after a put.
use Rattle.tenant_slot.proofs.Prelude.{◌≡◌, ℕ, ◌+◌, ◌<◌, Bool, true, false, not, Option, Some, None, refl, sym, ap, subst, ◌∙◌, arith, ◌&&◌, option_map, if◌then◌else◌, option_map_or, Arch, Strip, KeptPlaces, JobKind, Sources, JobStep, next_step, is_last, Advance, Event, Reply, Step, Advanced, Finished, Stale, Content, Empty, Packed, Placed, Routed, Unrouted, Running, Standing, state_before, state_during, CanFinish, IsMadeOf, name_at_rest, State, advance, after_reply, answer_to, state_at_end, go_on, is_next, kind_that_runs, sources_of, step, IsAdvanceOf, SlotState, after_event, running_sources, IsSlot, put_in, put_reply, slot_state, seen_state, Placing as PlacingJob}
use Rattle.tenant_slot.specs.declared.content.Content.TheVariants.{Loaded}
use Rattle.tenant_slot.specs.declared.event.Event.TheVariants.{Advance as Stepped}
use Rattle.tenant_slot.specs.declared.reply.StateName.TheVariants.{Empty as EmptyName, Packed as PackedName, Routed as RoutedName, Unrouted as UnroutedName}
use Rattle.tenant_slot.proofs.Leading.{advanced}

abbrev pub standing_of : Content → Option Running → KeptPlaces → ℕ → ℕ → ℕ → ℕ → Standing
standing_of content job kept seed effort generation steps = record { content = content; running = job; kept = kept; seed = seed; effort = effort; generation = generation; steps = steps }

-- a put into a slot with these parts leaves them lawful, and does what the single user's step does
pub record IsPut (id : ℕ) (arch : Arch) (strip : Strip) (standing : Standing) (entries : ℕ) (done : JobStep) (made : Advance) (counts last : Bool) : Type 0 where
  pub lawful : IsSlot id arch strip (put_in standing (next_step done) counts last) (entries + 1)
  pub told : (step (seen_state arch strip standing entries) (Stepped made)).1 ≡ Some (Step (put_reply counts last))
  pub after_it : slot_state id arch strip (put_in standing (next_step done) counts last) (entries + 1) ≡ after_event (slot_state id arch strip standing entries) (Stepped made)
  pub begun : counts ≡ true → last ≡ true → CanFinish standing.content (next_step done)

-- the slot after an event with that answer
abbrev answered_with : SlotState → Option State → SlotState
answered_with slot change = record slot { state = after_reply slot.state change; here = option_map_or (λ new. Some false) change slot.here }

answered : (slot : SlotState) (event : Event) (change : Option State) (reply : Reply) → slot.state.entries < 65536 → answer_to slot.state event ≡ (change, reply) →
    ((step slot.state event).1 ≡ Some reply) × (answered_with slot change ≡ after_event slot event)
answered slot event change reply room is = grind arith

-- a step that doesn't count is one more entry
stale : (id : ℕ) (arch : Arch) (strip : Strip) (standing : Standing) (entries : ℕ) (done : JobStep) (made : Advance) (last : Bool) →
    IsSlot id arch strip standing entries → entries < 65536 → answer_to (seen_state arch strip standing entries) (Stepped made) ≡ (None, Step Stale) → IsPut id arch strip standing entries done made false last
stale id arch strip standing entries done made last slot room is = grind arith

both_true : (a b : Bool) → (a && b) ≡ true → (a ≡ true) × (b ≡ true)
both_true a b is = grind arith

not_true : (a : Bool) → not a ≡ true → a ≡ false
not_true a is = grind arith

-- the conditions under which a step counts
pub record IsNextStep (state : State) (made : Advance) : Type 0 where
  pub generation : made.generation ≡ state.generation
  pub number : made.number ≡ state.steps + 1
  pub own : made.foreign ≡ false

pub next_of : (state : State) (made : Advance) → is_next state made ≡ true → IsNextStep state made
next_of state made is = grind arith

abbrev pub step_of : ℕ → ℕ → ℕ → Sources → JobStep
step_of id generation number sources = record { id = id; generation = generation; number = number; sources = sources }

pub step_of-same : (a a' : ℕ) (b b' : ℕ) (c c' : ℕ) (d d' : Sources) → a ≡ a' → b ≡ b' → c ≡ c' → d ≡ d' → step_of a b c d ≡ step_of a' b' c' d'
step_of-same a a' b b' c c' d d' pa pb pc pd = rw (pa, pb, pc, pd) refl

-- if no job runs, no step counts
pub at_rest_none : (content : Content) → kind_that_runs (name_at_rest content) ≡ None
at_rest_none content = grind arith

none_put : (id : ℕ) (arch : Arch) (strip : Strip) (content : Content) (kept : KeptPlaces) (seed effort generation steps entries : ℕ) (done : JobStep) (made : Advance) (counts last : Bool) →
    IsSlot id arch strip (standing_of content None kept seed effort generation steps) entries → entries < 65536 → IsAdvanceOf (seen_state arch strip (standing_of content None kept seed effort generation steps) entries) done made →
    counts ≡ is_next (seen_state arch strip (standing_of content None kept seed effort generation steps) entries) made → IsPut id arch strip (standing_of content None kept seed effort generation steps) entries done made counts last
none_put id arch strip content kept seed effort generation steps entries done made false last slot room said is = grind (arith, at_rest_none)
none_put id arch strip content kept seed effort generation steps entries done made true last slot room said is = grind arith

-- the running job goes on
advanced_put : (id : ℕ) (arch : Arch) (strip : Strip) (content : Content) (job : Running) (kept : KeptPlaces) (seed effort generation steps entries : ℕ) (done : JobStep) (made : Advance) →
    IsSlot id arch strip (standing_of content (Some job) kept seed effort generation steps) entries → entries < 65536 → done ≡ step_of id generation (steps + 1) job.sources → is_last job.sources (steps + 1) ≡ false →
    answer_to (seen_state arch strip (standing_of content (Some job) kept seed effort generation steps) entries) (Stepped made) ≡ (Some (advanced (seen_state arch strip (standing_of content (Some job) kept seed effort generation steps) entries)), Step Advanced) →
    IsPut id arch strip (standing_of content (Some job) kept seed effort generation steps) entries done made true false
advanced_put id arch strip content job kept seed effort generation steps entries done made slot room done_is more is = grind arith

-- the job that can start from each content
from_empty : (kind : JobKind) → EmptyName ≡ state_before kind → ⊥
from_empty kind is = grind arith

from_packed : (kind : JobKind) → PackedName ≡ state_before kind → kind ≡ PlacingJob
from_packed kind is = grind arith

pub from_routed : (kind : JobKind) → RoutedName ≡ state_before kind → ⊥
from_routed kind is = grind arith

from_unrouted : (kind : JobKind) → UnroutedName ≡ state_before kind → ⊥
from_unrouted kind is = grind arith

-- a job whose last step was made
made_of : (id : ℕ) (generation steps : ℕ) (job : Running) (done : JobStep) (sources : Sources) → done ≡ step_of id generation (steps + 1) job.sources → is_last job.sources (steps + 1) ≡ true → job.sources ≡ sources →
    IsMadeOf sources (next_step done)
made_of id generation steps job done sources done_is over from = grind arith

-- the running job is over
finished_put : (id : ℕ) (arch : Arch) (strip : Strip) (content : Content) (job : Running) (kept : KeptPlaces) (seed effort generation steps entries : ℕ) (done : JobStep) (made : Advance) →
    IsSlot id arch strip (standing_of content (Some job) kept seed effort generation steps) entries → entries < 65536 → done ≡ step_of id generation (steps + 1) job.sources → is_last job.sources (steps + 1) ≡ true →
    answer_to (seen_state arch strip (standing_of content (Some job) kept seed effort generation steps) entries) (Stepped made) ≡ (Some (state_at_end (seen_state arch strip (standing_of content (Some job) kept seed effort generation steps) entries) job.sources.kind), Step Finished) →
    IsPut id arch strip (standing_of content (Some job) kept seed effort generation steps) entries done made true true
finished_put id arch strip Empty job kept seed effort generation steps entries done made slot room done_is over is = absurd (from_empty job.sources.kind slot.job.name)
finished_put id arch strip (Routed netlist packing placing routing) job kept seed effort generation steps entries done made slot room done_is over is = absurd (from_routed job.sources.kind slot.job.name)
finished_put id arch strip (Unrouted netlist packing placing failure) job kept seed effort generation steps entries done made slot room done_is over is = absurd (from_unrouted job.sources.kind slot.job.name)
finished_put id arch strip (Loaded netlist) job kept seed effort generation steps entries done made slot room done_is over is = grind arith
finished_put id arch strip (Packed netlist packing) job kept seed effort generation steps entries done made slot room done_is over is = grind arith
finished_put id arch strip (Placed netlist packing placing) job kept seed effort generation steps entries done made slot room done_is over is = search arith

-- while a job of a kind runs, the state has its name
pub running_during : (kind : JobKind) → kind_that_runs (state_during kind) ≡ Some kind
running_during kind = grind arith

pub some_same : (a b : Sources) → Some a ≡ Some b → a ≡ b
some_same a b is = cc

module _ (id : ℕ) (arch : Arch) (strip : Strip) (content : Content) (job : Running) (kept : KeptPlaces) (seed effort generation steps entries : ℕ) (done : JobStep) (made : Advance)
    (slot : IsSlot id arch strip (standing_of content (Some job) kept seed effort generation steps) entries) (room : entries < 65536) (own : done.id ≡ id)
    (said : IsAdvanceOf (seen_state arch strip (standing_of content (Some job) kept seed effort generation steps) entries) done made) where
  abbrev its_state : State
  its_state = seen_state arch strip (standing_of content (Some job) kept seed effort generation steps) entries

  its_running : kind_that_runs (state_during job.sources.kind) ≡ Some job.sources.kind
  its_running = running_during job.sources.kind

  its_answer : answer_to its_state (Stepped made) ≡ advance its_state made (Some job.sources.kind)
  its_answer = ap (advance its_state made) its_running

  its_sources : made.foreign ≡ false → done.sources ≡ job.sources
  its_sources local =
      let some : running_sources its_state ≡ Some done.sources = said.foreign.0 local in
      let here : running_sources its_state ≡ Some (sources_of its_state job.sources.kind) = ap (option_map (sources_of its_state)) its_running in
      let same : done.sources ≡ sources_of its_state job.sources.kind = some_same done.sources (sources_of its_state job.sources.kind) (sym some ∙ here) in
      same ∙ sym slot.job.sources

  its_step : IsNextStep its_state made → done ≡ step_of id generation (steps + 1) job.sources
  its_step next = step_of-same done.id id done.generation generation done.number (steps + 1) done.sources job.sources own (sym said.generation ∙ next.generation) (sym said.number ∙ next.number) (its_sources next.own)

  its_end : (last : Bool) → IsNextStep its_state made → last ≡ is_last done.sources done.number → is_last job.sources (steps + 1) ≡ last
  its_end last next ends = sym (ends ∙ ap (λ (d : JobStep). is_last d.sources d.number) (its_step next))

  goes : (last : Bool) → is_next its_state made ≡ true → is_last job.sources (steps + 1) ≡ last →
      answer_to its_state (Stepped made) ≡ (if last then (Some (state_at_end its_state job.sources.kind), Step Finished) else (Some (advanced its_state), Step Advanced))
  goes last counts ends =
      let there : is_last (sources_of its_state job.sources.kind) (steps + 1) ≡ last = ap (λ (s : Sources). is_last s (steps + 1)) (sym slot.job.sources) ∙ ends in
      its_answer
      ∙ ap (λ (b : Bool). if b then go_on its_state job.sources.kind else (None, Step Stale)) counts
      ∙ ap (λ (b : Bool). if b then (Some (state_at_end its_state job.sources.kind), Step Finished) else (Some (advanced its_state), Step Advanced)) there

  pub some_put : (counts last : Bool) → counts ≡ is_next its_state made → last ≡ is_last done.sources done.number → IsPut id arch strip (standing_of content (Some job) kept seed effort generation steps) entries done made counts last
  some_put false last is ends =
      let late : answer_to its_state (Stepped made) ≡ (None, Step Stale) = its_answer ∙ ap (λ (b : Bool). if b then go_on its_state job.sources.kind else (None, Step Stale)) (sym is) in
      stale id arch strip (standing_of content (Some job) kept seed effort generation steps) entries done made last slot room late
  some_put true false is ends =
      let next = next_of its_state made (sym is) in
      let more : is_last job.sources (steps + 1) ≡ false = its_end false next ends in
      advanced_put id arch strip content job kept seed effort generation steps entries done made slot room (its_step next) more (goes false (sym is) more)
  some_put true true is ends =
      let next = next_of its_state made (sym is) in
      let over : is_last job.sources (steps + 1) ≡ true = its_end true next ends in
      finished_put id arch strip content job kept seed effort generation steps entries done made slot room (its_step next) over (goes true (sym is) over)

-- a put of any slot
either_put : (id : ℕ) (arch : Arch) (strip : Strip) (content : Content) (job : Option Running) (kept : KeptPlaces) (seed effort generation steps entries : ℕ) (done : JobStep) (made : Advance) (counts last : Bool) →
    IsSlot id arch strip (standing_of content job kept seed effort generation steps) entries → entries < 65536 → done.id ≡ id → IsAdvanceOf (seen_state arch strip (standing_of content job kept seed effort generation steps) entries) done made →
    counts ≡ is_next (seen_state arch strip (standing_of content job kept seed effort generation steps) entries) made → last ≡ is_last done.sources done.number →
    IsPut id arch strip (standing_of content job kept seed effort generation steps) entries done made counts last
either_put id arch strip content None kept seed effort generation steps entries done made counts last slot room own said is ends = none_put id arch strip content kept seed effort generation steps entries done made counts last slot room said is
either_put id arch strip content (Some job) kept seed effort generation steps entries done made counts last slot room own said is ends = some_put id arch strip content job kept seed effort generation steps entries done made slot room own said counts last is ends

is_put : (id : ℕ) (arch : Arch) (strip : Strip) (standing : Standing) (entries : ℕ) (done : JobStep) (made : Advance) (counts last : Bool) →
    IsSlot id arch strip standing entries → entries < 65536 → done.id ≡ id → IsAdvanceOf (seen_state arch strip standing entries) done made →
    counts ≡ is_next (seen_state arch strip standing entries) made → last ≡ is_last done.sources done.number → IsPut id arch strip standing entries done made counts last
is_put id arch strip standing entries done made counts last slot room own said is ends = grind (arith, either_put id arch strip standing.content standing.running standing.kept standing.seed standing.effort standing.generation standing.steps entries done made counts last slot room own said is ends)

-- a put into any slot whose value is as given
pub put_of : (id : ℕ) (arch : Arch) (strip : Strip) (standing : Standing) (entries : ℕ) (old : SlotState) (done : JobStep) (made : Advance) (counts last : Bool) → slot_state id arch strip standing entries ≡ old →
    IsSlot id arch strip standing entries → old.state.entries < 65536 → done.id ≡ old.id → IsAdvanceOf old.state done made → counts ≡ is_next old.state made → last ≡ is_last done.sources done.number →
    IsPut id arch strip standing entries done made counts last
put_of id arch strip standing entries old done made counts last is slot room own said next ends =
    is_put id arch strip standing entries done made counts last slot
    (subst (λ (s : SlotState). s.state.entries < 65536) (sym is) room) (subst (λ (s : SlotState). done.id ≡ s.id) (sym is) own) (subst (λ (s : SlotState). IsAdvanceOf s.state done made) (sym is) said)
    (subst (λ (s : SlotState). counts ≡ is_next s.state made) (sym is) next) ends
