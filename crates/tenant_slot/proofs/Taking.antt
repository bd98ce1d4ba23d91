-- What a slot keeps is right after a take, and after a job is given back.
use Rattle.tenant_slot.proofs.Prelude.{◌≡◌, ℕ, ◌+◌, ◌-◌, true, false, Option, Some, None, refl, sym, ap, subst, ◌∙◌, arith, ◌&&◌, is_some, nat_lt, option_map, IfSome, Arch, Strip, KeptPlaces, JobKind, Sources, JobStep, JobState, is_over, is_last, Content, Advance, Running, Standing, State, is_next, sources_of, GivesBack, IsAdvanceOf, SlotState, is_takeable, next_job, IsSlot, here_of, ready_of, ready_with, slot_state, seen_state, without_ready}
use Rattle.tenant_slot.proofs.Putting.{running_during, standing_of, step_of}

-- the journal's record of a step depends on its generation, its number and its sources
pub written_of : (state : State) (step : JobStep) (id generation number : ℕ) (sources : Sources) (made : Advance) → generation ≡ step.generation → number ≡ step.number → sources ≡ step.sources →
    IsAdvanceOf state (step_of id generation number sources) made → IsAdvanceOf state step made
written_of state step id generation number sources made pg pn ps said = grind arith

same_step : (a b : JobStep) → Some a ≡ Some b → a ≡ b
same_step a b is = cc

-- the running job's next step has the running job's sources
next_sources : (id generation number : ℕ) (running : Option Sources) (step : JobStep) → option_map (step_of id generation number) running ≡ Some step → running ≡ Some step.sources
next_sources id generation number running step is = grind arith

-- and it is recorded as such
pub written_next : (slot : SlotState) (step : JobStep) (generation number : ℕ) → next_job slot ≡ Some step → generation ≡ step.generation → number ≡ step.number →
    IsAdvanceOf slot.state step (record { generation = generation; number = number; foreign = false })
written_next slot step generation number is pg pn = grind arith

-- a step is taken from a slot with these parts
pub record IsTaken (id : ℕ) (arch : Arch) (strip : Strip) (standing : Standing) (entries : ℕ) (ready : JobState) : Type 0 where
  pub going : is_over ready ≡ false
  pub lawful : IsSlot id arch strip (record standing { running = option_map without_ready standing.running }) entries
  pub takeable : nat_lt entries 65536 ≡ true → is_takeable (slot_state id arch strip standing entries) ≡ true
  pub next : next_job (slot_state id arch strip standing entries) ≡ Some ready.step
  pub made : here_of standing.running ≡ Some ready.made
  pub out : slot_state id arch strip (record standing { running = option_map without_ready standing.running }) entries ≡ record (slot_state id arch strip standing entries) { here = None }

module _ (id : ℕ) (arch : Arch) (strip : Strip) (content : Content) (job : Running) (kept : KeptPlaces) (seed effort generation steps entries : ℕ)
    (slot : IsSlot id arch strip (standing_of content (Some job) kept seed effort generation steps) entries) where
  abbrev its_slot : SlotState
  its_slot = slot_state id arch strip (standing_of content (Some job) kept seed effort generation steps) entries

  -- the running job's next step
  next_is : next_job its_slot ≡ Some (step_of id generation (steps + 1) job.sources)
  next_is =
      ap (λ (k : Option JobKind). option_map (λ (sources : Sources). step_of id generation (steps + 1) sources) (option_map (sources_of its_slot.state) k)) (running_during job.sources.kind)
      ∙ ap (λ (s : Sources). Some (step_of id generation (steps + 1) s)) (sym slot.job.sources)

  some_taken : (ready : JobState) → job.ready ≡ Some ready → IsTaken id arch strip (standing_of content (Some job) kept seed effort generation steps) entries ready
  some_taken ready is =
      let step : ready.step ≡ step_of id generation (steps + 1) job.sources = subst (λ (r : Option JobState). IfSome r (λ ready. ready.step ≡ step_of id generation (steps + 1) job.sources)) is slot.job.ready in
      let number : ready.step.number - 1 ≡ steps = ap (λ (s : JobStep). s.number - 1) step ∙ omega arith in
      record {
        going = ap (λ (s : JobStep). is_last s.sources (ready.step.number - 1)) step ∙ ap (is_last job.sources) number ∙ slot.job.going;
        lawful = record {
          size = slot.size;
          kept = slot.kept;
          content = slot.content;
          job = record { name = slot.job.name; sources = slot.job.sources; going = slot.job.going; ready = tt };
          generation_small = slot.generation_small;
          steps_small = slot.steps_small;
          entries_small = slot.entries_small;
        };
        takeable = λ room.
            ap (λ (k : Option JobKind). is_some k && (is_some (option_map (λ (j : JobState). j.made) job.ready) && nat_lt entries 65536)) (running_during job.sources.kind)
            ∙ ap (λ (r : Option JobState). is_some (option_map (λ (j : JobState). j.made) r) && nat_lt entries 65536) is
            ∙ room;
        next = next_is ∙ ap (λ (s : JobStep). Some s) (sym step);
        made = ap (option_map (λ (j : JobState). j.made)) is;
        out = refl;
      }

-- a take from any slot
either_taken : (id : ℕ) (arch : Arch) (strip : Strip) (content : Content) (job : Option Running) (kept : KeptPlaces) (seed effort generation steps entries : ℕ) (ready : JobState) →
    IsSlot id arch strip (standing_of content job kept seed effort generation steps) entries → ready_of job ≡ Some ready → IsTaken id arch strip (standing_of content job kept seed effort generation steps) entries ready
either_taken id arch strip content job kept seed effort generation steps entries ready slot is = search arith

pub is_taken : (id : ℕ) (arch : Arch) (strip : Strip) (standing : Standing) (entries : ℕ) (ready : JobState) → IsSlot id arch strip standing entries → ready_of standing.running ≡ Some ready → IsTaken id arch strip standing entries ready
is_taken id arch strip standing entries ready slot is = either_taken id arch strip standing.content standing.running standing.kept standing.seed standing.effort standing.generation standing.steps entries ready slot is

either_stood : (id : ℕ) (arch : Arch) (strip : Strip) (content : Content) (job : Option Running) (kept : KeptPlaces) (seed effort generation steps entries : ℕ) (back : JobState) →
    IsSlot id arch strip (standing_of content job kept seed effort generation steps) entries → next_job (slot_state id arch strip (standing_of content job kept seed effort generation steps) entries) ≡ Some back.step →
    IsSlot id arch strip (standing_of content (option_map (ready_with back) job) kept seed effort generation steps) entries
either_stood id arch strip content job kept seed effort generation steps entries back slot is = grind arith

pub is_stood : (id : ℕ) (arch : Arch) (strip : Strip) (standing : Standing) (entries : ℕ) (back : JobState) → IsSlot id arch strip standing entries → next_job (slot_state id arch strip standing entries) ≡ Some back.step →
    IsSlot id arch strip (record standing { running = option_map (ready_with back) standing.running }) entries
is_stood id arch strip standing entries back slot is = either_stood id arch strip standing.content standing.running standing.kept standing.seed standing.effort standing.generation standing.steps entries back slot is

pub is_back : (id : ℕ) (arch : Arch) (strip : Strip) (standing : Standing) (entries : ℕ) (step : JobStep) (made : Advance) → IsSlot id arch strip standing entries → step.id ≡ id →
    IsAdvanceOf (seen_state arch strip standing entries) step made → is_next (seen_state arch strip standing entries) made ≡ true → next_job (slot_state id arch strip standing entries) ≡ Some step
is_back id arch strip standing entries step made slot own said is = grind arith

pub is_not_back : (id : ℕ) (arch : Arch) (strip : Strip) (standing : Standing) (entries : ℕ) (step : JobStep) (made : Advance) → IsSlot id arch strip standing entries →
    IsAdvanceOf (seen_state arch strip standing entries) step made → is_next (seen_state arch strip standing entries) made ≡ false → next_job (slot_state id arch strip standing entries) ≡ Some step → ⊥
is_not_back id arch strip standing entries step made slot said not_next is = search arith

gives_back : (old : SlotState) (back : JobState) → next_job old ≡ Some back.step → GivesBack old back (record old { here = Some back.made })
gives_back old back is = record { only_here = refl; ready = λ next. refl; dropped = λ other. absurd (other is) }

pub is_given_back : (id : ℕ) (arch : Arch) (strip : Strip) (standing : Standing) (entries : ℕ) (old : SlotState) (back : JobState) → slot_state id arch strip standing entries ≡ old → next_job (slot_state id arch strip standing entries) ≡ Some back.step →
    GivesBack old back (slot_state id arch strip (record standing { running = option_map (ready_with back) standing.running }) entries)
is_given_back id arch strip standing entries old back seen_so is = grind arith
