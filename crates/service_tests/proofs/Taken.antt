-- What tests know of a job that a slot gives out.
use Rattle.std.proofs.Common.{◌≡◌, ◌∙◌, ◌+◌, ◌<◌, Option, Some, None, sym, ap, arith}
use Rattle.std.specs.Prelude.{option_map}
use Rattle.std.proofs.lemmas.Bool.Decides.{nat_tests}
use Rattle.job_state.specs.Job.{JobState}
use Rattle.job_state.specs.declared.sources.Sources.{Sources}
use Rattle.job_state.specs.declared.step.JobStep.{JobStep}
use Rattle.tenant_slot.specs.Slot.{SlotState, Takes, running_sources}

own_step : (slot : SlotState) (step : JobStep) (sources : Option Sources) →
    option_map (λ from. record { id = slot.id; generation = slot.state.generation; number = slot.state.steps + 1; sources = from }) sources ≡ Some step → step.id ≡ slot.id
own_step slot step None is = absurd (cc)
own_step slot step (Some from) is =
    let same : record { id = slot.id; generation = slot.state.generation; number = slot.state.steps + 1; sources = from } ≡ step = cc in
    ap (λ (s : JobStep). s.id) (sym same)

-- the job is the slot's own, and the journal has an entry left for it
taken_so : (old : SlotState) (job : JobState) (new : SlotState) → Takes old (Some job) new → (job.step.id ≡ old.id) × (old.state.entries < 65536) × (new.id ≡ old.id) × (new.state.entries ≡ old.state.entries)
taken_so old job new takes = (own_step old job.step (running_sources old.state) takes.1, grind (arith, nat_tests, takes.0), ap (λ (s : SlotState). s.id) takes.3, ap (λ (s : SlotState). s.state.entries) takes.3)

-- so it is after the job was given out
pub out_so : (old : SlotState) (job : JobState) (new : SlotState) → Takes old (Some job) new → (job.step.id ≡ new.id) × (new.state.entries < 65536)
out_so old job new takes = let so = taken_so old job new takes in (so.0 ∙ sym so.2, omega (arith, so.1, so.3))
