use Rattle.job_state.proofs.Prelude.{◌≡◌, true, sym, subst, is_last, step_count, JobStep}
use Rattle.job_state.proofs.StepCounts.{step_count_is}
use Rattle.job_state.proofs.job.Done.progress.Goals as goal

pub returns-clause-last : goal.returns-clause-last
returns-clause-last g c =
    let step = c.self.inside.step in
    let holds = c.self.invariant.holds in
    subst (λ (s : JobStep). is_last s.sources s.number ≡ true → s.number ≡ step_count s.sources) c.self.view_is
    (λ last. sym (step_count_is step.sources step.number holds.few holds.going last))
