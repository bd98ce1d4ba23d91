use Rattle.job_state.proofs.Prelude.{◌≡◌, ◌-◌, arith, ap, sym, ◌∙◌, steps_made, JobState, basis_in}
use Rattle.job_state.proofs.Keeping.{left, stepped}
use Rattle.job_state.proofs.NextStep.{own_graph}
use Rattle.job_state.proofs.Stands.{stands_kind}
use Rattle.job_state.proofs.job.AnyJob.step.Goals as goal

pub next-requires-clause-graph : goal.next-requires-clause-graph
next-requires-clause-graph g c =
    let step = c.self.inside.step in
    let at : g.G.StripGraph.basis c.args.graph.now ≡ basis_in step.sources = c.requires ∙ ap (λ (job : JobState). basis_in job.step.sources) (sym c.self.view_is) in
    rw (c.replace-before.ensures.value, at) (own_graph step.sources (steps_made step c.self.inside.made) c.self.inside.work.value c.self.invariant.holds.value)

pub invariant_of-result-in-Ok : goal.invariant_of-result-in-Ok
invariant_of-result-in-Ok g c =
    record {
      holds = rw c.replace.ensures.after (stepped c.self.inside.step c.self.inside.work.value c.in-Ok.after (rw c.if-made.false at c.self.invariant.holds) c.self.invariant.going (rw c.replace-before.ensures.value at c.in-Ok.ensures.made));
      going = c.self.invariant.going;
    }

pub invariant_of-job : goal.invariant_of-job
invariant_of-job g c =
    let step = c.self.inside.step in
    let holds = rw c.if-made.false at c.self.invariant.holds in
    let kept = left step c.self.inside.work.value c.in-Err.left (step.number - 1) (λ same. omega (arith, same, holds.from_one)) holds c.self.invariant.going (rw c.replace-before.ensures.value at c.in-Err.ensures.back) in
    record { holds = rw (c.replace-in-Err.ensures.after, c.if-made.false) kept; going = c.self.invariant.going }

pub returns-in-Err : goal.returns-in-Err
returns-in-Err g c =
    let step = c.self.inside.step in
    let memory = rw c.replace-before.ensures.value at c.in-Err.ensures.memory in
    let kind = stands_kind step.sources (steps_made step c.self.inside.made) c.self.inside.work.value c.self.invariant.holds.value in (
      c.self.view_is,
      ap (λ (job : JobState). job.made) (sym c.self.view_is) ∙ c.if-made.false,
      λ placing. memory (kind ∙ (ap (λ (job : JobState). job.step.sources.kind) c.self.view_is ∙ placing)),
    )
