use Rattle.live_machine.proofs.Prelude.{◌∙◌}
use Rattle.live_machine.proofs.machine.Machine.take.Goals as goal

pub returns-in-Some-take_job-clause-same : goal.returns-in-Some-take_job-clause-same
returns-in-Some-take_job-clause-same c = c.take_job.ensures.same (c.loop-id.self.held) ∙ c.loop-id.invariant.same

pub loop-id-preserved : goal.loop-id-preserved
loop-id-preserved c = record {
  ready = c.take_job.ensures.ready;
  same = c.take_job.ensures.same (c.loop-id.self.held) ∙ c.loop-id.invariant.same;
}
