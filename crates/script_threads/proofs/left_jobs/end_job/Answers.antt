use Rattle.script_threads.proofs.LeftLemmas.{job_ends}
use Rattle.script_threads.proofs.left_jobs.end_job.Goals as goal

pub returns : goal.returns
returns c =
    let waits = c.run_steps.ensures.waits in
    let how = c.wait_ends.ensures c.args.core.now c.run_steps.new.core c.args.id waits.0 c.run_steps.result waits.1 waits.2 in
    job_ends c.args.graph.now c.args.core.now c.args.id c.run_steps.new.core waits.0 c.run_steps.result waits.1 waits.2 c.run_steps.ensures.own how
