use Rattle.script_threads.proofs.Prelude.{HaveMadeSteps}
use Rattle.script_threads.proofs.left_jobs.end_jobs.Given as goal

-- the jobs of the tenancies so far have ended
abbrev pub invariant-loop-number : goal.invariant-loop-number
invariant-loop-number l = HaveMadeSteps l.graph l.fn.core l.number l.core
