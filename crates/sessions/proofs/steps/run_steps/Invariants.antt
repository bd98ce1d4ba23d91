use Rattle.sessions.proofs.Counted.{left}
use Rattle.sessions.proofs.StepLemmas.{Made}
use Rattle.sessions.proofs.steps.run_steps.Given as goal

-- the steps so far
abbrev pub invariant-steps : goal.invariant-steps
invariant-steps l = Made l.id l.fn.core l.core

-- the number of entries that the journal has left
abbrev pub decreases-steps : goal.decreases-steps
decreases-steps l = left l.core l.id
