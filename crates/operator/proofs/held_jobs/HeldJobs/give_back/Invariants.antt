use Rattle.operator.proofs.Prelude.{vec_len, option_map, reverse, filter_map, Run, GiveBack, HeldList}
use Rattle.std.specs.Prelude.{◌≡◌, ◌++◌}
use Rattle.operator.proofs.held_jobs.HeldJobs.give_back.Given as goal

-- the jobs after the remaining ones were given back
abbrev pub invariant-loop-held : goal.invariant-loop-held
invariant-loop-held l = (done : HeldList) × (l.initial.jobs.items ≡ l.jobs.items ++ reverse done) × Run l.fn.core (filter_map (option_map GiveBack) done) l.core

abbrev pub decreases-loop-held : goal.decreases-loop-held
decreases-loop-held l = vec_len l.jobs
