use Rattle.job_state.proofs.Prelude.{◌≡◌, take, on_trees}
use Rattle.job_state.proofs.held.on_trees.Given as goal

abbrev pub invariant-loop-net : goal.invariant-loop-net
invariant-loop-net l = l.list.items ≡ on_trees (take l.net l.routes)
