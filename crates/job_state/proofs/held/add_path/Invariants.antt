use Rattle.job_state.proofs.Prelude.{◌≡◌, ◌++◌, take, on_path}
use Rattle.job_state.proofs.held.add_path.Given as goal

abbrev pub invariant-loop-node : goal.invariant-loop-node
invariant-loop-node l = l.list.items ≡ l.fn.list.items ++ on_path (take l.node-index l.path)
