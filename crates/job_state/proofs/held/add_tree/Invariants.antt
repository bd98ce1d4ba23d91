use Rattle.job_state.proofs.Prelude.{◌≡◌, ◌++◌, [], take, slice_index_or, on_tree}
use Rattle.job_state.proofs.held.add_tree.Given as goal

abbrev pub invariant-loop-number : goal.invariant-loop-number
invariant-loop-number l = l.list.items ≡ l.fn.list.items ++ on_tree (take l.number (slice_index_or l.routes l.net []))
