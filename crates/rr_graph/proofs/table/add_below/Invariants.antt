use Rattle.rr_graph.proofs.Prelude.{◌≡◌, ◌++◌, take, filter, nat_lt}
use Rattle.rr_graph.proofs.table.add_below.Given as goal

abbrev pub invariant-loop-j : goal.invariant-loop-j
invariant-loop-j l = l.ends.items ≡ l.fn.ends.items ++ filter (λ j. nat_lt j l.end) (take l.j-index l.row)
