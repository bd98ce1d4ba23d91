use Rattle.shared_core.proofs.Prelude.{◌≡◌, ◌+◌, take, puts_in}
use Rattle.shared_core.proofs.wrapping.count_puts.Given as goal

abbrev pub invariant-loop-index : goal.invariant-loop-index
invariant-loop-index g l = (l.puts.total ≡ l.fn.puts.total + puts_in (take l.index l.service.histories)) × (l.own.amount ≡ l.fn.own.amount + puts_in (take l.index l.service.histories)) × (l.own.parts ≡ l.fn.own.parts)
