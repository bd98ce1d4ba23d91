use Rattle.job_state.proofs.InOrder.{ListsBelow}
use Rattle.job_state.proofs.held.each_once.Given as goal

abbrev pub invariant-loop-index : goal.invariant-loop-index
invariant-loop-index l = ListsBelow l.sorted l.index l.list.items
