use Rattle.layout_check.proofs.Prelude.{arith, length}
use Rattle.layout_check.proofs.Served.{entries_all}
use Rattle.layout_check.proofs.wanted.mark_entries.Goals as goal

pub returns-clause-exact : goal.returns-clause-exact
returns-clause-exact c = entries_all c.args.nets.now (length c.args.marks.now) c.loop-laid.laid-index c.loop-laid.marks (omega arith) c.loop-laid.invariant
