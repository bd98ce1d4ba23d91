use Rattle.layout_check.proofs.Prelude.{arith, length}
use Rattle.layout_check.proofs.Hops.{starts_all}
use Rattle.layout_check.proofs.trees.mark_starts.Goals as goal

pub returns-clause-exact : goal.returns-clause-exact
returns-clause-exact c = starts_all c.args.hops.now (length c.args.marks.now) c.loop-hop.hop-index c.loop-hop.marks (omega arith) c.loop-hop.invariant
