use Rattle.layout_check.proofs.Prelude.{graph_of, HasRoom}
use Rattle.layout_check.proofs.Counted.{AreChecked}
use Rattle.layout_check.proofs.nets.check_nets.Given as goal

abbrev pub invariant-loop-number : goal.invariant-loop-number
invariant-loop-number l = HasRoom l.work (graph_of l.graph).count × AreChecked l.circuit l.graph l.layout l.number l.uses.items
