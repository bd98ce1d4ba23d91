use Rattle.layout_check.proofs.Prelude.{take, IsNumbered}
use Rattle.layout_check.proofs.numbered.number_paths.Given as goal

abbrev pub invariant-loop-path : goal.invariant-loop-path
invariant-loop-path l = IsNumbered l.graph (take l.path-index l.paths) l.nodes.items l.hops.items
