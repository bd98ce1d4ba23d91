use Rattle.fabric_planes.proofs.Prelude.{take, HasStarts}
use Rattle.fabric_planes.proofs.net_starts.NetStarts.fill.Given as goal

abbrev pub invariant-loop-index : goal.invariant-loop-index
invariant-loop-index g l = HasStarts (g.G.StripGraph.basis l.quest.priced.now.graph.now) (take l.index l.quest.starts.now) l.self
