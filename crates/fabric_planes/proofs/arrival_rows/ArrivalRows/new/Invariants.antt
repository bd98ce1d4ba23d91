use Rattle.fabric_planes.proofs.Prelude.{arrival_at, AreRowsBelow}
use Rattle.fabric_planes.proofs.arrival_rows.ArrivalRows.new.Given as goal

abbrev pub invariant-loop-number : goal.invariant-loop-number
invariant-loop-number g l = let basis = g.G.StripGraph.basis l.shaped.graph.now in AreRowsBelow basis (arrival_at basis) l.number l.rows
