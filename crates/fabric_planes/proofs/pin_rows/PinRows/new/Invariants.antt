use Rattle.fabric_planes.proofs.Prelude.{AreRowsBelow, listed_at}
use Rattle.fabric_planes.proofs.pin_rows.PinRows.new.Given as goal

abbrev pub invariant-loop-number : goal.invariant-loop-number
invariant-loop-number g l = let basis = g.G.StripGraph.basis l.shaped.graph.now in AreRowsBelow basis (listed_at basis) l.number l.rows
