use Rattle.fabric_planes.proofs.Prelude.{subst, Listed, arrival_at, AddsRow}
use Rattle.fabric_planes.proofs.ListedRows.{row_added}
use Rattle.fabric_planes.proofs.arrival_rows.ArrivalRows.new.Goals as goal

pub loop-number-preserved : goal.loop-number-preserved
loop-number-preserved g c =
    let basis = g.G.StripGraph.basis c.args.shaped.now.graph.now in
    row_added basis (arrival_at basis) c.loop-number.number c.loop-number.rows c.add_row.new.rows c.loop-number.invariant (subst (λ (listed : Listed). AddsRow basis listed c.loop-number.rows c.add_row.new.rows) c.arrival_at-arrival.ensures c.in_ok-add_row.ensures)
