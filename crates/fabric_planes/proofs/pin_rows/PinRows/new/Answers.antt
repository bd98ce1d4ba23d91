use Rattle.fabric_planes.proofs.Prelude.{subst, Listed, AddsRow, listed_at}
use Rattle.fabric_planes.proofs.ListedRows.{row_added}
use Rattle.fabric_planes.proofs.pin_rows.PinRows.new.Goals as goal

pub loop-number-preserved : goal.loop-number-preserved
loop-number-preserved g c =
    let basis = g.G.StripGraph.basis c.args.shaped.now.graph.now in
    row_added basis (listed_at basis) c.loop-number.number c.loop-number.rows c.add_row.new.rows c.loop-number.invariant (subst (λ (listed : Listed). AddsRow basis listed c.loop-number.rows c.add_row.new.rows) c.listed_at-listed.ensures c.in_ok-add_row.ensures)
