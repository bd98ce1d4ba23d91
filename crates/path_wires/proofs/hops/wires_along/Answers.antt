use Rattle.path_wires.proofs.Prelude.{◌∙◌, sym}
use Rattle.path_wires.proofs.Counts.{counts_next}
use Rattle.path_wires.proofs.hops.wires_along.Goals as goal

pub loop-hop-preserved : goal.loop-hop-preserved
loop-hop-preserved c =
    let next =
    counts_next c.args.hops.now c.loop-hop.hop-index c.hop-item.result c.loop-hop.wires c.in_ok-wires_to.field-0 c.loop-hop-test.true (sym c.hop-item.is) c.loop-hop.invariant c.in_ok-wires_to.ensures in
    (next.0, next.1, c.saturating_add-wires.ensures ∙ next.2)
