use Rattle.rr_graph.proofs.Prelude.{arith}
use Rattle.rr_graph.proofs.Rows.{row_begins, row_ends}
use Rattle.rr_graph.proofs.targets.add_row.Goals as goal

pub loop-x-init : goal.loop-x-init
loop-x-init c = rw (c.requires.row, c.saturating_sub-x.ensures) (row_begins _ c.args.a c.args.nodes.now.lawful)

pub returns : goal.returns
returns c = row_ends _ _ _ c.loop-x.x c.args.last c.args.nodes.now.lawful (omega (arith, c.min-x-end.ensures, c.requires.last.0)) c.loop-x.invariant
