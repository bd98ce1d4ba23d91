use Rattle.layout_check.proofs.Prelude.{sym, ◌∙◌}
use Rattle.layout_check.proofs.Entries.{control_at}
use Rattle.layout_check.proofs.entry.is_global.Goals as goal

pub returns-then-is_net : goal.returns-then-is_net
returns-then-is_net c =
    control_at c.as_slice-latch-items.result.now c.args.circuit.now.latches c.as_slice-latch-items.ensures c.loop-latch.latch-index _ c.args.net c.loop-latch-test.true (sym c.is_net.ensures ∙ c.if-is_net.true)
