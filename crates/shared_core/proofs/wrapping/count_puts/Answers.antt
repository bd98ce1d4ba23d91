use Rattle.shared_core.proofs.Prelude.{arith, ◌∙◌}
use Rattle.shared_core.proofs.Wrapped.{puts_in-take}
use Rattle.shared_core.proofs.wrapping.count_puts.Goals as goal

pub loop-index-preserved : goal.loop-index-preserved
loop-index-preserved g c =
    let step = puts_in-take c.args.service.now.histories c.loop-index.index in
    let i = c.loop-index.invariant in
    (omega (arith, i.0, step, c.count_puts_of.ensures.total), omega (arith, i.1, step, c.count_puts_of.ensures.amount), c.count_puts_of.ensures.parts ∙ i.2)
