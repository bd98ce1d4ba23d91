use Rattle.layout_check.proofs.Prelude.{arith, sym, ◌∙◌}
use Rattle.layout_check.proofs.Receiving.{once_more, repeated}
use Rattle.layout_check.proofs.receives.first_repeated.Goals as goal

pub returns-then-lists : goal.returns-then-lists
returns-then-lists c = repeated c.args.nets.now c.loop-place.place (omega arith) (sym c.lists.ensures ∙ c.if-lists.true)

pub loop-place-preserved : goal.loop-place-preserved
loop-place-preserved c = once_more c.args.nets.now c.loop-place.place (omega arith) c.loop-place.invariant (sym c.lists.ensures ∙ c.if-lists.false)
