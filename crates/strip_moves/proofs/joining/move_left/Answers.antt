use Rattle.strip_moves.proofs.Prelude.{sym, ◌∙◌, arith}
use Rattle.strip_moves.proofs.Settling.{goes_on}
use Rattle.strip_moves.proofs.joining.move_left.Goals as goal

pub loop-offset-preserved : goal.loop-offset-preserved
loop-offset-preserved c = goes_on c.args.plan.now c.loop-offset.plan c.move_to.new.self c.args.id c.loop-offset.offset c.move_to.result c.loop-offset.invariant c.move_to.ensures (sym c.is_ok.ensures.value ∙ c.if-is_ok.false)

pub returns : goal.returns
returns c = (c.loop-offset.invariant.0, λ offset less. c.loop-offset.invariant.1 offset (omega (arith, less)))
