use Rattle.blif.proofs.Prelude.{◌++◌, ◌∙◌, arith, has_name}
use Rattle.blif.proofs.Named.{marks_more}
use Rattle.blif.proofs.driven.marks.Goals as goal

pub loop-number-preserved : goal.loop-number-preserved
loop-number-preserved c =
    c.in_ok-push.ensures.items
    ∙ marks_more (has_name (c.args.clocks.now ++ c.args.drivers.now)) c.loop-number.marks.items c.args.nets.now c.loop-number.number c.name-net.result.now c.is_driven.result (omega arith) c.name-net.ensures c.loop-number.invariant c.is_driven.ensures
