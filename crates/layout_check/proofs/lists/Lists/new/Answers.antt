use Rattle.layout_check.proofs.ByNet.{one_more_empty}
use Rattle.layout_check.proofs.lists.Lists.new.Goals as goal

pub loop-number-preserved : goal.loop-number-preserved
loop-number-preserved c =
    one_more_empty c.loop-number.lists.items c.push.new.self.items (λ list. list.items) c.new.result c.loop-number._number c.loop-number.invariant c.in_ok-push.ensures.items c.new.ensures.items
