use Rattle.printed_replies.proofs.SectionLemmas.{one_more_empty}
use Rattle.printed_replies.proofs.sections.add_empty.Goals as goal

pub loop-number-preserved : goal.loop-number-preserved
loop-number-preserved c =
    one_more_empty c.loop-number.lists.items c.push.new.self.items (λ list. list.items) c.new.result c.loop-number._number c.loop-number.invariant c.in_ok-push.ensures.items c.new.ensures.items
