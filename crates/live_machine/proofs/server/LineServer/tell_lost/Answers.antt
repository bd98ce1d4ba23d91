use Rattle.live_machine.proofs.Prelude.{on_ok_weaker, state_with}
use Rattle.live_machine.proofs.LostLemmas.{told_once}
use Rattle.live_machine.proofs.server.LineServer.tell_lost.Goals as goal

pub returns-clause-tells : goal.returns-clause-tells
returns-clause-tells c =
    on_ok_weaker c.tell_lost_items.result
    (λ tells held. told_once (state_with c.args.self.now held) (state_with c.tell_lost_items.new.self held) c.args.name.now (tells held))
    c.tell_lost_items.ensures.tells
