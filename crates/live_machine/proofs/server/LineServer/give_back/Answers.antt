use Rattle.live_machine.proofs.Prelude.{refl, state_in}
use Rattle.live_machine.proofs.Here.{given}
use Rattle.live_machine.proofs.ServerLemmas.{lent_same, same_by}
use Rattle.live_machine.proofs.server.LineServer.give_back.Goals as goal

pub returns-clause-same : goal.returns-clause-same
returns-clause-same c =
    let old = c.args.self.now in
    same_by old (record { alloc = old.alloc; lines = c.give_back.new.self; next = old.next; log = old.log; told = old.told })
    (lent_same (state_in old.lines) (state_in c.give_back.new.self) c.give_back.ensures.rest (given _ _ c.args.back c.give_back.ensures.given)) refl refl refl
