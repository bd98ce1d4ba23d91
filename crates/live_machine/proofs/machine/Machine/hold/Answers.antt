use Rattle.live_machine.proofs.Prelude.{List, subst, inr, Held, TellsLost, state_with}
use Rattle.live_machine.proofs.MachineLemmas.{on_ok}
use Rattle.live_machine.proofs.machine.Machine.hold.Goals as goal

pub returns-in-Err-clause-holds : goal.returns-in-Err-clause-holds
returns-in-Err-clause-holds c =
    let held = c.add.new.self in
    let P : List Held → Type 0 = λ hs. TellsLost (state_with c.args.self.now.server hs) c.args.name.now (state_with c.tell_lost.new.self held) in
    on_ok c.tell_lost.result (λ tells. inr (subst P c.in-Err.ensures.err (tells held))) c.tell_lost.ensures.tells
