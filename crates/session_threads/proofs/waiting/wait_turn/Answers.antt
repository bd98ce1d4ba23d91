use Rattle.session_threads.proofs.Prelude.{◌≡◌, Status, Enters, found_in}
use Rattle.session_threads.specs.declared.waiting.Found.TheVariants.{Ended}
use Rattle.session_threads.proofs.WaitingLemmas.{wait_notes}
use Rattle.session_threads.proofs.waiting.wait_turn.Goals as goal

pub returns-in-Ended-clause-told : goal.returns-in-Ended-clause-told
returns-in-Ended-clause-told g c =
    let found : Ended ≡ found_in c.args.core.now c.args.transcript.now.id = rw c.id.ensures at c.in-Ended.ensures.found in
    let entered : Enters c.args.transcript.now c.args.core.now Status c.enter.result c.enter.new.core c.enter.new.self = rw c.in-Ended.ensures.same at c.enter.ensures in
    wait_notes c.args.transcript.now c.enter.new.self c.args.core.now c.enter.new.core c.enter.result c.in-Ended.ensures.alone found entered
