use Rattle.live_machine.proofs.Prelude.{refl, state_in}
use Rattle.live_machine.proofs.Here.{taken}
use Rattle.live_machine.proofs.ServerLemmas.{lent_same, same_by}
use Rattle.live_machine.proofs.server.LineServer.take_job.Goals as goal

pub returns-clause-same : goal.returns-clause-same
returns-clause-same c =
    let old = c.args.self.now in
    same_by old (record { alloc = old.alloc; lines = c.take_job.new.self; next = old.next; log = old.log; told = old.told })
    (lent_same (state_in old.lines) (state_in c.take_job.new.self) c.take_job.ensures.rest (taken _ _ c.args.id c.take_job.result c.take_job.ensures.taken)) refl refl refl
