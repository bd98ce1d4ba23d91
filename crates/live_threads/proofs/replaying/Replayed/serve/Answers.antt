use Rattle.live_threads.proofs.ReplayLemmas.{err_cuts, ok_serves}
use Rattle.live_threads.proofs.replaying.Replayed.serve.Goals as goal

pub returns-in-Ok-clause-serves : goal.returns-in-Ok-clause-serves
returns-in-Ok-clause-serves g c = ok_serves c.tell_reply.result _ _ _ _ _ _ _ _ _ _ _ c.requires.cut c.in-Ok.ensures.has_reply c.in-Ok.ensures.next c.tell_reply.ensures.told

pub returns-in-Ok-clause-stops : goal.returns-in-Ok-clause-stops
returns-in-Ok-clause-stops g c = err_cuts c.tell_reply.result _ _ _ _ _ _ _ _ _ _ _ c.requires.cut c.in-Ok.ensures.has_reply c.in-Ok.ensures.next c.tell_reply.ensures.part
