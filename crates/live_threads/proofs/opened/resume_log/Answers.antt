use Rattle.live_threads.proofs.EndLemmas.{err_and, log_stops, ok_resumes, resumed_stops, resumes_log}
use Rattle.live_threads.proofs.ReplayLemmas.{puts_of, replay_stops}
use Rattle.live_threads.proofs.opened.resume_log.Goals as goal

pub keep_more-requires : goal.keep_more-requires
keep_more-requires g c = puts_of _ _ _ _ _ _ _ _ c.in_ok-live.ensures.leads

pub returns-in-Ok-clause-resumes : goal.returns-in-Ok-clause-resumes
returns-in-Ok-clause-resumes g c = ok_resumes _ _ _ _ _ c.with_steps.result _ c.with_steps.ensures.same (λ machine is. resumes_log _ _ _ _ _ _ _ _ machine _ _ _ c.in_ok-live.ensures.leads c.in-Ok.ensures.resumed c.in-Ok.ensures.next c.new.ensures.begins is)

pub returns-in-Ok-clause-none : goal.returns-in-Ok-clause-none
returns-in-Ok-clause-none g c =
    err_and c.with_steps.result _ _ c.with_steps.ensures.none
    (log_stops _ _ _ _ _ _ (replay_stops _ _ _ _ _ _ _ _ c.in_ok-live.ensures.leads)
    (resumed_stops _ (g.O.Outlet.view c.replay.new.outlet) (g.O.Outlet.view c.keep_more.new.outlet) (puts_of _ _ _ _ _ _ _ _ c.in_ok-live.ensures.leads) c.in-Ok.ensures.resumed))

pub returns-in-Err-clause-none : goal.returns-in-Err-clause-none
returns-in-Err-clause-none g c = (c.in-Err.ensures.none.0, log_stops _ _ _ _ _ _ (replay_stops _ _ _ _ _ _ _ _ c.in_ok-live.ensures.leads) c.in-Err.ensures.none.1)
