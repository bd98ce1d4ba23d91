use Rattle.live_threads.proofs.Prelude.{inl}
use Rattle.live_threads.proofs.EndLemmas.{runs_service}
use Rattle.live_threads.proofs.TakenLemmas.{takes_none, takes_so}
use Rattle.live_threads.proofs.opened.serve_resumed.Goals as goal

pub returns-in-Ok : goal.returns-in-Ok
returns-in-Ok g c = takes_so _ _ _ _ c.serve_machine.ensures (λ heard e. runs_service _ _ _ _ _ _ _ heard _ c.in-Ok.ensures.resumes e)

pub returns-in-Err : goal.returns-in-Err
returns-in-Err g c = takes_none _ _ (inl c.in-Err.ensures.none)
