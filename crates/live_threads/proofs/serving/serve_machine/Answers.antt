use Rattle.live_threads.proofs.EndLemmas.{ends_later}
use Rattle.live_threads.proofs.TakenLemmas.{takes_so}
use Rattle.live_threads.proofs.serving.serve_machine.Goals as goal

pub returns-in-Ok : goal.returns-in-Ok
returns-in-Ok g c = takes_so _ _ _ _ c.in-Ok.ensures.served (λ heard s. ends_later _ _ _ _ _ heard _ s c.end_service.ensures)
