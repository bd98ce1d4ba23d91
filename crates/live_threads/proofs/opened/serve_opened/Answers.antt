use Rattle.live_threads.proofs.EndLemmas.{runs_on}
use Rattle.live_threads.proofs.TakenLemmas.{takes_so}
use Rattle.live_threads.proofs.opened.serve_opened.Goals as goal

pub returns : goal.returns
returns g c = takes_so _ _ _ _ c.serve_resumed-outcome.ensures (λ heard r. runs_on _ _ _ _ _ _ heard _ _ c.new-live.ensures.state r)
