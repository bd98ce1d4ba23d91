use Rattle.live_threads.proofs.ReplayLemmas.{none_stops}
use Rattle.live_threads.proofs.replaying.Replayed.serve_past.Goals as goal

pub returns-clause-stops : goal.returns-clause-stops
returns-clause-stops g c = none_stops _ _ _ _
