use Rattle.live_run.proofs.RetellLemmas.{none_stops}
use Rattle.live_run.proofs.retelling.retell.Goals as goal

pub returns-clause-retells : goal.returns-clause-retells
returns-clause-retells g c = none_stops _ _ _ _ _
