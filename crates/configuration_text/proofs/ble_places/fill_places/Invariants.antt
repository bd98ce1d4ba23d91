use Rattle.configuration_text.proofs.Prelude.{◌≡◌, ◌++◌, drop, filled_places, free_from}
use Rattle.configuration_text.proofs.ble_places.fill_places.Given as goal

abbrev pub invariant-loop-asked : goal.invariant-loop-asked
invariant-loop-asked l = l.filled.items ++ filled_places (drop l.asked-index l.routed) (free_from l.count l.routed l.from) ≡ filled_places l.routed (free_from l.count l.routed 0)
