use Rattle.configuration_text.proofs.Prelude.{◌≡◌, free_from}
use Rattle.configuration_text.proofs.ble_places.first_free.Given as goal

abbrev pub invariant-loop-place : goal.invariant-loop-place
invariant-loop-place l = free_from l.count l.routed l.place ≡ free_from l.count l.routed l.fn.from
