use Rattle.configuration_text.proofs.Prelude.{◌≡◌, ◌++◌, drop, map, enumerate_from, routed_place, routed_places}
use Rattle.configuration_text.proofs.ble_places.ble_numbers.Given as goal

abbrev pub invariant-loop-index : goal.invariant-loop-index
invariant-loop-index l = l.routed.items ++ map (λ ble. routed_place l.arch l.layout l.laid ble.0 ble.1) (enumerate_from l.index (drop l.index l.laid.bles)) ≡ routed_places l.arch l.layout l.laid
