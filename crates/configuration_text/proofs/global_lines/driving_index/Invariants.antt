use Rattle.configuration_text.proofs.Prelude.{◌≡◌, ◌==◌, ◌&&◌, drop, filter, slice_get, is_some, enumerate_from}
use Rattle.configuration_text.proofs.global_lines.driving_index.Given as goal

abbrev pub invariant-loop-index : goal.invariant-loop-index
invariant-loop-index l = slice_get (filter (λ ble. (ble.1.name == l.net) && is_some ble.1.output) (enumerate_from l.index (drop l.index l.bles))) 0 ≡ slice_get (filter (λ ble. (ble.1.name == l.net) && is_some ble.1.output) (enumerate_from 0 l.bles)) 0
