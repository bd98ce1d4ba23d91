use Rattle.layout_check.proofs.Prelude.{◌≡◌, ◌++◌, map, take, traced_ble}
use Rattle.layout_check.proofs.elements.add_bles.Given as goal

abbrev pub invariant-loop-ble : goal.invariant-loop-ble
invariant-loop-ble l = l.elements.items ≡ l.initial.elements.items ++ map (traced_ble l.arch l.block) (take l.ble-index l.bles)
