use Rattle.layout_files.proofs.Prelude.{◌≡◌, take, flat_map, line_of, ble_line, left_after}
use Rattle.layout_files.proofs.net_print.print_bles.Given as goal

-- those before this one are printed
abbrev pub invariant-loop-ble : goal.invariant-loop-ble
invariant-loop-ble l = l.print ≡ left_after l.initial.print (flat_map (λ ble. line_of (ble_line l.circuit l.arch ble)) (take l.ble-index l.bles))
