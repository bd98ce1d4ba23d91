use Rattle.layout_files.proofs.Prelude.{◌≡◌, take, flat_map, word_after_space, net_name, or_open, left_after}
use Rattle.layout_files.proofs.net_print.print_pins.Given as goal

-- those before this one are printed
abbrev pub invariant-loop-pin : goal.invariant-loop-pin
invariant-loop-pin l = l.print ≡ left_after l.initial.print (flat_map (λ pin. word_after_space (or_open (net_name l.circuit) pin)) (take l.pin-index l.pins))
