use Rattle.layout_files.proofs.Prelude.{◌≡◌, take, enumerate_from, flat_map, text_of, between_lines, left_after}
use Rattle.layout_files.proofs.route_print.print_nets.Given as goal

-- those before this one are printed
abbrev pub invariant-loop-number : goal.invariant-loop-number
invariant-loop-number l = l.print ≡ left_after l.initial.print (flat_map (λ net. text_of (between_lines l.circuit l.strip l.layout net.0 net.1 net.1.listed)) (take l.number (enumerate_from 0 l.layout.nets)))
