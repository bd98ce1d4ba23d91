use Rattle.layout_files.proofs.Prelude.{◌≡◌, take, enumerate_from, flat_map, line_of, place_line, left_after}
use Rattle.layout_files.proofs.place_print.print_places.Given as goal

-- those before this one are printed
abbrev pub invariant-loop-number : goal.invariant-loop-number
invariant-loop-number l = l.print ≡ left_after l.initial.print (flat_map (λ block. line_of (place_line l.circuit block.0 block.1)) (take l.number (enumerate_from 0 l.blocks)))
