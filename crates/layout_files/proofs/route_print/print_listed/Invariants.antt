use Rattle.layout_files.proofs.Prelude.{◌≡◌, take, flat_map, line_of, block_of, listed_line, left_after}
use Rattle.layout_files.proofs.route_print.print_listed.Given as goal

-- those before this one are printed
abbrev pub invariant-loop-number : goal.invariant-loop-number
invariant-loop-number l = l.print ≡ left_after l.initial.print (flat_map (λ block. line_of (listed_line l.circuit block (block_of l.layout block))) (take l.number-index l.listed))
