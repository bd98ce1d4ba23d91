use Rattle.layout_files.proofs.Prelude.{◌≡◌, take, flat_map, text_of, laid_lines, left_after}
use Rattle.layout_files.proofs.net_print.print_blocks.Given as goal

-- those before this one are printed
abbrev pub invariant-loop-laid : goal.invariant-loop-laid
invariant-loop-laid l = l.print ≡ left_after l.initial.print (flat_map (λ laid. text_of (laid_lines l.circuit l.arch laid)) (take l.laid-index l.blocks))
