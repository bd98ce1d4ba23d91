use Rattle.layout_files.proofs.Prelude.{◌≡◌, take, flat_map, text_of, node_lines, left_after}
use Rattle.layout_files.proofs.route_print.print_paths.Given as goal

-- those before this one are printed
abbrev pub invariant-loop-path : goal.invariant-loop-path
invariant-loop-path l = l.print ≡ left_after l.initial.print (flat_map (λ path. text_of (node_lines l.rows path)) (take l.path-index l.paths))
