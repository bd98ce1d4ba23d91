use Rattle.layout_files.proofs.Prelude.{◌≡◌, ◌++◌, [], ◌∷◌, take, flat_map, node_text_of, left_after}
use Rattle.layout_files.proofs.route_print.print_path.Given as goal

-- those before this one are printed
abbrev pub invariant-loop-node : goal.invariant-loop-node
invariant-loop-node l = l.print ≡ left_after l.initial.print (flat_map (λ node. node_text_of l.rows node ++ (10 ∷ [])) (take l.node-index l.path))
