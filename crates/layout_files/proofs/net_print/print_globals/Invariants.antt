use Rattle.layout_files.proofs.Prelude.{◌≡◌, [], ◌∷◌, codes, take, flat_map, line_of, net_name, left_after}
use Rattle.layout_files.proofs.net_print.print_globals.Given as goal

-- those before this one are printed
abbrev pub invariant-loop-net : goal.invariant-loop-net
invariant-loop-net l = l.print ≡ left_after l.initial.print (flat_map (λ net. line_of (codes ".global" ∷ net_name l.circuit net ∷ [])) (take l.net-index l.globals))
