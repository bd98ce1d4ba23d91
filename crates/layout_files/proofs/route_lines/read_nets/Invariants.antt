use Rattle.layout_files.proofs.Prelude.{◌≡◌, All, [], Some, length, Circuit, Strip, Layout, between_lines, text_of, size, FitsNet, HasFileNames, IsSmallPlace, HasWholePaths, nets_text}
use Rattle.layout_files.proofs.Halfway.{Halfway}
use Rattle.layout_files.proofs.route_lines.read_nets.Given as goal

-- some nets are read, and the lines of the others are left
abbrev pub invariant-loop-cursor : goal.invariant-loop-cursor
invariant-loop-cursor l = (circuit : Circuit) (strip : Strip) (layout : Layout) → l.context.names.now ≡ circuit.nets → HasFileNames circuit → All (λ laid. IsSmallPlace laid.place) layout.blocks
    → All (FitsNet (length circuit.nets)) layout.nets → All HasWholePaths layout.nets → l.initial.cursor ≡ Some (nets_text circuit strip layout)
    → Halfway (λ k net. text_of (between_lines circuit strip layout k net net.listed)) (λ net. net) layout.nets [] l.nets.items l.cursor

abbrev pub decreases-loop-cursor : goal.decreases-loop-cursor
decreases-loop-cursor l = size l.cursor
